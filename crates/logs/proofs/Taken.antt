-- A list of ticks writes only events that the reader takes: registers 1 to 31, widths 0, 1, 2 and 4. Assumes nothing.
use Prim.Native.Nat.{ℕ}
use mathlib.Core.Bool.{Bool, ◌&&◌, cond, false, not, true}
use mathlib.Core.List.{List, [], ◌++◌, ◌∷◌}
use mathlib.Core.Path.{◌≡◌, refl}
use Rattle.std.specs.Prelude.{Err, None, Ok, Option, Result, Some}
use Rattle.std.proofs.lemmas.Bool.{and_from, and_parts, or_parts}
use Rattle.isa.proofs.Bools.{split}
use Rattle.isa.specs.Machine.{request_of}
use Rattle.isa.specs.Operands.{ok_dest}
use Rattle.isa.specs.Refusals.{ok_decoded}
use Rattle.isa.specs.Registers.{is_reg}
use Rattle.latch.specs.Bounds.{bad_ex_mem, bad_width}
use Rattle.latch.specs.Memory.{loads, request_in, requests, stores}
use Rattle.cardlog.proofs.RoundTrip.{is_taken}
use Rattle.cardlog.specs.Events.{access_events, cpuid_events, dest_events, retire_events}
use Rattle.logging.specs.Logging.{events, tick_events}
use Rattle.pipeline.specs.Tick.{tick, word_in}
use Rattle.stages.specs.Advance.{awake}
use Rattle.stages.specs.Refusals.{out_of_bounds}
use Rattle.stages.specs.Retire.{retire_stages}
use Rattle.accuracy.proofs.Bounds.{retire_in, within}
use Rattle.accuracy.proofs.Took.{took}
use Rattle.accuracy.specs.Accuracy.{Run, one}
use Rattle.accuracy.specs.Names.{ExMem, MemWb, Stages}
use Rattle.logs.proofs.Along.{events_along}
use Rattle.logs.proofs.Ticks.{accesses, asleep_events, awake_events, retire_full, retire_gap, writes_of}
use Rattle.logs.specs.Logs.{unless_refused}
use Rattle.logs.specs.Names.{Event, Given, PipelineCpu, Refusal}

unfoldable pub all_taken : List Event → Bool
all_taken [] = true
all_taken (e ∷ es) = is_taken e && all_taken es

taken_append : (a b : List Event) → all_taken a ≡ true → all_taken b ≡ true → all_taken (a ++ b) ≡ true
unfolding all_taken
taken_append [] b h i = i
taken_append (e ∷ a) b h i =
    let x = and_parts (is_taken e) (all_taken a) h in and_from (is_taken e) _ x.0 (taken_append a b x.1 i)

taken_none : all_taken [] ≡ true
unfolding all_taken
taken_none = refl

taken_if : (b : Bool) (es : List Event) → all_taken es ≡ true → all_taken (cond b es []) ≡ true
taken_if true es h = h
taken_if false es h = taken_none

taken_cpuid : (c : Bool) (f : ℕ) → all_taken (cpuid_events c f) ≡ true
unfolding all_taken is_taken cpuid_events is_reg
taken_cpuid true f = refl
taken_cpuid false f = refl

taken_dest : (d : Option ℕ) (v : ℕ) → all_taken (dest_events d v) ≡ true
unfolding all_taken is_taken dest_events
taken_dest None v = refl
taken_dest (Some d) v = split (is_reg d) (λ e. rw (e, e)) (λ e. rw e)

pub taken_writes : (l : MemWb) (f : ℕ) → all_taken (writes_of l f) ≡ true
unfolding writes_of
taken_writes l f = taken_append (cpuid_events l.cpuid f) _ (taken_cpuid l.cpuid f)
    (taken_if l.writeback (dest_events l.dest l.value) (taken_dest l.dest l.value))

taken_access : (v l s : Bool) (p w x a : ℕ) → bad_width w ≡ false
    → all_taken (access_events (request_in (cond v (request_of l s p w x) [])) a) ≡ true
unfolding access_events request_in request_of all_taken is_taken
taken_access true true s p w x a h = rw h
taken_access true false true p w x a h = rw h
taken_access true false false p w x a h = refl
taken_access false l s p w x a h = refl

-- EX/MEM in bounds has such a width
width_in : (l : ExMem) → bad_ex_mem l ≡ false → bad_width l.mem_size ≡ false
unfolding bad_ex_mem
width_in l h = (or_parts (not (ok_dest l.dest)) _ (or_parts (not (ok_decoded l.decoded)) _ h).1).1

taken_accesses : (l : Stages) (a : ℕ) → out_of_bounds l ≡ false → all_taken (accesses l a) ≡ true
unfolding accesses requests
taken_accesses l a h =
    let x = (retire_stages l).ex_mem in
    taken_access x.valid (loads x) (stores x) x.mem_addr x.mem_size x.store_value a
    (width_in x (retire_in l (within l h)).ex_mem)

taken_retire : (v : Bool) (l : MemWb) (f : ℕ) → l.valid ≡ v → all_taken (retire_events l f) ≡ true
unfolding all_taken is_taken
taken_retire true l f e = rw (retire_full l f e) (taken_writes l f)
taken_retire false l f e = rw (retire_gap l f e)

-- a tick's events on stages in bounds
taken_events : (l : Stages) (a : ℕ) → out_of_bounds l ≡ false → all_taken (events l a) ≡ true
taken_events l a h = split (awake l)
    (λ e. rw (awake_events l a e) (taken_append (retire_events l.mem_wb l.features) _
    (taken_retire l.mem_wb.valid l.mem_wb l.features refl) (taken_accesses l a h)))
    (λ e. rw (asleep_events l a e) taken_none)

-- an accepted tick's state is in bounds
pub taken_by : (o : Result PipelineCpu Refusal) (s : PipelineCpu) (t : Given) → tick s t ≡ o
    → all_taken (unless_refused o (tick_events s t)) ≡ true
unfolding unless_refused tick_events
taken_by (Err c) s t e = taken_none
taken_by (Ok s') s t e = taken_events s.stages (word_in t.answer) (took s t s' e).bounds

pub taken_along : (ts : List Given) (r : Run) → all_taken (events_along r ts) ≡ true
unfolding events_along
taken_along [] r = taken_none
taken_along (t ∷ ts) r =
    taken_append (unless_refused (tick r.state t) (tick_events r.state t)) _ (taken_by (tick r.state t) r.state t refl)
    (taken_along ts (one r t))
