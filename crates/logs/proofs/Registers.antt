-- The 81 entries laid over registers give those that the ticks leave, but for R0, which reads as 0. Assumes nothing.
use Prim.Native.Nat.{◌<◌, ℕ}
use borrow.Author.Tests.{ltb-true}
use lib.ListN.{get_or, set}
use lib.Seq.{get_or-set_other, set-set, set_comm}
use mathlib.Core.Bool.{Bool, cond, false, not, true}
use mathlib.Core.List.{List, [], ◌++◌, ◌∷◌}
use mathlib.Core.Path.{◌∙◌, ◌≡◌, ap, refl, sym}
use native.Mathlib.Omega.{arith}
use Rattle.std.specs.Prelude.{Err, None, Ok, Option, Result, Some}
use Rattle.std.proofs.lemmas.Bool.{and_parts}
use Rattle.isa.proofs.Bools.{split}
use Rattle.isa.specs.Registers.{is_reg, put_reg, read_reg}
use Rattle.latch.specs.Bounds.{bad_width}
use Rattle.latch.specs.Retire.{retire_cpuid, retire_reg, retired_regs}
use Rattle.cardlog.proofs.RoundTrip.{is_taken}
use Rattle.cardlog.specs.Events.{access_events, cpuid_events, dest_events, retire_events}
use Rattle.logging.specs.Logging.{events, tick_events}
use Rattle.pipeline.proofs.Resting.{rests}
use Rattle.pipeline.specs.Advance.{move_of, next}
use Rattle.pipeline.specs.Retire.{retire}
use Rattle.pipeline.specs.Tick.{taken, tick}
use Rattle.stages.specs.Advance.{awake}
use Rattle.accuracy.proofs.Took.{advance_regs, took}
use Rattle.accuracy.specs.Accuracy.{Run, after, one, one_by}
use Rattle.accuracy.specs.Names.{MemWb, Taken}
use Rattle.logs.proofs.Along.{along, events_along, from}
use Rattle.logs.proofs.Taken.{all_taken, taken_along}
use Rattle.logs.proofs.Ticks.{accesses, asleep_events, awake_events, retire_full, retire_gap, writes_of}
use Rattle.logs.specs.Entries.{laid_over}
use Rattle.logs.specs.Logs.{Kept, done, happened, kept, unless_refused}
use Rattle.logs.specs.Names.{Event, Given, Load, Loaded, PipelineCpu, Refusal, Request, Retired, Store, Stored, Written}

-- the same but for R0
abbrev pub Same : List ℕ → List ℕ → Type 0
Same a b = set a 0 0 ≡ set b 0 0

same_zero : (a b : List ℕ) → Same a b → Same a (set b 0 0)
same_zero a b h = h ∙ sym (set-set b 0 0 0)

reg_one : (d : ℕ) → is_reg d ≡ true → 0 < d
unfolding is_reg
reg_one d h = ltb-true 0 d (and_parts _ _ h).0

same_set : (a b : List ℕ) (d v : ℕ) → 0 < d → Same a b → Same (set a d v) (set b d v)
same_set a b d v h e =
    let n : d ≡ 0 → ⊥ = λ z. absurd (omega arith) in
    set_comm a d 0 v 0 n ∙ ap (λ (l : List ℕ). set l d v) e ∙ sym (set_comm b d 0 v 0 n)

pub laid_same : (es : List Event) (a b : List ℕ) → all_taken es ≡ true → Same a b
    → Same (laid_over es a) (laid_over es b)
unfolding laid_over all_taken is_taken
laid_same [] a b h e = e
laid_same (Retired p ∷ es) a b h e = laid_same es a b h e
laid_same (Written r v ∷ es) a b h e = let x = and_parts (is_reg r) (all_taken es) h in
    laid_same es (set a r v) (set b r v) x.1 (same_set a b r v (reg_one r x.0) e)
laid_same (Loaded p w v ∷ es) a b h e = laid_same es a b (and_parts (not (bad_width w)) (all_taken es) h).1 e
laid_same (Stored p w v ∷ es) a b h e = laid_same es a b (and_parts (not (bad_width w)) (all_taken es) h).1 e

pub laid_append : (x y : List Event) (a : List ℕ) → laid_over (x ++ y) a ≡ laid_over y (laid_over x a)
unfolding laid_over
laid_append [] y a = refl
laid_append (Retired p ∷ x) y a = laid_append x y a
laid_append (Written r v ∷ x) y a = laid_append x y (set a r v)
laid_append (Loaded p w v ∷ x) y a = laid_append x y a
laid_append (Stored p w v ∷ x) y a = laid_append x y a

same_dest : (d : Option ℕ) (v : ℕ) (a b : List ℕ) → Same a b → Same (laid_over (dest_events d v) a) (retire_reg d v b)
unfolding dest_events laid_over retire_reg put_reg
same_dest None v a b e = e
same_dest (Some d) v a b e = split (is_reg d)
    (λ z. rw z (same_zero (set a d v) (set b d v) (same_set a b d v (reg_one d z) e)))
    (λ z. rw z (same_zero a b e))

same_cpuid : (c : Bool) (f : ℕ) (a : List ℕ) → Same (laid_over (cpuid_events c f) a) (retire_cpuid c f a)
unfolding cpuid_events laid_over retire_cpuid
same_cpuid true f a = same_zero (set (set a 1 0x53524332) 2 f) (set (set a 1 0x53524332) 2 f) refl
same_cpuid false f a = refl

-- what MEM/WB writes
writes_by : (w : Bool) (l : MemWb) (f : ℕ) (a : List ℕ)
    → Same (laid_over (cpuid_events l.cpuid f ++ cond w (dest_events l.dest l.value) []) a)
    (cond w (retire_reg l.dest l.value (retire_cpuid l.cpuid f a)) (retire_cpuid l.cpuid f a))
unfolding laid_over
writes_by true l f a = rw (laid_append (cpuid_events l.cpuid f) (dest_events l.dest l.value) a)
    (same_dest l.dest l.value _ _ (same_cpuid l.cpuid f a))
writes_by false l f a = rw (laid_append (cpuid_events l.cpuid f) [] a) (same_cpuid l.cpuid f a)

same_retire : (v : Bool) (l : MemWb) (f : ℕ) (a : List ℕ) → l.valid ≡ v
    → Same (laid_over (retire_events l f) a) (retired_regs l f a)
unfolding laid_over retired_regs writes_of
same_retire true l f a e = rw (retire_full l f e, e) (writes_by l.writeback l f a)
same_retire false l f a e = rw (retire_gap l f e, e)

-- a load or store writes none
pub access_none : (q : Option Request) (n : ℕ) (a : List ℕ) → laid_over (access_events q n) a ≡ a
unfolding access_events laid_over
access_none None n a = refl
access_none (Some (Load p w)) n a = refl
access_none (Some (Store p w v)) n a = refl

retire_regs : (s : PipelineCpu)
    → Same (laid_over (retire_events s.stages.mem_wb s.stages.features) s.reg) (retire s).reg
unfolding retire
retire_regs s = same_retire s.stages.mem_wb.valid s.stages.mem_wb s.stages.features s.reg refl

-- one tick
same_next : (s : PipelineCpu) (x : Taken) → Same (laid_over (events s.stages x.answer) s.reg) (next s x).reg
unfolding next laid_over accesses
same_next s x = split (awake s.stages)
    (λ e. rw (
      e,
      awake_events s.stages x.answer e,
      laid_append (retire_events s.stages.mem_wb s.stages.features) (accesses s.stages x.answer) s.reg,
      access_none _ x.answer (laid_over (retire_events s.stages.mem_wb s.stages.features) s.reg),
      advance_regs (move_of (retire s)) (retire s) x,
    ) (retire_regs s))
    (λ e. rw (e, asleep_events s.stages x.answer e, (rests s).reg))

same_by : (o : Result PipelineCpu Refusal) (r : Run) (t : Given) → tick r.state t ≡ o
    → Same (laid_over (unless_refused o (tick_events r.state t)) r.state.reg) (one_by o t r).state.reg
unfolding unless_refused one_by laid_over tick_events taken
same_by (Err c) r t e = refl
same_by (Ok s) r t e = rw (← (took r.state t s e).is) (same_next r.state (taken t))

pub same_one : (r : Run) (t : Given)
    → Same (laid_over (unless_refused (tick r.state t) (tick_events r.state t)) r.state.reg) (one r t).state.reg
unfolding one
same_one r t = same_by (tick r.state t) r t refl

-- a list
pub same_along : (ts : List Given) (r : Run) → Same (laid_over (events_along r ts) r.state.reg) (after r ts).state.reg
unfolding events_along after laid_over
same_along [] r = refl
same_along (t ∷ ts) r =
    let es = unless_refused (tick r.state t) (tick_events r.state t) in
    rw (laid_append es (events_along (one r t) ts) r.state.reg)
    (laid_same (events_along (one r t) ts) _ _ (taken_along ts (one r t)) (same_one r t) ∙ same_along ts (one r t))

pub same_read : (a b : List ℕ) (r : ℕ) → Same a b → read_reg a r ≡ read_reg b r
unfolding read_reg
same_read a b r e = split (is_reg r)
    (λ z. let n : r ≡ 0 → ⊥ = λ y. absurd (let h = reg_one r z in omega arith) in
    rw z (sym (get_or-set_other a 0 r 0 0 n) ∙ ap (λ (l : List ℕ). get_or l r 0) e ∙ get_or-set_other b 0 r 0 0 n))
    (λ z. rw z)

pub registers : (k : Kept) (ts : List Given) (r : ℕ)
    → read_reg (laid_over (happened k ts) k.state.reg) r ≡ read_reg (kept k ts).state.reg r
registers k ts r =
    let x = along ts k (from k.state) refl in
    ap (λ (es : List Event). read_reg (laid_over es k.state.reg) r) (sym x.0)
    ∙ same_read _ _ r (same_along (done k ts) (from k.state))
    ∙ ap (λ (s : PipelineCpu). read_reg s.reg r) x.1
