-- A tick's events, by whether it moves anything and MEM/WB is valid, and what they say. Assumes nothing.
use Prim.Native.Nat.{◌+◌, suc, ℕ}
use mathlib.Core.Bool.{Bool, ◌&&◌, cond, false, true}
use mathlib.Core.List.{List, [], ◌++◌, ◌∷◌}
use mathlib.Core.Path.{◌∙◌, ◌≡◌, ap, refl}
use native.Mathlib.Omega.{arith}
use Rattle.std.specs.Prelude.{None, Option, Some}
use Rattle.std.proofs.lemmas.List.Concat.{flat_map-append}
use Rattle.isa.proofs.Bools.{split}
use Rattle.isa.specs.Machine.{request_of}
use Rattle.isa.specs.Registers.{is_reg}
use Rattle.latch.specs.Memory.{loads, request_in, requests, stores}
use Rattle.cardlog.specs.Events.{access_events, cpuid_events, dest_events, retire_events}
use Rattle.logging.specs.Logging.{events}
use Rattle.pipeline.specs.Ask.{asks}
use Rattle.stages.specs.Advance.{awake}
use Rattle.stages.specs.Loads.{loads_in, want_load}
use Rattle.stages.specs.Retire.{retire_stages}
use Rattle.word.specs.Words.{bit}
use Rattle.accuracy.specs.Names.{MemWb, Stages}
use Rattle.logs.specs.Entries.{loaded, request_said, requests_in, retirements, word_said}
use Rattle.logs.specs.Names.{Event, Loaded, Request, Retired, Stored, Written}

-- the load or store of a tick that moves, with answer a
unfoldable pub accesses : Stages → ℕ → List Event
accesses l a = access_events (request_in (requests (retire_stages l).ex_mem)) a

-- a tick's events where it moves something, and where it moves nothing
pub awake_events : (l : Stages) (a : ℕ) → awake l ≡ true
    → events l a ≡ retire_events l.mem_wb l.features ++ accesses l a
unfolding events asks accesses
awake_events l a e = rw e

pub asleep_events : (l : Stages) (a : ℕ) → awake l ≡ false → events l a ≡ []
unfolding events
asleep_events l a e = rw e

-- what MEM/WB writes, behind its 80
unfoldable pub writes_of : MemWb → ℕ → List Event
writes_of l f = cpuid_events l.cpuid f ++ cond l.writeback (dest_events l.dest l.value) []

pub retire_full : (l : MemWb) (f : ℕ) → l.valid ≡ true → retire_events l f ≡ Retired l.pc ∷ writes_of l f
unfolding retire_events writes_of
retire_full l f e = rw e

pub retire_gap : (l : MemWb) (f : ℕ) → l.valid ≡ false → retire_events l f ≡ []
unfolding retire_events
retire_gap l f e = rw e

-- how many retire in two runs of events, one behind the other
pub retirements_append : (a b : List Event) → retirements (a ++ b) ≡ retirements a + retirements b
unfolding retirements
retirements_append [] b = omega arith
retirements_append (Retired p ∷ a) b = let h = retirements_append a b in omega arith
retirements_append (Written r v ∷ a) b = retirements_append a b
retirements_append (Loaded p w v ∷ a) b = retirements_append a b
retirements_append (Stored p w v ∷ a) b = retirements_append a b

-- events that write registers, and nothing else
pub record OnlyWrites (es : List Event) : Type 0 where
  pub requests : requests_in es ≡ []
  pub loaded : loaded es ≡ []
  pub retired : retirements es ≡ 0

only_none : OnlyWrites []
unfolding request_said word_said retirements
only_none = record { requests = refl; loaded = refl; retired = refl }

only_append : (a b : List Event) → OnlyWrites a → OnlyWrites b → OnlyWrites (a ++ b)
only_append a b x y = record {
  requests = flat_map-append request_said a b ∙ (λ j. x.requests j ++ y.requests j);
  loaded = flat_map-append word_said a b ∙ (λ j. x.loaded j ++ y.loaded j);
  retired = retirements_append a b ∙ (λ j. x.retired j + y.retired j);
}

only_cpuid : (c : Bool) (f : ℕ) → OnlyWrites (cpuid_events c f)
unfolding cpuid_events request_said word_said retirements
only_cpuid true f = record { requests = refl; loaded = refl; retired = refl }
only_cpuid false f = only_none

only_dest : (d : Option ℕ) (v : ℕ) → OnlyWrites (dest_events d v)
unfolding dest_events request_said word_said retirements
only_dest None v = only_none
only_dest (Some d) v = by (is_reg d)
  where
    by : (b : Bool) → OnlyWrites (cond b (Written d v ∷ []) [])
    by true = record { requests = refl; loaded = refl; retired = refl }
    by false = only_none

only_if : (b : Bool) (es : List Event) → OnlyWrites es → OnlyWrites (cond b es [])
only_if true es h = h
only_if false es h = only_none

pub only_writes : (l : MemWb) (f : ℕ) → OnlyWrites (writes_of l f)
unfolding writes_of
only_writes l f = only_append (cpuid_events l.cpuid f) _ (only_cpuid l.cpuid f)
    (only_if l.writeback (dest_events l.dest l.value) (only_dest l.dest l.value))

-- what MEM/WB's events say, where it is valid (v) and where not
record RetireSays (v : Bool) (es : List Event) : Type 0 where
  pub requests : requests_in es ≡ []
  pub loaded : loaded es ≡ []
  pub retired : retirements es ≡ bit v

retires_by : (v : Bool) (l : MemWb) (f : ℕ) → l.valid ≡ v → RetireSays v (retire_events l f)
unfolding request_said word_said retirements bit
retires_by true l f e = let w = only_writes l f in rw (retire_full l f e)
    (record { requests = w.requests; loaded = w.loaded; retired = ap suc w.retired })
retires_by false l f e = rw (retire_gap l f e) (record { requests = refl; loaded = refl; retired = refl })

retires : (l : MemWb) (f : ℕ) → RetireSays l.valid (retire_events l f)
retires l f = retires_by l.valid l f refl

-- what a load or store says
record AccessSays (v l : Bool) (qs : List Request) (a : ℕ) (es : List Event) : Type 0 where
  pub requests : requests_in es ≡ qs
  pub loaded : loaded es ≡ cond (v && l) (a ∷ []) []
  pub retired : retirements es ≡ 0

accesses_by : (v l s : Bool) (p w x a : ℕ) → AccessSays v l (cond v (request_of l s p w x) []) a
    (access_events (request_in (cond v (request_of l s p w x) [])) a)
unfolding access_events request_in request_of request_said word_said retirements
accesses_by true true s p w x a = record { requests = refl; loaded = refl; retired = refl }
accesses_by true false true p w x a = record { requests = refl; loaded = refl; retired = refl }
accesses_by true false false p w x a = record { requests = refl; loaded = refl; retired = refl }
accesses_by false l s p w x a = record { requests = refl; loaded = refl; retired = refl }

accesses_lem : (l : Stages) (a : ℕ)
    → AccessSays (retire_stages l).ex_mem.valid (loads (retire_stages l).ex_mem) (requests (retire_stages l).ex_mem) a
    (accesses l a)
unfolding accesses requests
accesses_lem l a = let x = (retire_stages l).ex_mem in
    accesses_by x.valid (loads x) (stores x) x.mem_addr x.mem_size x.store_value a

-- what a tick's events say
pub record Says (l : Stages) (a : ℕ) : Type 0 where
  pub requests : requests_in (events l a) ≡ asks l
  pub loaded : loaded (events l a) ≡ cond (want_load l) (a ∷ []) []
  pub retired : retirements (events l a) ≡ cond (awake l) (bit l.mem_wb.valid) 0

pub says : (l : Stages) (a : ℕ) → Says l a
unfolding asks want_load loads_in request_said word_said retirements
says l a = let x = retires l.mem_wb l.features in let y = accesses_lem l a in split (awake l)
    (λ e. let es = retire_events l.mem_wb l.features in record {
      requests = rw (awake_events l a e, e, flat_map-append request_said es (accesses l a), x.requests) y.requests;
      loaded = rw (awake_events l a e, e, flat_map-append word_said es (accesses l a), x.loaded) y.loaded;
      retired = rw (
        awake_events l a e,
        e,
        retirements_append es (accesses l a),
        x.retired,
        y.retired,
      ) (omega arith);
    })
    (λ e. record {
      requests = rw (asleep_events l a e, e);
      loaded = rw (asleep_events l a e, e);
      retired = rw (asleep_events l a e, e);
    })
