-- What a turn tells. Assumes nothing.
use Prim.Native.Nat.{ℕ}
use mathlib.Core.Bool.{Bool, false, true}
use mathlib.Core.List.{List}
use mathlib.Core.Path.{◌≡◌, refl}
use Rattle.std.specs.Prelude.{None, Some}
use Rattle.isa.proofs.Bools.{and_r, split}
use Rattle.isa.specs.Machine.{is_empty}
use Rattle.sheet.specs.Turns.{turn_by}
use Rattle.stages.proofs.Awake.{runs_awake}
use Rattle.stages.specs.Advance.{awake, waits_for_memory}
use Rattle.stages.specs.Counting.{counter_full}
use Rattle.stages.specs.Loads.{want_load}
use Rattle.stages.specs.Refusals.{faulty}
use Rattle.runs.specs.Names.{Halted, PipelineCpu}
use Rattle.runs.specs.Run.{turn_of}

-- by the five tests, a turn that ticks runs, is below the limit, not at 12, no counter is full, and no load is unanswered
ticks_by : (r p a b d : Bool) → turn_by r p a b d ≡ None
    → (r ≡ true) × (p ≡ false) × (a ≡ false) × (b ≡ false) × (d ≡ false)
unfolding turn_by
ticks_by true false false false false e = (refl, refl, refl, refl, refl)
ticks_by true false false false true e = cc
ticks_by true false false true d e = cc
ticks_by true false true b d e = cc
ticks_by true true a b d e = cc
ticks_by false p a b d e = cc

-- so it runs, is not at 12, and no counter is full
pub turn_ticks : (s : PipelineCpu) (none : Bool) → turn_of s.stages s.counts false none ≡ None
    → (s.stages.running ≡ true) × (faulty s.stages ≡ false) × (counter_full s.counts ≡ false)
unfolding turn_of
turn_ticks s none e =
    let k = ticks_by s.stages.running false (faulty s.stages) (counter_full s.counts) _ e in (k.0, k.2, k.3)

-- it moves, unless it waits for the memory
pub turn_moves : (s : PipelineCpu) (none : Bool) → turn_of s.stages s.counts false none ≡ None
    → waits_for_memory s.stages ≡ false → awake s.stages ≡ true
turn_moves s none e f = runs_awake s.stages (turn_ticks s none e).0 f

-- a turn that ticks has an answer for its load
pub turn_load : (s : PipelineCpu) (l : List ℕ) → turn_of s.stages s.counts false (is_empty l) ≡ None → want_load
    s.stages ≡ true
    → is_empty l ≡ false
unfolding turn_of
turn_load s l e h = and_r (want_load s.stages) (is_empty l)
    (ticks_by s.stages.running false (faulty s.stages) (counter_full s.counts) _ e).4 h

-- by the five tests, only a machine that has stopped ends halted
rests_by : (r p a b d : Bool) → turn_by r p a b d ≡ Some Halted → r ≡ false
unfolding turn_by
rests_by false p a b d e = refl
rests_by true true a b d e = cc
rests_by true false true b d e = cc
rests_by true false false true d e = cc
rests_by true false false false true e = cc
rests_by true false false false false e = cc

-- a turn that ends halted is of a machine that has stopped
pub turn_rests : (s : PipelineCpu) (l : List ℕ) → turn_of s.stages s.counts false (is_empty l) ≡ Some Halted
    → s.stages.running ≡ false
unfolding turn_of
turn_rests s l e = rests_by s.stages.running false (faulty s.stages) (counter_full s.counts) _ e

-- a turn of a running machine with no refusal and no load unanswered ticks
pub turn_goes : (s : PipelineCpu) (l : List ℕ) → s.stages.running ≡ true → faulty s.stages ≡ false
    → counter_full s.counts ≡ false
    → (want_load s.stages ≡ true → is_empty l ≡ false) → turn_of s.stages s.counts false (is_empty l) ≡ None
unfolding turn_of turn_by
turn_goes s l a b c d = split (want_load s.stages) (λ e. rw (b, c, e, d e, a)) (λ e. rw (b, c, e, a))
