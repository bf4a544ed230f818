-- How a run goes on, and how it ends. Assumes nothing.
use Prim.Native.Nat.{suc, zero, ℕ}
use mathlib.Core.Bool.{Bool, cond, false, true}
use mathlib.Core.List.{List}
use mathlib.Core.Path.{◌∙◌, ◌≡◌, ap, sym}
use Rattle.std.specs.Prelude.{None, Some, Ok}
use Rattle.isa.specs.Machine.{Source, first, is_empty}
use Rattle.pipeline.specs.Tick.{tick}
use Rattle.pipeline.specs.Turn.{reply}
use Rattle.sheet.proofs.LastTurn.{last_is}
use Rattle.sheet.specs.Turns.{turn_by}
use Rattle.stages.specs.Counting.{counter_full}
use Rattle.stages.specs.Refusals.{faulty}
use Rattle.runs.specs.Names.{End, Halted, PipelineCpu, Spent}
use Rattle.runs.specs.Run.{ended, left_after, more, play, play_by, turn_of}

-- by the five tests, the end of a turn with the limit used up
last_by : (r a b d : Bool) (e : End) → turn_by r true a b d ≡ Some e → cond r Spent Halted ≡ e
last_by r a b d e q = let z = sym (last_is r a b d) ∙ q in cc

-- such a turn ends the run
pub turn_last : (s : PipelineCpu) (none : Bool)
    → turn_of s.stages s.counts true none ≡ Some (cond s.stages.running Spent Halted)
unfolding turn_of
turn_last s none = last_is s.stages.running (faulty s.stages) (counter_full s.counts) _

module _ (src : Source) where
  -- the run of a machine that has stopped ends at once
  pub play_stopped : (n : ℕ) (l : List ℕ) (s : PipelineCpu) → s.stages.running ≡ false
      → play src n l s ≡ ended Halted s
  unfolding play turn_of turn_by ended play_by
  play_stopped zero l s e = rw e
  play_stopped (suc n) l s e = rw e

  -- a turn with the limit used up
  pub play_last : (l : List ℕ) (s : PipelineCpu) (none : Bool) (e : End) → turn_of s.stages s.counts true none ≡ Some e
      → play src zero l s ≡ ended e s
  unfolding play turn_of
  play_last l s none e a =
      ap (λ (x : End). ended x s) (last_by s.stages.running (faulty s.stages) (counter_full s.counts) _ e a)

  -- a turn below the limit that ends the run
  pub play_ends : (n : ℕ) (l : List ℕ) (s : PipelineCpu) (e : End) → turn_of s.stages s.counts false
      (is_empty l) ≡ Some e
      → play src (suc n) l s ≡ ended e s
  unfolding play play_by
  play_ends n l s e a = rw a

  -- a turn below the limit whose tick is accepted
  pub play_goes : (n : ℕ) (l : List ℕ) (s s' : PipelineCpu) → turn_of s.stages s.counts false (is_empty l) ≡ None
      → tick s (reply src (first l) s) ≡ Ok s'
      → play src (suc n) l s ≡ more (reply src (first l) s) (play src n (left_after s l) s')
  unfolding play play_by
  play_goes n l s s' a b = λ j. play_by (a j) (b j) s (reply src (first l) s) (λ x. play src n (left_after s l) x)
