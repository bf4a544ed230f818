-- A run tells no wait. Assumes nothing.
use Prim.Native.Nat.{suc, zero, ℕ}
use mathlib.Core.List.{List, [], ◌++◌, ◌∷◌}
use mathlib.Core.Path.{◌∙◌, ◌≡◌, refl, subst}
use native.Mathlib.Omega.{arith}
use Rattle.std.specs.Prelude.{false, None, Ok, Err, Option, Result, Some, ⊤}
use Rattle.accuracy.specs.Accuracy.{Run, after, one, one_by}
use Rattle.isa.specs.Machine.{Source, first, is_empty}
use Rattle.pipeline.specs.Tick.{tick, wait_of}
use Rattle.pipeline.specs.Turn.{reply}
use Rattle.runs.specs.Claims.{RunUntold}
use Rattle.runs.specs.Names.{End, Given, PipelineCpu, Refusal}
use Rattle.runs.specs.Run.{Played, ended, left_after, more, play, play_by, turn_of}

-- no wait is told in any of these ticks
None_told : List Given → Type 0
None_told [] = ⊤
None_told (t ∷ ts) = (wait_of t ≡ 0) × None_told ts

-- nor in the first of them
first_told : (pre post : List Given) → None_told (pre ++ post) → None_told pre
unfolding None_told
first_told [] post h = tt
first_told (t ∷ pre) post h = (h.0, first_told pre post h.1)

-- so they add nothing
one_untold : (o : Result PipelineCpu Refusal) (t : Given) (r : Run) → wait_of t ≡ 0 → (one_by o t r).waits ≡ r.waits
unfolding one_by
one_untold (Err c) t r e = refl
one_untold (Ok s) t r e = omega arith

all_untold : (ts : List Given) (r : Run) → None_told ts → (after r ts).waits ≡ r.waits
unfolding None_told after one
all_untold [] r h = refl
all_untold (t ∷ ts) r h = all_untold ts (one r t) h.1 ∙ one_untold (tick r.state t) t r h.0

-- the ticks of a run are such
module _ (src : Source) where
  reply_untold : (v : ℕ) (s : PipelineCpu) → wait_of (reply src v s) ≡ 0
  unfolding wait_of reply
  reply_untold v s = refl

  told_by : (u : Option End) (o : Result PipelineCpu Refusal) (s : PipelineCpu) (v : ℕ) (k : PipelineCpu → Played)
      → ((x : PipelineCpu) → None_told (k x).ticks) → None_told (play_by u o s (reply src v s) k).ticks
  unfolding play_by ended more None_told
  told_by (Some e) o s v k h = tt
  told_by None (Err c) s v k h = tt
  told_by None (Ok x) s v k h = (reply_untold v s, h x)

  none_told : (n : ℕ) (l : List ℕ) (s : PipelineCpu) → None_told (play src n l s).ticks
  unfolding play ended None_told
  none_told zero l s = tt
  none_told (suc n) l s =
      told_by (turn_of s.stages s.counts false (is_empty l)) (tick s (reply src (first l) s)) s (first l) _
      (λ x. none_told n (left_after s l) x)

pub run_untold : RunUntold
run_untold src limit l r pre post e =
    all_untold pre r (first_told pre post (subst None_told e (none_told src limit l r.state)))
