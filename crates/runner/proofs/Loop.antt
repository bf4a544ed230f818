-- One turn of the runner's loop. Assumes nothing.
use Prim.Native.Nat.{◌+◌, ◌-◌, ◌<◌, ◌≤◌, suc, ℕ}
use lib.ListN.{length}
use mathlib.Core.Bool.{false, true}
use mathlib.Core.List.{List}
use mathlib.Core.Path.{◌∙◌, ◌≡◌, ap, sym}
use native.Mathlib.Omega.{arith}
use Rattle.std.specs.Prelude.{None, Ok, Option, Some, unwrap_or}
use Rattle.isa.proofs.Bools.{split}
use Rattle.isa.specs.Machine.{Source, first, is_empty}
use Rattle.pipeline.proofs.Resting.{rest_load, rest_next, waits_rest}
use Rattle.pipeline.specs.Advance.{next, waiting}
use Rattle.pipeline.specs.Tick.{taken, tick}
use Rattle.pipeline.specs.Turn.{reply}
use Rattle.runs.proofs.Plays.{play_ends, play_goes, play_last, turn_last}
use Rattle.runs.proofs.Replies.{goes_reply, stays_in}
use Rattle.runs.proofs.Turns.{turn_ticks}
use Rattle.runs.specs.Run.{Played, ended, left_after, more, play, reported, run_check, turn_of}
use Rattle.sheet.proofs.Fair.{Fair}
use Rattle.sheet.proofs.Limit.{by_check, limited}
use Rattle.sheet.specs.Sheet.{limited_check}
use Rattle.stages.proofs.Awake.{waits_asleep}
use Rattle.stages.specs.Advance.{awake, waits_for_memory}
use Rattle.stages.specs.Refusals.{out_of_bounds}
use Rattle.runner.specs.Inner.{Holds, Ready, later}
use Rattle.runner.specs.Names.{End, Given, PipelineCpu, Spent}

-- one tick more, counted before or behind
later_more : (t : ℕ) (x : Given) (p : Played) → later t (more x p) ≡ later (t + 1) p
unfolding later more
later_more t x p =
    let e : t + suc (length p.ticks) ≡ t + 1 + length p.ticks = omega arith in
    ap (λ (n : ℕ). record { end = p.end; ticks = n; state = p.state }) e

later_ended : (t : ℕ) (e : End) (s : PipelineCpu)
    → later t (ended e s) ≡ record { end = e; ticks = t; state = s }
unfolding later ended
later_ended t e s =
    let z : t + 0 ≡ t = omega arith in ap (λ (n : ℕ). record { end = e; ticks = n; state = s }) z

later_none : (p : Played) → reported p ≡ later 0 p
unfolding later reported
later_none p =
    let z : length p.ticks ≡ 0 + length p.ticks = omega arith in
    ap (λ (n : ℕ). record { end = p.end; ticks = n; state = p.state }) z

-- before the first turn
pub begins : (src : Source) (limit : ℕ) (l : List ℕ) (s : PipelineCpu) → out_of_bounds s.stages ≡ false
    → Holds src limit l s s l 0
begins src limit l s b =
    let z : limit ≡ limit - 0 = omega arith in
    record { bounds = b; same = later_none _ ∙ ap (λ (n : ℕ). later 0 (play src n l s)) z }

-- what the check before it tells
pub ready : (s : PipelineCpu) (sheet : List ℕ) (limit : ℕ) → run_check s sheet limit ≡ Ok tt → Ready sheet s
unfolding run_check
ready s sheet limit e = by_check (limited_check sheet limit)
    (λ a. split (out_of_bounds s.stages)
    (λ b. absurd (let z = rw (a, b) at e in cc))
    (λ b. record { checked = (limited sheet limit a).0; bounds = b }))
    (λ d a. absurd (let z = rw a at e in cc))

-- behind the last turn
pub spent : (src : Source) (limit : ℕ) (l left : List ℕ) (s₀ s : PipelineCpu) (t : ℕ) → Holds src limit l s₀ s left t
    → t ≤ limit → limit ≤ t → (o : Option End) → o ≡ turn_of s.stages s.counts true (is_empty left)
    → record { end = unwrap_or o Spent; ticks = limit; state = s } ≡ reported (play src limit l s₀)
spent src limit l left s₀ s t h a b o q =
    let z : t ≡ limit = omega arith in
    let y : limit - limit ≡ 0 = omega arith in
    let e = turn_last s (is_empty left) in
    rw (q ∙ e) (sym (h.same ∙ ap (λ (n : ℕ). later n (play src (limit - n) left s)) z
    ∙ ap (λ (n : ℕ). later limit (play src n left s)) y
    ∙ ap (later limit) (play_last src left s (is_empty left) _ e) ∙ later_ended limit _ s))

-- a tick of a wait for the memory takes no answer
waits_left : (s : PipelineCpu) (l : List ℕ) → awake s.stages ≡ false → l ≡ left_after s l
unfolding left_after
waits_left s l e = rw (rest_load s e)

-- a turn below the limit, from state s with t ticks done and these answers left
module _ (src : Source) (limit : ℕ) (l left : List ℕ) (s₀ s : PipelineCpu) (t : ℕ) (h : Holds src limit l s₀ s left t)
    (below : t < limit) where
  -- the ticks still allowed, this turn's first
  allowed : limit - t ≡ suc (limit - (t + 1))
  allowed = omega arith

  -- one that ends the run
  pub ends : (e : End) → turn_of s.stages s.counts false (is_empty left) ≡ Some e
      → record { end = e; ticks = t; state = s } ≡ reported (play src limit l s₀)
  ends e q = sym (h.same ∙ ap (λ (n : ℕ). later t (play src n left s)) allowed
      ∙ ap (later t) (play_ends src (limit - (t + 1)) left s e q) ∙ later_ended t e s)

  -- one that ticks
  pub goes : Fair src → turn_of s.stages s.counts false (is_empty left) ≡ None
      → (s' : PipelineCpu) → s' ≡ next s (taken (reply src (first left) s))
      → Holds src limit l s₀ s' (left_after s left) (t + 1)
  goes fair q s' is =
      let k = turn_ticks s (is_empty left) q in
      let m : tick s (reply src (first left) s) ≡ Ok s' = goes_reply src fair s (first left) h.bounds k.1 k.2 ∙ ap Ok (sym is) in
      record {
        bounds = rw is (stays_in src fair s (first left) h.bounds k.1 k.2);
        same = h.same ∙ ap (λ (n : ℕ). later t (play src n left s)) allowed
            ∙ ap (later t) (play_goes src (limit - (t + 1)) left s s' q m) ∙ later_more t _ _;
      }

  -- one of a wait for the memory
  pub waits : Fair src → turn_of s.stages s.counts false (is_empty left) ≡ None → waits_for_memory s.stages ≡ true
      → (s' : PipelineCpu) → s' ≡ waiting s → Holds src limit l s₀ s' left (t + 1)
  waits fair q e s' is =
      let a = waits_asleep s.stages e in
      rw (waits_left s left a) (goes fair q s' (is ∙ waits_rest s e ∙ rest_next s a _))
