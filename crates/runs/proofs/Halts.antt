-- A run halts where the machine halts and the formula is within the limit. Assumes nothing.
use Prim.Native.Nat.{◌+◌, ◌<◌, ◌≤◌, suc, zero, ℕ}
use borrow.Author.Tests.{ltb-false, ltb-true}
use lib.Dec.{ltb}
use lib.ListN.{get_or, length, length-set}
use lib.Seq.{get_or-set_same}
use mathlib.Core.Bool.{false, false≢true, true}
use mathlib.Core.List.{List}
use mathlib.Core.Path.{◌∙◌, ◌≡◌, ap, refl, subst, sym}
use native.Mathlib.Omega.{arith}
use Rattle.std.specs.Prelude.{Ok}
use Rattle.accuracy.proofs.Accuracy.{Step, committed, live, over, quiet, start_live, step_by}
use Rattle.accuracy.proofs.Bounds.{fresh_in}
use Rattle.accuracy.proofs.Inv.{Live}
use Rattle.accuracy.proofs.Path.{due}
use Rattle.accuracy.proofs.Timing.{due_time, time_path}
use Rattle.accuracy.specs.Accuracy.{Run, begin, one_by}
use Rattle.accuracy.specs.Count.{path, retire_tick}
use Rattle.isa.proofs.Bools.{split}
use Rattle.isa.proofs.Machine.{did_next}
use Rattle.isa.specs.Machine.{Arch, Program, Source, arch_with, first, machine, program_of}
use Rattle.pipeline.specs.Advance.{next}
use Rattle.pipeline.specs.Start.{fresh}
use Rattle.pipeline.specs.Tick.{taken, wait_of}
use Rattle.pipeline.specs.Turn.{reply}
use Rattle.sheet.proofs.Fair.{Fair}
use Rattle.stages.specs.Refusals.{out_of_bounds}
use Rattle.runs.proofs.Counters.{Low, fresh_low, low_room, next_low}
use Rattle.runs.proofs.Due.{due_mono, live_late}
use Rattle.runs.proofs.Plays.{play_goes, play_stopped}
use Rattle.runs.proofs.Replies.{goes_reply, stays_in}
use Rattle.runs.proofs.Ticks.{feeds, meets}
use Rattle.runs.proofs.Turns.{turn_goes}
use Rattle.runs.proofs.Unstopped.{has_answer, not_faulty}
use Rattle.runs.specs.Names.{Given, Halted, PipelineCpu, Start}
use Rattle.runs.specs.Run.{Played, ended, left_after, more, play}

-- a run that ends halted with N retired
pub record HaltsWith (N : ℕ) (p : Played) : Type 0 where
  pub end : p.end ≡ Halted
  pub retired : p.state.counts.instructions_executed ≡ N

module _ (src : Source) (ok : Fair src) (v : Start) (w : Arch)
    (len : length w.reg ≡ 32) (nought : get_or w.reg 0 0 ≡ 0) (K : ℕ)
    (did : (machine (program_of src v) w (suc K)).done ≡ suc K)
    (down : (machine (program_of src v) w (suc K)).runs ≡ false) where
  -- the machine's program
  abbrev P : Program
  P = program_of src v

  -- one tick before a run
  with_more : (t : Given) (p : Played) → HaltsWith (suc K) p → HaltsWith (suc K) (more t p)
  unfolding more
  with_more t p h = record { end = h.end; retired = h.retired }

  -- a run of a machine that has stopped
  halts_here : (n : ℕ) (l : List ℕ) (s : PipelineCpu) → s.stages.running ≡ false
      → s.counts.instructions_executed ≡ suc K
      → HaltsWith (suc K) (play src n l s)
  unfolding ended
  halts_here n l s e c =
      subst (λ (p : Played). HaltsWith (suc K) p) (sym (play_stopped src n l s e)) (record { end = refl; retired = c })

  -- the machine's last instruction is the one at which the run stops
  at_end : (k : ℕ) → k < suc K → (machine P w (suc k)).runs ≡ false → suc k ≡ suc K
  at_end k l e = split (ltb (suc k) (suc K))
      (λ q. absurd (false≢true
      (sym e ∙ (did_next P w (suc K) did (suc k) (ltb-true (suc k) (suc K) q)).runs)))
      (λ q. let z = ltb-false (suc k) (suc K) q in omega arith)

  -- where the machine runs on, its last instruction is still to come
  not_end : (k : ℕ) → k < suc K → (machine P w (suc k)).runs ≡ true → suc k < suc K
  not_end k l e = split (ltb (suc k) (suc K))
      (λ q. ltb-true (suc k) (suc K) q)
      (λ q. let y = ltb-false (suc k) (suc K) q in
      let z : suc K ≡ suc k = omega arith in
      absurd (false≢true (sym down ∙ ap (λ (n : ℕ). (machine P w n).runs) z ∙ e)))

  -- a run with n ticks left: it is in bounds, no counter is above its ticks, instruction K is due within n, and no wait
  -- has been told
  record Ready (r : Run) (n : ℕ) : Type 0 where
    sound : out_of_bounds r.state.stages ≡ false
    low : Low r.state r.accepted
    enough : due P w K ≤ r.accepted + n
    room : r.accepted + n < 18446744073709551615
    untold : r.waits ≡ 0

  -- behind any tick
  halts_next : (r r' : Run) (k n : ℕ) (l : List ℕ) → r.state.stages.running ≡ true → k < suc K
      → Step P w len nought r r' l k
      → ((j n₁ n₂ t : ℕ) → j < suc K → Live P w r'.state t r'.requests l j n₁ n₂
      → r'.accepted + r'.state.stages.wait_left ≡ t + r'.waits
      → HaltsWith (suc K) (play src n l r'.state))
      → HaltsWith (suc K) (play src n l r'.state)
  halts_next r r' k n l ru h (quiet (live n₁ n₂ t lv c) z) ih = ih k n₁ n₂ t h lv c
  halts_next r r' k n l ru h (quiet (over a b) z) ih = absurd (false≢true (sym a ∙ z ru))
  halts_next r r' k n l ru h (committed x (live n₁ n₂ t lv c)) ih =
      ih (suc k) n₁ n₂ t (not_end k h (x.still ∙ lv.running)) lv c
  halts_next r r' k n l ru h (committed x (over a b)) ih =
      halts_here n l r'.state a (b ∙ at_end k h (x.still ∙ a))

  -- a run that is ready
  halts_on : (n : ℕ) (l : List ℕ) (r : Run) (k n₁ n₂ t : ℕ) → Ready r n → k < suc K
      → Live P w r.state t r.requests l k n₁ n₂ → r.accepted + r.state.stages.wait_left ≡ t + r.waits
      → HaltsWith (suc K) (play src n l r.state)
  unfolding one_by wait_of reply
  halts_on zero l r k n₁ n₂ t y h lv c =
      let a = live_late P w r.state t r.requests l k n₁ n₂ lv in
      let b = due_mono P w k K (omega arith) in
      let e = y.enough in
      let nw = y.untold in
      absurd (omega arith)
  halts_on (suc n) l r k n₁ n₂ t y h lv c =
      let a = not_faulty P w (suc K) did down r.state t r.requests l k n₁ n₂ lv h in
      let d = has_answer P w (suc K) did down r.state t r.requests l k n₁ n₂ lv h in
      let en = y.enough in
      let rm = y.room in
      let nw = y.untold in
      let b = low_room r.state r.accepted y.low (omega arith) in
      let g = reply src (first l) r.state in
      let s = next r.state (taken g) in
      let e = goes_reply src ok r.state (first l) y.sound a b in
      let l' = left_after r.state l in
      let r' = one_by (Ok s) g r in
      let y' : Ready r' n = record {
        sound = stays_in src ok r.state (first l) y.sound a b;
        low = next_low r.state (taken g) r.accepted y.low;
        enough = omega arith;
        room = omega arith;
        untold = omega arith;
      } in
      subst (λ (p : Played). HaltsWith (suc K) p)
      (sym (play_goes src n l r.state s (turn_goes r.state l lv.running a b d) e))
      (with_more g _ (halts_next r r' k n l' lv.running h
      (step_by P w len nought r g (Ok s) e l l' k (live n₁ n₂ t lv c)
      (λ s' q. meets src v r.state (first l)) (feeds src v r.state s l d))
      (λ j m₁ m₂ t' h' lv' c'. halts_on n l' r' j m₁ m₂ t' y' h' lv' c')))

-- from the start; N is not 0, since the machine runs before its first step
pub run_halts : (src : Source) → Fair src
    → (v : Start) → length v.reg ≡ 32
    → (limit : ℕ) (l : List ℕ) → limit ≤ 1000000
    → (N : ℕ) → (machine (program_of src v) (arch_with v l) N).done ≡ N
    → (machine (program_of src v) (arch_with v l) N).runs ≡ false
    → retire_tick (program_of src v)
    (λ n. path (program_of src v) (arch_with v l) n) N
    ≤ limit
    → HaltsWith N (play src limit l (fresh v))
unfolding begin fresh program_of arch_with machine
run_halts src ok v len limit l small zero did down le = absurd (false≢true (sym down))
run_halts src ok v len limit l small (suc K) did down le =
    let prog = program_of src v in
    let w = arch_with v l in
    let d : due prog w K ≡ retire_tick prog (λ n. path prog w n) (suc K) =
    due_time prog w K ∙ sym (time_path prog w K did) in
    halts_on src ok v w (length-set v.reg 0 0 ∙ len) (get_or-set_same v.reg 0 0 0 (omega arith)) K did down
    limit l (begin v) 0 0 0 0
    (record {
      sound = fresh_in v;
      low = fresh_low v;
      enough = omega arith;
      room = omega arith;
      untold = refl;
    }) (omega arith) (start_live prog v refl refl l) refl
