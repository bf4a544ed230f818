-- A halted run: its last tick is its last instruction's. Assumes nothing.
use Prim.Native.Nat.{◌+◌, suc, zero, ℕ}
use lib.ListN.{get_or, length, length-set}
use lib.Seq.{get_or-set_same}
use mathlib.Core.Bool.{Bool, cond, false, false≢true, true}
use mathlib.Core.List.{List}
use mathlib.Core.Path.{◌∙◌, ◌≡◌, ap, refl, subst, sym}
use native.Mathlib.Omega.{arith}
use Rattle.std.specs.Prelude.{Option, None, Some, Result, Ok, Err}
use Rattle.accuracy.proofs.Accuracy.{Inv, Now, Step, committed, live, over, quiet, start_live, step_by}
use Rattle.accuracy.proofs.Path.{due}
use Rattle.accuracy.proofs.Timing.{due_time, time_path}
use Rattle.accuracy.specs.Accuracy.{Run, begin, one_by}
use Rattle.accuracy.specs.Count.{path, retire_tick}
use Rattle.isa.specs.Machine.{Arch, Program, Source, arch_with, first, is_empty, machine, program_of}
use Rattle.pipeline.specs.Start.{fresh}
use Rattle.pipeline.specs.Tick.{tick, wait_of}
use Rattle.pipeline.specs.Turn.{reply}
use Rattle.stages.specs.Loads.{want_load}
use Rattle.runs.proofs.Plays.{play_stopped}
use Rattle.runs.proofs.Ticks.{feeds, meets}
use Rattle.runs.proofs.Turns.{turn_load, turn_rests}
use Rattle.runs.specs.Claims.{HaltedReport}
use Rattle.runs.specs.Names.{End, Given, Halted, PipelineCpu, Refusal, Spent, Start}
use Rattle.runs.specs.Run.{Played, ended, left_after, more, play, play_by, reported, turn_of}

-- a run with no tick left ends halted only where the machine has stopped
last_end : (b : Bool) → cond b Spent Halted ≡ Halted → b ≡ false
last_end true e = cc
last_end false e = refl

module _ (src : Source) (v : Start) (w : Arch) (len : length w.reg ≡ 32)
    (nought : get_or w.reg 0 0 ≡ 0) where
  -- the machine's program
  abbrev P : Program
  P = program_of src v

  -- a run, t ticks behind the start, that halts at instruction K
  record Halts (t : ℕ) (p : Played) : Type 0 where
    K : ℕ
    count : p.state.counts.instructions_executed ≡ suc K
    ticks : t + length p.ticks ≡ due P w K
    reg : p.state.reg ≡ (machine P w (suc K)).arch.reg
    did : (machine P w (suc K)).done ≡ suc K
    halts : (machine P w (suc K)).runs ≡ false

  -- one tick before it
  one_more : (t : ℕ) (x : Given) (p : Played) → Halts (suc t) p → Halts t (more x p)
  unfolding more
  one_more t x p h = record {
    K = h.K;
    count = h.count;
    ticks = (let z = h.ticks in omega arith);
    reg = h.reg;
    did = h.did;
    halts = h.halts;
  }

  -- behind the tick that retires HALT
  at_once : (r r' : Run) (k n : ℕ) (l : List ℕ) → r.waits ≡ 0 → Now P w len nought r r' k
      → r'.state.stages.running ≡ false
      → Halts r'.accepted (play src n l r'.state)
  unfolding ended
  at_once r r' k n l nw x e =
      subst (λ (p : Played). Halts r'.accepted p) (sym (play_stopped src n l r'.state e)) (record {
        K = k;
        count = x.now;
        ticks = (let z = x.at in omega arith);
        reg = x.reg;
        did = x.did;
        halts = x.still ∙ e;
      })

  -- behind any tick
  halts_next : (r r' : Run) (k n : ℕ) (l : List ℕ) → r.waits ≡ 0 → r.state.stages.running ≡ true
      → Step P w len nought r r' l k
      → ((j : ℕ) → r'.state.stages.running ≡ true → Inv P w len nought r' l j
      → Halts r'.accepted (play src n l r'.state))
      → Halts r'.accepted (play src n l r'.state)
  halts_next r r' k n l nw ru (quiet i h) ih = ih k (h ru) i
  halts_next r r' k n l nw ru (committed x (live n₁ n₂ t lv c)) ih = ih (suc k) lv.running (live n₁ n₂ t lv c)
  halts_next r r' k n l nw ru (committed x (over e c)) ih = at_once r r' k n l nw x e

  -- a turn, by what it does and the result of its tick
  halts_by : (r : Run) (l : List ℕ) (u : Option End) (o : Result PipelineCpu Refusal) (k : PipelineCpu → Played)
      → r.state.stages.running ≡ true
      → turn_of r.state.stages r.state.counts false (is_empty l) ≡ u
      → (play_by u o r.state (reply src (first l) r.state) k).end ≡ Halted
      → ((s : PipelineCpu) → o ≡ Ok s → (k s).end ≡ Halted
      → (want_load r.state.stages ≡ true → is_empty l ≡ false)
      → Halts (suc r.accepted) (k s))
      → Halts r.accepted (play_by u o r.state (reply src (first l) r.state) k)
  unfolding play_by ended more
  halts_by r l (Some z) o k ru a e h =
      absurd (false≢true (sym (turn_rests r.state l (a ∙ ap Some e)) ∙ ru))
  halts_by r l None (Err c) k ru a e h = cc
  halts_by r l None (Ok s) k ru a e h =
      one_more r.accepted (reply src (first l) r.state) (k s) (h s refl e (turn_load r.state l a))

  -- a run that ends halted
  halts_run : (n : ℕ) (l : List ℕ) (r : Run) (k : ℕ) → r.waits ≡ 0 → r.state.stages.running ≡ true
      → Inv P w len nought r l k
      → (play src n l r.state).end ≡ Halted → Halts r.accepted (play src n l r.state)
  unfolding play ended one_by wait_of reply
  halts_run zero l r k nw ru i e = absurd (false≢true (sym (last_end r.state.stages.running e) ∙ ru))
  halts_run (suc n) l r k nw ru i e =
      let t = reply src (first l) r.state in
      let l' = left_after r.state l in
      halts_by r l (turn_of r.state.stages r.state.counts false (is_empty l)) (tick r.state t)
      (λ s. play src n l' s) ru refl e
      (λ s q e' g. halts_next r (one_by (Ok s) t r) k n l' nw ru
      (step_by P w len nought r t (Ok s) q l l' k i (λ s' a. meets src v r.state (first l))
      (feeds src v r.state s l g))
      (λ j ru' i'. halts_run n l' (one_by (Ok s) t r) j (omega arith) ru' i' e'))

-- from the start
pub run_halted : (src : Source) (v : Start) → length v.reg ≡ 32 → (limit : ℕ) (l : List ℕ)
    → let p = play src limit l (fresh v) in
    p.end ≡ Halted
    → HaltedReport (program_of src v) (arch_with v l) p.state.counts.instructions_executed
    (reported p)
unfolding begin fresh program_of arch_with reported
run_halted src v len limit l e =
    let prog = program_of src v in
    let w = arch_with v l in
    let p = play src limit l (fresh v) in
    let h = halts_run src v w (length-set v.reg 0 0 ∙ len) (get_or-set_same v.reg 0 0 0 (omega arith)) limit l
    (begin v) 0 refl refl (live 0 0 0 (start_live prog v refl refl l) refl) e in
    let c = h.count in
    record {
      ticks = (let t = h.ticks in
          let z : length p.ticks ≡ due prog w h.K = omega arith in
          z ∙ due_time prog w h.K ∙ sym (time_path prog w h.K h.did)
          ∙ ap (λ (n : ℕ). retire_tick prog (λ k. path prog w k) n) (sym c));
      reg = h.reg ∙ ap (λ (n : ℕ). (machine prog w n).arch.reg) (sym c);
      did = ap (λ (n : ℕ). (machine prog w n).done) c ∙ h.did ∙ sym c;
      halts = ap (λ (n : ℕ). (machine prog w n).runs) c ∙ h.halts;
    }
