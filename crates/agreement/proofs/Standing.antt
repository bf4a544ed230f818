-- After any list of ticks that RULES 15.4 allows, registers and retire place are those of the one-at-a-time machine
-- that has done as many instructions as are retired. Assumes nothing.
use Prim.Native.Nat.{◌≤◌, suc, ℕ}
use lib.ListN.{get_or, length}
use mathlib.Core.Bool.{false, false≢true}
use mathlib.Core.List.{List, [], ◌∷◌}
use mathlib.Core.Path.{◌∙◌, ◌≡◌, ap, refl, sym}
use native.Mathlib.Omega.{arith}
use Rattle.std.specs.Prelude.{Result, Ok, Err}
use Rattle.accuracy.proofs.Accuracy.{Inv, Step, committed, live, over, quiet, step_by}
use Rattle.accuracy.proofs.Feeding.{Fed}
use Rattle.accuracy.proofs.Inv.{Live}
use Rattle.accuracy.proofs.Offers.{AllMeet}
use Rattle.accuracy.proofs.Took.{took}
use Rattle.accuracy.specs.Accuracy.{Run, after, one, one_by}
use Rattle.isa.proofs.Bools.{split}
use Rattle.isa.specs.Machine.{Arch, Machine, Program, machine}
use Rattle.pipeline.proofs.Resting.{rest_next, rests}
use Rattle.pipeline.specs.Advance.{resting}
use Rattle.pipeline.specs.Tick.{taken, tick}
use Rattle.stages.proofs.Awake.{stopped_asleep}
use Rattle.agreement.specs.Names.{Given, PipelineCpu, Place, Refusal}

module _ (prog : Program) (w₀ : Arch) (len : length w₀.reg ≡ 32) (nought : get_or w₀.reg 0 0 ≡ 0) where
  -- k instructions are retired, in as many accepted ticks or more
  pub record Stands (r : Run) (k : ℕ) : Type 0 where
    pub count : r.state.counts.instructions_executed ≡ k
    pub reg : r.state.reg ≡ (machine prog w₀ k).arch.reg
    pub pc : r.state.stages.retire_at.pc ≡ (machine prog w₀ k).arch.pc
    pub mode : r.state.stages.retire_at.mode ≡ (machine prog w₀ k).arch.mode
    pub did : (machine prog w₀ k).done ≡ k
    pub within : k ≤ r.accepted

  -- a running machine
  pub live_stands : (r : Run) (t : ℕ) (left : List ℕ) (k n₁ n₂ : ℕ)
      → Live prog w₀ r.state t r.requests left k n₁ n₂ → k ≤ r.accepted → Stands r k
  live_stands r t left k n₁ n₂ h b = record {
    count = h.count;
    reg = h.reg ∙ ap (λ (m : Machine). m.arch.reg) (sym h.runs);
    pc = h.place.0 ∙ ap (λ (m : Machine). m.arch.pc) (sym h.runs);
    mode = h.place.1 ∙ ap (λ (m : Machine). m.arch.mode) (sym h.runs);
    did = ap (λ (m : Machine). m.done) h.runs;
    within = b;
  }

  -- a machine that has stopped
  rest_stands : (r : Run) (t : Given) (s' : PipelineCpu) (k : ℕ) → r.state.stages.running ≡ false
      → tick r.state t ≡ Ok s' → Stands r k → Stands (one_by (Ok s') t r) k
  unfolding one_by
  rest_stands r t s' k e q h =
      let z : resting r.state ≡ s' =
      rest_next r.state (stopped_asleep r.state.stages e) (taken t) ∙ (took r.state t s' q).is in
      let n = rests r.state in
      let p = ap (λ (s : PipelineCpu). s.stages.retire_at) (sym z) ∙ n.place in
      record {
        count = ap (λ (s : PipelineCpu). s.counts.instructions_executed) (sym z) ∙ n.retired ∙ h.count;
        reg = ap (λ (s : PipelineCpu). s.reg) (sym z) ∙ n.reg ∙ h.reg;
        pc = ap (λ (x : Place). x.pc) p ∙ h.pc;
        mode = ap (λ (x : Place). x.mode) p ∙ h.mode;
        did = h.did;
        within = omega (arith, h.within);
      }

  -- one tick
  step_stands : (r : Run) (t : Given) (o : Result PipelineCpu Refusal) → tick r.state t ≡ o → (left : List ℕ) (k : ℕ) → Stands r k
      → Step prog w₀ len nought r (one_by o t r) left k
      → (j : ℕ) × Stands (one_by o t r) j × Inv prog w₀ len nought (one_by o t r) left j
  unfolding one_by
  step_stands r t (Err c) e left k h (quiet i z) = (k, h, i)
  step_stands r t (Err c) e left k h (committed x i) =
      absurd (omega (arith, x.before, x.now))
  step_stands r t (Ok s) e left k h (quiet (live n₁ n₂ t₀ lv c) z) = (
    k,
    live_stands _ t₀ left k n₁ n₂ lv (omega (arith, h.within)),
    live n₁ n₂ t₀ lv c,
  )
  step_stands r t (Ok s) e left k h (quiet (over u c) z) = (
    k,
    split r.state.stages.running
        (λ a. absurd (false≢true (sym u ∙ z a)))
        (λ a. rest_stands r t s k a e h),
    over u c,
  )
  step_stands r t (Ok s) e left k h (committed x i) = (
    suc k,
    record {
      count = x.now;
      reg = x.reg;
      pc = x.place.0;
      mode = x.place.1;
      did = x.did;
      within = omega (arith, h.within);
    },
    i,
  )

  -- a list of ticks
  pub all_stand : (ts : List Given) (r : Run) (left : List ℕ) (k : ℕ) → Inv prog w₀ len nought r left k → Stands r k
      → AllMeet prog r ts → Fed prog r left ts → (j : ℕ) × Stands (after r ts) j
  unfolding after AllMeet Fed one
  all_stand [] r left k i h off fe = (k, h)
  all_stand (t ∷ ts) r left k i h off fe =
      let x = step_stands r t (tick r.state t) refl fe.0 k h
      (step_by prog w₀ len nought r t (tick r.state t) refl left fe.0 k i off.0 fe.1) in
      all_stand ts (one r t) fe.0 x.0 x.2 x.1 off.1 fe.2
