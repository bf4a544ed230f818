-- The invariant of the accuracy rule before each tick of a list, and the events of a tick that retires an instruction.
-- Assumes nothing.
use Prim.Native.Nat.{suc, ℕ}
use lib.ListN.{get_or, length}
use mathlib.Core.Bool.{Bool, cond, false, true}
use mathlib.Core.List.{List, [], ◌++◌, ◌∷◌}
use mathlib.Core.Path.{◌∙◌, ◌≡◌, ap, refl, sym}
use native.Mathlib.Omega.{arith}
use Rattle.std.specs.Prelude.{Err, Ok, Result}
use Rattle.isa.proofs.Bools.{split}
use Rattle.isa.proofs.Machine.{walk}
use Rattle.isa.specs.Machine.{Arch, Machine, Program, machine}
use Rattle.latch.specs.Decode.{id_ex_by, id_ex_of}
use Rattle.latch.specs.Execute.{ex_mem_of}
use Rattle.latch.specs.Latches.{empty_mem_wb}
use Rattle.latch.specs.Memory.{dest_after, mem_wb_of, passed_on, value_after, writes_after}
use Rattle.logging.specs.Logging.{events, tick_events}
use Rattle.pipeline.specs.Tick.{tick, word_in}
use Rattle.stages.proofs.Awake.{stopped_asleep}
use Rattle.stages.specs.Advance.{awake}
use Rattle.word.specs.Words.{bit}
use Rattle.accuracy.proofs.Accuracy.{Inv, Step, step_by}
use Rattle.accuracy.proofs.Feeding.{Fed}
use Rattle.accuracy.proofs.Inv.{Live, Mw}
use Rattle.accuracy.proofs.Offers.{AllMeet}
use Rattle.accuracy.proofs.Path.{dx_at, mw_at, xm_at}
use Rattle.accuracy.specs.Accuracy.{Run, after, one}
use Rattle.accuracy.specs.Count.{path}
use Rattle.accuracy.specs.Names.{MemWb, Stages}
use Rattle.logs.proofs.Ticks.{accesses, asleep_events, awake_events, retire_full, says, writes_of}
use Rattle.logs.specs.Entries.{retirements}
use Rattle.logs.specs.Logs.{unless_refused}
use Rattle.logs.specs.Names.{Event, Given, PipelineCpu, Refusal, Request, Retired}

-- the events es of a tick on stages l, with answer a, that retires instruction n
pub record Here (prog : Program) (w₀ : Arch) (l : Stages) (a : ℕ) (es : List Event) (n : ℕ) : Type 0 where
  pub is : es ≡ Retired (path prog w₀ n).pc ∷ (writes_of l.mem_wb l.features ++ accesses l a)

module _ (prog : Program) (w₀ : Arch) (len : length w₀.reg ≡ 32) (nought : get_or w₀.reg 0 0 ≡ 0) where
  -- the invariant behind a list, by what it began with
  pub inv_after : (pre post : List Given) (r : Run) (left : List ℕ) (n : ℕ) → Inv prog w₀ len nought r left n
      → AllMeet prog r (pre ++ post) → Fed prog r left (pre ++ post)
      → (last : List ℕ) × (m : ℕ) × Inv prog w₀ len nought (after r pre) last m
  unfolding after one AllMeet Fed
  inv_after [] post r left n i m fe = (left, n, i)
  inv_after (t ∷ pre) post r left n i m fe =
      by (step_by prog w₀ len nought r t (tick r.state t) refl left fe.0 n i m.0 fe.1)
      (λ k j. inv_after pre post (one r t) fe.0 k j m.1 fe.2)
    where
      by : Step prog w₀ len nought r (one r t) fe.0 n
          → ((k : ℕ) → Inv prog w₀ len nought (one r t) fe.0 k
          → (last : List ℕ) × (m : ℕ) × Inv prog w₀ len nought (after (one r t) pre) last m)
          → (last : List ℕ) × (m : ℕ) × Inv prog w₀ len nought (after (one r t) pre) last m
      by (Step.quiet j z) ih = ih n j
      by (Step.committed x j) ih = ih (suc n) j

  -- MEM/WB where it is valid: instruction k
  mw_is : (l : MemWb) (t k n₁ : ℕ) → Mw prog w₀ t l k n₁ → bit l.valid ≡ 1
      → (l.valid ≡ true) × (l.pc ≡ (walk prog w₀ k).pc)
  unfolding bit empty_mem_wb mw_at mem_wb_of passed_on dest_after writes_after value_after xm_at ex_mem_of dx_at
      id_ex_of id_ex_by
  mw_is l t k n₁ (Mw.gap e) h =
      let z : bit l.valid ≡ 0 = ap (λ (x : MemWb). bit x.valid) e in absurd (omega arith)
  mw_is l t k n₁ (Mw.full e d o g) h = (ap (λ (x : MemWb). x.valid) e, ap (λ (x : MemWb). x.pc) e)

  here_awake : (s : PipelineCpu) (a t : ℕ) (asked : List Request) (left : List ℕ) (n n₁ n₂ : ℕ)
      → Live prog w₀ s t asked left n n₁ n₂ → retirements (events s.stages a) ≡ 1 → awake s.stages ≡ true
      → Here prog w₀ s.stages a (events s.stages a) n
  unfolding path
  here_awake s a t asked left n n₁ n₂ lv h aw =
      let l = s.stages in
      let b : bit l.mem_wb.valid ≡ 1
      = sym ((says l a).retired ∙ ap (λ (b : Bool). cond b (bit l.mem_wb.valid) 0) aw) ∙ h in
      let x = mw_is l.mem_wb t n n₁ lv.mem_wb b in
      let p : l.mem_wb.pc ≡ (machine prog w₀ n).arch.pc = x.1 ∙ ap (λ (m : Machine). m.arch.pc) (sym lv.runs) in
      record {
        is = awake_events l a aw
            ∙ ap (λ (es : List Event). es ++ accesses l a) (retire_full l.mem_wb l.features x.0)
            ∙ ap (λ (q : ℕ). Retired q ∷ (writes_of l.mem_wb l.features ++ accesses l a)) p;
      }

  -- a tick that moves nothing retires none
  here_asleep : (s : PipelineCpu) (a n : ℕ) → retirements (events s.stages a) ≡ 1 → awake s.stages ≡ false
      → Here prog w₀ s.stages a (events s.stages a) n
  unfolding retirements
  here_asleep s a n h e =
      let z : retirements (events s.stages a) ≡ 0 = ap retirements (asleep_events s.stages a e) in absurd (omega arith)

  here_live : (s : PipelineCpu) (a t : ℕ) (asked : List Request) (left : List ℕ) (n n₁ n₂ : ℕ)
      → Live prog w₀ s t asked left n n₁ n₂ → retirements (events s.stages a) ≡ 1
      → Here prog w₀ s.stages a (events s.stages a) n
  here_live s a t asked left n n₁ n₂ lv h =
      split (awake s.stages) (here_awake s a t asked left n n₁ n₂ lv h) (here_asleep s a n h)

  here_over : (s : PipelineCpu) (a n : ℕ) → s.stages.running ≡ false → retirements (events s.stages a) ≡ 1
      → Here prog w₀ s.stages a (events s.stages a) n
  here_over s a n e h = here_asleep s a n h (stopped_asleep s.stages e)

  here_by : (o : Result PipelineCpu Refusal) (p : Run) (t : Given) (left : List ℕ) (n : ℕ)
      → Inv prog w₀ len nought p left n → retirements (unless_refused o (tick_events p.state t)) ≡ 1
      → Here prog w₀ p.state.stages (word_in t.answer) (unless_refused o (tick_events p.state t)) n
  unfolding unless_refused tick_events retirements
  here_by (Err c) p t left n i h = absurd (omega (arith, h))
  here_by (Ok s) p t left n (Inv.live n₁ n₂ t₀ lv c) h =
      here_live p.state (word_in t.answer) t₀ p.requests left n n₁ n₂ lv h
  here_by (Ok s) p t left n (Inv.over e c) h = here_over p.state (word_in t.answer) n e h

  pub here : (p : Run) (t : Given) (left : List ℕ) (n : ℕ) → Inv prog w₀ len nought p left n
      → retirements (unless_refused (tick p.state t) (tick_events p.state t)) ≡ 1
      → Here prog w₀ p.state.stages (word_in t.answer) (unless_refused (tick p.state t) (tick_events p.state t)) n
  here p t left n i h = here_by (tick p.state t) p t left n i h
