-- While a run goes on, its next instruction is due later. Assumes nothing.
use Prim.Native.Nat.{◌+◌, ◌<◌, ◌≤◌, suc, zero, ℕ}
use borrow.Author.Tests.{ltb-false, ltb-true}
use lib.Dec.{ltb}
use mathlib.Core.List.{List}
use mathlib.Core.Path.{◌≡◌, subst, sym}
use native.Mathlib.Omega.{arith}
use Rattle.accuracy.proofs.Inv.{FrontOf, Live, Mw, Xm, f0, f1, f2}
use Rattle.accuracy.proofs.Path.{due}
use Rattle.isa.proofs.Bools.{split}
use Rattle.isa.specs.Machine.{Arch, Program}
use Rattle.runs.specs.Names.{ExMem, MemWb, PipelineCpu, Request}

module _ (prog : Program) (w : Arch) where
  -- what the front end holds is due three ticks on, or later
  front_late : (s : PipelineCpu) (t n : ℕ) → FrontOf prog w s t n → t + 3 ≤ due prog w n
  front_late s t n (f0 a b c p q d) = omega arith
  front_late s t n (f1 a b c p q d o) = omega arith
  front_late s t n (f2 rs a b p q u v o o2) = split s.stages.ex_armed
      (λ z. let y = v z in omega arith)
      (λ z. let y = u z in omega arith)

  -- what EX/MEM or the front end holds is due two ticks on, or later
  xm_late : (s : PipelineCpu) (l : ExMem) (t k n : ℕ) → Xm prog w t l k n → FrontOf prog w s t n
      → t + 2 ≤ due prog w k
  xm_late s l t k n (Xm.gap e) fr = let z = front_late s t k fr in omega arith
  xm_late s l t k n (Xm.full e d o) fr = omega arith

  -- what any of them holds is due later
  mw_late : (s : PipelineCpu) (l : MemWb) (x : ExMem) (t k n₁ n₂ : ℕ) → Mw prog w t l k n₁ → Xm prog w t x n₁ n₂
      → FrontOf prog w s t n₂ → t < due prog w k
  mw_late s l x t k n₁ n₂ (Mw.gap e) y fr = let z = xm_late s x t k n₂ y fr in omega arith
  mw_late s l x t k n₁ n₂ (Mw.full e d o g) y fr = omega arith

  -- the instruction to retire next is due after tick t
  pub live_late : (s : PipelineCpu) (t : ℕ) (asked : List Request) (l : List ℕ) (k n₁ n₂ : ℕ)
      → Live prog w s t asked l k n₁ n₂ → t < due prog w k
  live_late s t asked l k n₁ n₂ lv =
      mw_late s s.stages.mem_wb s.stages.ex_mem t k n₁ n₂ lv.mem_wb lv.ex_mem lv.front

  -- later instructions are due later
  pub due_mono : (k n : ℕ) → k ≤ n → due prog w k ≤ due prog w n
  unfolding due
  due_mono k zero l =
      let z : k ≡ 0 = omega arith in subst (λ (x : ℕ). due prog w x ≤ due prog w 0) (sym z) (omega arith)
  due_mono k (suc n) l = split (ltb n k)
      (λ q. let h = ltb-true n k q in
      let z : k ≡ suc n = omega arith in
      subst (λ (x : ℕ). due prog w x ≤ due prog w (suc n)) (sym z) (omega arith))
      (λ q. let h = due_mono k n (ltb-false n k q) in omega arith)
