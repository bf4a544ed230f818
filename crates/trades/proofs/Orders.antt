-- Two instructions that only compute, done in either order. Assumes nothing.
use Prim.Native.Nat.{suc, ℕ}
use mathlib.Core.Bool.{Bool, cond, false, true}
use mathlib.Core.List.{List, append-nil}
use mathlib.Core.Path.{◌≡◌, ap, refl}
use Rattle.std.specs.Prelude.{Option, None}
use Rattle.isa.specs.Effect.{effect_n, effect_of, fall, goes_on, no_access, no_marks}
use Rattle.isa.specs.Inquiries.{fill, look_up}
use Rattle.isa.specs.Machine.{Arch, Program, dest_of, effect_at, instruction_at, is_barred, machine, machine_by}
use Rattle.isa.specs.Machine.{machine_step, open_at, request_of, step_by, stops_at, value_at}
use Rattle.isa.specs.Operands.{operands_n, operands_of}
use Rattle.isa.specs.Redirects.{mode_or, target_or}
use Rattle.isa.specs.Registers.{read_reg, write_cpuid, write_reg}
use Rattle.trades.specs.Claims.{EitherOrder}
use Rattle.trades.specs.Names.{AluResult, DecNormal, Effect, Instruction}
use Rattle.trades.specs.Trades.{touches}
use Rattle.trades.proofs.Computing.{Computes}
use Rattle.trades.proofs.Registers.{either_order, sources}

-- the word that such an instruction computes, and the registers then
out : Instruction → List ℕ → AluResult
out i rs = (effect_n false i 0 (read_reg rs (operands_n i).src_a) (read_reg rs (operands_n i).src_b)).alu

dest : Instruction → List ℕ → Option ℕ
dest i rs = cond (out i rs).writes (operands_n i).dest None

does : Instruction → List ℕ → List ℕ
does i rs = write_reg (dest i rs) (out i rs).value rs

-- the machine behind it
pub next : Instruction → Arch → Arch
next i w = record {
  reg = does i w.reg;
  pc = fall w.pc w.mode;
  mode = w.mode;
  answers = w.answers;
  requests = w.requests;
}

-- it goes on to the next address, in the same mode
pub next_place : (i : Instruction) (w : Arch) → ((next i w).pc ≡ fall w.pc w.mode) × ((next i w).mode ≡ w.mode)
unfolding next
next_place i w = (refl, refl)

module _ (g : Program) (i : Instruction) (c : Computes i) (w : Arch) where
  effect_is : effect_at g (DecNormal i) w ≡ goes_on (out i w.reg) no_access
  unfolding effect_at open_at effect_of operands_of fill look_up out goes_on
  effect_is = ap (λ (e : Effect). fill (look_up g.table e.inquiry) e)
      (c.effect g.user _ (read_reg w.reg (operands_n i).src_a) (read_reg w.reg (operands_n i).src_b))

  pub no_redirect : (effect_at g (DecNormal i) w).redirect ≡ None
  unfolding goes_on
  no_redirect = rw effect_is refl

  fine : stops_at g (DecNormal i) w ≡ false
  unfolding stops_at is_barred goes_on no_marks operands_of
  fine = rw (effect_is, c.loads) refl

  step_is : step_by g (DecNormal i) w ≡ next i w
  unfolding step_by value_at dest_of goes_on no_marks no_access operands_of write_cpuid target_or mode_or request_of
      next does dest
  step_is = rw (effect_is, c.loads, c.stores, append-nil) refl

  pub done_is : (n : ℕ) → machine_by g (DecNormal i) (record { arch = w; runs = true; done = n })
      ≡ record { arch = next i w; runs = true; done = suc n }
  unfolding machine_by goes_on no_marks
  done_is n = rw (fine, step_is, effect_is) refl

-- the word is the same behind a write that does not touch its sources
out_kept : (i : Instruction) (d : Option ℕ) (v : ℕ) (rs : List ℕ) → touches d (operands_n i) ≡ false
    → out i (write_reg d v rs) ≡ out i rs
unfolding out
out_kept i d v rs e =
    let s = sources d v (operands_n i) rs e in
    λ k. (effect_n false i 0 (s.0 k) (s.1 k)).alu

-- a destination that gets no word touches nothing
touches_less : (b : Bool) (d : Option ℕ) (j : Instruction) → touches d (operands_n j) ≡ false
    → touches (cond b d None) (operands_n j) ≡ false
unfolding touches
touches_less true d j e = e
touches_less false d j e = refl

module _ (i j : Instruction) (a : touches (operands_n i).dest (operands_n j) ≡ false)
    (b : touches (operands_n j).dest (operands_n i) ≡ false) (rs : List ℕ) where
  regs : does j (does i rs) ≡ does i (does j rs)
  unfolding does dest write_reg
  regs =
      let x = out_kept j (dest i rs) (out i rs).value rs (touches_less (out i rs).writes (operands_n i).dest j a) in
      let y = out_kept i (dest j rs) (out j rs).value rs (touches_less (out j rs).writes (operands_n j).dest i b) in
      rw (x, y) (swapped (out i rs).writes (out j rs).writes)
    where
      swapped : (p q : Bool)
          → write_reg (cond q (operands_n j).dest None) (out j rs).value
          (write_reg (cond p (operands_n i).dest None) (out i rs).value rs)
          ≡ write_reg (cond p (operands_n i).dest None) (out i rs).value
          (write_reg (cond q (operands_n j).dest None) (out j rs).value rs)
      swapped true true = either_order (operands_n i).dest (operands_n j).dest _ _ (operands_n j) rs a refl
      swapped true false = refl
      swapped false true = refl
      swapped false false = refl

-- the machine that has done n, with i at w and j behind it
module _ (g : Program) (i j : Instruction) (c : Computes i) (d : Computes j) (w : Arch)
    (here : instruction_at g w ≡ DecNormal i) (there : instruction_at g (next i w) ≡ DecNormal j) where
  two : (n : ℕ) → machine_step g (machine_step g (record { arch = w; runs = true; done = n }))
      ≡ record { arch = next j (next i w); runs = true; done = suc (suc n) }
  unfolding machine_step
  two n = rw (here, done_is g i c w n, there) (done_is g j d (next i w) (suc n))

-- two programs, with i and j in either order
module _ (g g' : Program) (i j : Instruction) (c : Computes i) (d : Computes j)
    (a : touches (operands_n i).dest (operands_n j) ≡ false) (b : touches (operands_n j).dest (operands_n i) ≡ false)
    (w : Arch) (p : g.instruction w.pc w.mode ≡ DecNormal i) (q : g.instruction (fall w.pc w.mode) w.mode ≡ DecNormal j)
    (r : g'.instruction w.pc w.mode ≡ DecNormal j) (s : g'.instruction (fall w.pc w.mode) w.mode ≡ DecNormal i) where
  -- whatever the machine has done before
  pub either : (n : ℕ) → machine_step g' (machine_step g' (record { arch = w; runs = true; done = n }))
      ≡ machine_step g (machine_step g (record { arch = w; runs = true; done = n }))
  unfolding next instruction_at
  either n = rw (two g i j c d w p q n, two g' j i d c w r s n, regs i j a b w.reg) refl

  pub orders : EitherOrder g g' w
  unfolding next instruction_at machine
  orders =
      let x = two g i j c d w p q 0 in
      record { did = rw x refl; runs = rw x refl; same = either 0 }
