-- A machine at a record, and one step from there. Assumes nothing.
use Prim.Native.Nat.{◌*◌, ◌+◌, ◌<◌, ℕ}
use borrow.Author.Tests.{eqb-true, eq-eqb, ne_eqb}
use lib.Dec.{eqb}
use mathlib.Core.Bool.{false, true}
use mathlib.Core.Path.{◌∙◌, ◌≡◌, refl}
use native.Mathlib.Omega.{arith}
use Rattle.isa.proofs.Bools.{split}
use Rattle.isa.specs.Machine.{Arch}
use Rattle.trades.proofs.Orders.{next, next_place}
use Rattle.trades.proofs.Trading.{next_address}
use Rattle.delays.specs.Passages.{is_normal, stands}
use Rattle.delays.specs.Names.{Instruction, Mode, Normal, Short}

normal : (m : Mode) → is_normal m ≡ true → m ≡ Normal
unfolding is_normal
normal Normal e = refl
normal Short e = cc

pub stands_at : (w : Arch) (k : ℕ) → stands w k ≡ true → (w.pc ≡ k * 4) × (w.mode ≡ Normal)
unfolding stands
stands_at w k e = split (eqb w.pc (k * 4))
    (λ t. (eqb-true w.pc (k * 4) t, normal w.mode (rw t at e)))
    (λ t. absurd (let z = rw t at e in cc))

pub stands_by : (w : Arch) (k : ℕ) → w.pc ≡ k * 4 → w.mode ≡ Normal → stands w k ≡ true
unfolding stands is_normal
stands_by w k p m = rw (eq-eqb w.pc (k * 4) p, m) refl

-- it is at no record behind the one that it is at
pub stands_once : (w : Arch) (k n : ℕ) → k < n → stands w k ≡ true → stands w n ≡ false
unfolding stands
stands_once w k n l e = rw (ne_eqb w.pc (n * 4) (λ q. let h = (stands_at w k e).0 in omega arith)) refl

-- an instruction that only computes goes on to the next record
pub stands_next : (i : Instruction) (w : Arch) (k : ℕ) → k < 4096 → stands w k ≡ true
    → stands (next i w) (k + 1) ≡ true
stands_next i w k l e =
    let h = stands_at w k e in
    let q = next_place i w in
    stands_by (next i w) (k + 1) (q.0 ∙ next_address w.pc k w.mode h.0 l h.1) (q.1 ∙ h.1)
