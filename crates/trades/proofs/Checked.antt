-- A sheet and a list that are not refused. Assumes nothing.
use Prim.Native.Nat.{◌%◌, ◌≤◌, ℕ}
use borrow.Author.Tests.{le-ltb, ltb-false}
use lib.Dec.{eqb, ltb}
use lib.ListN.{length}
use mathlib.Core.List.{List}
use mathlib.Core.Path.{◌≡◌, refl}
use native.Mathlib.Omega.{arith}
use Rattle.isa.proofs.Bools.{split}
use Rattle.sheet.proofs.Limit.{by_check}
use Rattle.sheet.specs.Sheet.{bad_length, max_length, sheet_check}
use Rattle.std.specs.Prelude.{Ok}
use Rattle.trades.specs.Claims.{Enough}
use Rattle.trades.specs.Trades.{pairs, places_check}

-- the sheet is not refused, and the list has an entry for each pair
pub accepted : (l : List ℕ) (n : ℕ) → places_check l n ≡ Ok tt → (sheet_check l ≡ Ok tt) × (pairs l ≤ n)
unfolding places_check
accepted l n e = by_check (sheet_check l)
    (λ a. split (ltb n (pairs l))
    (λ b. absurd (let z = rw (a, b) at e in cc))
    (λ b. (a, ltb-false n (pairs l) b)))
    (λ d a. absurd (let z = rw a at e in cc))

-- a sheet that is not refused has at most 20,480 bytes
pub short : (l : List ℕ) → sheet_check l ≡ Ok tt → length l ≤ max_length
unfolding sheet_check bad_length
short l e = split (ltb max_length (length l))
    (λ t. absurd (split (eqb (length l % 5) 0) (λ u. let z = rw (t, u) at e in cc) (λ u. let z = rw (t, u) at e in cc)))
    (λ t. ltb-false max_length (length l) t)

-- so at most 4,095 pairs, and as many entries are enough
pub few : (l : List ℕ) → sheet_check l ≡ Ok tt → pairs l ≤ 4095
unfolding pairs
few l e = let h = short l e in omega arith

pub enough : Enough
unfolding places_check
enough l n e h = rw (e, le-ltb n (pairs l) (omega (arith, few l e, h))) refl
