-- The first refused record of so many, as a loop comes to it: record k starts at byte s. Assumes nothing.
use Prim.Native.Nat.{◌*◌, ◌+◌, ◌-◌, ◌<◌, suc, ℕ}
use borrow.Author.Tests.{lt-ltb}
use lib.Dec.{ltb}
use lib.ListN.{length}
use mathlib.Core.Bool.{false, true}
use mathlib.Core.List.{List}
use mathlib.Core.Path.{◌∙◌, ◌≡◌, refl, sym}
use native.Mathlib.Omega.{arith}
use Rattle.isa.proofs.Bools.{split}
use Rattle.std.proofs.Common.{add-one}
use Rattle.std.specs.Prelude.{is_err}
use Rattle.sheet.specs.Inner.{check_from}
use Rattle.sheet.specs.Sheet.{check_at, first_check, first_refused, record_at, record_check}

-- the record that starts there is record k
from_start : (l : List ℕ) (k s : ℕ) → s ≡ k * 5 → check_at l k ≡ check_from l s
unfolding check_at check_from record_at record_check
from_start l k s at = rw at (split (ltb (k * 5 + 4) (length l)) (λ t. rw t refl) (λ t. rw t refl))

-- a record that is not refused is passed over
pub passed : (l : List ℕ) (k n s : ℕ) → s ≡ k * 5 → is_err (check_from l s) ≡ false → k < n
    → first_refused l k (n - k) ≡ first_refused l (k + 1) (n - (k + 1))
unfolding first_refused
passed l k n s at e h =
    let one_less : n - k ≡ suc (n - (k + 1)) = omega arith in
    rw (one_less, from_start l k s at, e, add-one)

-- a record that is refused is the first, and its check is the sheet's
pub met : (l : List ℕ) (k n s : ℕ) → first_refused l 0 n ≡ first_refused l k (n - k) → s ≡ k * 5
    → is_err (check_from l s) ≡ true → k < n → (k ≡ first_refused l 0 n) × (check_from l s ≡ first_check l n)
unfolding first_refused first_check
met l k n s left at e h =
    let one_less : n - k ≡ suc (n - (k + 1)) = omega arith in
    let first : first_refused l 0 n ≡ k = left ∙ rw (one_less, from_start l k s at, e) in
    (sym first, rw (first, lt-ltb k n h, from_start l k s at))
