-- The answers left, by how many are used. Assumes nothing.
use Prim.Native.Nat.{◌+◌, ◌<◌, ◌≤◌, suc, zero, ℕ}
use borrow.Author.Tests.{lt-ltb}
use lib.Dec.{leb}
use lib.ListN.{drop, get_or, length}
use mathlib.Core.Bool.{Bool, cond, false, true}
use mathlib.Core.List.{List, [], ◌∷◌}
use mathlib.Core.Path.{◌∙◌, ◌≡◌, ap, refl}
use native.Mathlib.Omega.{arith}
use Rattle.isa.specs.Machine.{first, is_empty, rest}
use Rattle.sheet.specs.Turns.{used_after}

pub left_empty : (l : List ℕ) (k : ℕ) → is_empty (drop k l) ≡ leb (length l) k
unfolding is_empty
left_empty [] zero = grind arith
left_empty [] (suc k) = grind arith
left_empty (x ∷ l) zero = grind arith
left_empty (x ∷ l) (suc k) = grind (arith, left_empty l k)

pub left_first : (l : List ℕ) (k : ℕ) → first (drop k l) ≡ get_or l k 0
unfolding first
left_first [] zero = refl
left_first [] (suc k) = refl
left_first (x ∷ l) zero = refl
left_first (x ∷ l) (suc k) = left_first l k

pub left_rest : (l : List ℕ) (k : ℕ) → rest (drop k l) ≡ drop (suc k) l
unfolding rest
left_rest [] zero = refl
left_rest [] (suc k) = refl
left_rest (x ∷ l) zero = refl
left_rest (x ∷ l) (suc k) = left_rest l k

-- no answer past the last
pub past_last : (l : List ℕ) (k : ℕ) → length l ≤ k → 0 ≡ get_or l k 0
past_last [] zero h = refl
past_last [] (suc k) h = refl
past_last (x ∷ l) zero h = absurd (omega arith)
past_last (x ∷ l) (suc k) h = past_last l k (omega arith)

-- behind a load that has an answer, or behind what is no load
pub left_after_lem : (b : Bool) (l : List ℕ) (k : ℕ) → (b ≡ true → k < length l)
    → cond b (rest (drop k l)) (drop k l) ≡ drop (used_after b k (length l)) l
unfolding used_after
left_after_lem true l k h =
    let z : suc k ≡ k + 1 = omega arith in
    rw (lt-ltb k (length l) (h refl)) (left_rest l k ∙ ap (λ (n : ℕ). drop n l) z)
left_after_lem false l k h = refl

-- no more are used than there are
pub used_within : (b : Bool) (l : List ℕ) (k : ℕ) → k ≤ length l → (b ≡ true → k < length l)
    → used_after b k (length l) ≤ length l
unfolding used_after
used_within true l k a h = let z = h refl in rw (lt-ltb k (length l) z) (omega arith)
used_within false l k a h = a
