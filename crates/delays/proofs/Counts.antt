-- Counts, compared number by number. Assumes nothing.
use Prim.Native.Nat.{◌+◌, ◌<◌, ◌≤◌, suc, zero, ℕ}
use mathlib.Core.Bool.{Bool, false}
use mathlib.Core.Path.{◌≡◌, refl}
use native.Mathlib.Omega.{arith}
use Rattle.accuracy.specs.Count.{count}
use Rattle.word.specs.Words.{bit}

-- two sums of two counts
pub count_sums : (p q r s : ℕ → Bool) (k : ℕ) → ((n : ℕ) → n < k → bit (p n) + bit (q n) ≡ bit (r n) + bit (s n))
    → count p k + count q k ≡ count r k + count s k
unfolding count
count_sums p q r s zero h = refl
count_sums p q r s (suc k) h =
    let a = h k (omega arith) in
    let b = count_sums p q r s k (λ n l. h n (omega arith)) in
    omega arith

-- no number passes
pub count_none : (p : ℕ → Bool) (k : ℕ) → ((n : ℕ) → n < k → p n ≡ false) → count p k ≡ 0
unfolding count bit
count_none p zero h = refl
count_none p (suc k) h = rw (h k (omega arith), count_none p k (λ n l. h n (omega arith))) refl

-- each number that passes one test is one below a number that passes another
pub count_below : (p q : ℕ → Bool) (k : ℕ) → ((n : ℕ) → bit (p n) ≤ bit (q (suc n))) → count p k ≤ count q (suc k)
unfolding count
count_below p q zero h = omega arith
count_below p q (suc k) h = let a = h k in let b = count_below p q k h in omega arith
