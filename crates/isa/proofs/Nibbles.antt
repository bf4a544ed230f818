-- The weights of a halfword's nibbles. Assumes nothing.
use Prim.Native.Nat.{◌<◌, ◌^◌, suc, zero, ℕ}
use native.Mathlib.Omega.{arith}

pub record Weight (n : ℕ) : Type 0 where
  pub above : 0 < n
  pub below : n < 65536

pub weight : (k : ℕ) → k < 4 → Weight (16 ^ k)
weight zero h = record { above = omega arith; below = omega arith }
weight (suc zero) h = record { above = omega arith; below = omega arith }
weight (suc (suc zero)) h = record { above = omega arith; below = omega arith }
weight (suc (suc (suc zero))) h = record { above = omega arith; below = omega arith }
weight (suc (suc (suc (suc k)))) h = absurd (omega arith)
