-- Powers of two at a width in bytes. Assumes nothing.
use Rattle.std.proofs.Common.{◌≡◌, ℕ, ◌*◌, ◌%◌, ◌^◌, ◌<◌, ◌≤◌, mod-eq_of_lt, arith}
use native.Mathlib.Nat.{pow-le-pow_right}

-- from a word's width on a cut keeps the word
pub whole : (w v : ℕ) → 4 ≤ w → v < 2 ^ 32 → v % 2 ^ (8 * w) ≡ v
whole w v h k =
    let p : 2 ^ 32 ≤ 2 ^ (8 * w) = pow-le-pow_right {n = 2} (omega arith) {i = 32} {j = 8 * w} (omega arith) in
    mod-eq_of_lt (omega arith)
