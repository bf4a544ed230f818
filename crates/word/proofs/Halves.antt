-- The two halves of a word by masks. Assumes nothing.
use Rattle.std.proofs.Common.{◌≡◌, ℕ, ◌+◌, ◌*◌, ◌/◌, ◌%◌, ◌<◌, arith, bit_and, bit_or}
use Rattle.std.proofs.lemmas.Nat.{or_shifted}
use Rattle.std.proofs.lemmas.Grind.{common_steps}

-- a high half beside a low half
halves : (h l : ℕ) → bit_or (h * 65536) (bit_and l 65535) ≡ h * 65536 + l % 65536
halves h l = grind (arith, common_steps, or_shifted h 16 (l % 65536))

pub low_replaced : (a i : ℕ) → a < 4294967296 → bit_or (bit_and a 4294901760) (bit_and i 65535) ≡ a / 65536 * 65536 + i % 65536
low_replaced a i p =
    let kept : bit_and a 4294901760 ≡ a / 65536 * 65536 = grind (arith, common_steps) in
    grind (arith, halves (a / 65536) i)

pub high_replaced : (a i : ℕ) → bit_or (i * 65536 % 4294967296) (bit_and a 65535) ≡ i % 65536 * 65536 + a % 65536
high_replaced a i =
    let moved : i * 65536 % 4294967296 ≡ i % 65536 * 65536 = omega arith in
    grind (arith, halves (i % 65536) a)
