-- Words: numbers below 2 ^ 32. Sums wrap, and a signed word is read by two's complement.
use Rattle.std.specs.Prelude.{ℕ, ◌+◌, ◌-◌, ◌*◌, ◌/◌, ◌%◌, ◌^◌, Bool, true, false, cond, ℤ, ◌*ℤ◌, ◌==◌, bit_and, bit_or}
use Rattle.std.specs.Prelude.{bit_xor, int_div, int_lt, int_rem, nat_lt}
use Rattle.std.specs.Int.Signed.{shr_z}
use Rattle.std.specs.Int.{cast_signed, cast_unsigned, w32}

-- a word as a signed number
abbrev pub signed : ℕ → ℤ
signed x = cast_signed w32 x

-- the word of a signed number
abbrev pub word_of : ℤ → ℕ
word_of z = cast_unsigned w32 z

-- 1 for true, 0 for false
unfoldable pub bit : Bool → ℕ
bit true = 1
bit false = 0

-- the sum, which wraps
unfoldable pub add32 : ℕ → ℕ → ℕ
add32 a b = (a + b) % 2 ^ 32

-- the difference, which wraps
unfoldable pub sub32 : ℕ → ℕ → ℕ
sub32 a b = (a + (2 ^ 32 - b)) % 2 ^ 32

-- an address or a base with a signed offset in bytes
unfoldable pub offset32 : ℕ → ℤ → ℕ
offset32 a z = add32 a (word_of z)

unfoldable pub and32 : ℕ → ℕ → ℕ
and32 a b = bit_and a b

unfoldable pub or32 : ℕ → ℕ → ℕ
or32 a b = bit_or a b

unfoldable pub xor32 : ℕ → ℕ → ℕ
xor32 a b = bit_xor a b

-- shifts use the low 5 bits of the amount; SLA is the same as SLL
unfoldable pub sll32 : ℕ → ℕ → ℕ
sll32 a b = (a * 2 ^ (b % 32)) % 2 ^ 32

unfoldable pub srl32 : ℕ → ℕ → ℕ
srl32 a b = a / 2 ^ (b % 32)

-- the sign is shifted in
unfoldable pub sra32 : ℕ → ℕ → ℕ
sra32 a b = word_of (shr_z (signed a) (2 ^ (b % 32)))

unfoldable pub slt32 : ℕ → ℕ → ℕ
slt32 a b = bit (int_lt (signed a) (signed b))

unfoldable pub sltu32 : ℕ → ℕ → ℕ
sltu32 a b = bit (nat_lt a b)

-- the low word of the product
unfoldable pub mul32 : ℕ → ℕ → ℕ
mul32 a b = (a * b) % 2 ^ 32

-- the high word of the signed product
unfoldable pub mulh32 : ℕ → ℕ → ℕ
mulh32 a b = word_of (shr_z (signed a *ℤ signed b) (2 ^ 32))

-- division cuts toward zero, and a zero divisor gives 0
unfoldable pub div32 : ℕ → ℕ → ℕ
div32 a b = cond (b == 0) 0 (word_of (int_div (signed a) (signed b)))

unfoldable pub divu32 : ℕ → ℕ → ℕ
divu32 a b = cond (b == 0) 0 (a / b)

unfoldable pub mod32 : ℕ → ℕ → ℕ
mod32 a b = cond (b == 0) 0 (word_of (int_rem (signed a) (signed b)))

-- the low half replaced by the low half of i
unfoldable pub ldil32 : ℕ → ℕ → ℕ
ldil32 a i = a / 2 ^ 16 * 2 ^ 16 + i % 2 ^ 16

-- the high half replaced by the low half of i
unfoldable pub ldih32 : ℕ → ℕ → ℕ
ldih32 a i = i % 2 ^ 16 * 2 ^ 16 + a % 2 ^ 16

-- a word cut to a width in bytes
unfoldable pub cut32 : ℕ → ℕ → ℕ
cut32 width v = v % 2 ^ (8 * width)
