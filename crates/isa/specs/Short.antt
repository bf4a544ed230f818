-- Short decode: the top nibble says which instruction; 10 to 14 are unknown.
use Rattle.std.specs.Prelude.{◌%◌, ◌+◌, ◌-◌, ◌/◌, ◌^◌, ℕ, ◌==◌, nat_lt, negsuc, pos, ℤ, cond}
use Rattle.isa.specs.Names.{DecNormal, DecShort, Decoded, RawInstr, RawNormal, RawShort, ShortInstruction, ShortAdd}
use Rattle.isa.specs.Names.{ShortAddi, ShortBnz, ShortBz, ShortJal, ShortJr, ShortLd, ShortLdi, ShortMov, ShortRet}
use Rattle.isa.specs.Names.{ShortSt, ShortUnknown}

-- nibble k of a halfword, counted from the low end
unfoldable pub nibble : ℕ → ℕ → ℕ
nibble h k = h / 16 ^ k % 16

-- the low n bits of a halfword as a signed number; n is one more than k
unfoldable pub low_bits : ℕ → ℕ → ℤ
low_bits k h = cond (nat_lt (h % 2 ^ (k + 1)) (2 ^ k)) (pos (h % 2 ^ (k + 1)))
    (negsuc (2 ^ (k + 1) - 1 - h % 2 ^ (k + 1)))

-- the halfword with top nibble op
unfoldable pub short_by : ℕ → ℕ → ShortInstruction
short_by op h =
    cond (op == 0) (ShortMov (nibble h 2) (nibble h 1))
    (cond (op == 1) (ShortAdd (nibble h 2) (nibble h 1) (nibble h 0))
    (cond (op == 2) (ShortAddi (nibble h 2) (low_bits 7 h))
    (cond (op == 3) (ShortLd (nibble h 2) (nibble h 1))
    (cond (op == 4) (ShortSt (nibble h 2) (nibble h 1))
    (cond (op == 5) (ShortBz (nibble h 2) (low_bits 7 h))
    (cond (op == 6) (ShortBnz (nibble h 2) (low_bits 7 h))
    (cond (op == 7) (ShortJr (nibble h 2))
    (cond (op == 8) (ShortJal (low_bits 11 h))
    (cond (op == 9) (ShortLdi (nibble h 2) (h % 256))
    (cond (nat_lt op 15) (ShortUnknown h) ShortRet))))))))))

-- a halfword decoded
unfoldable pub decode_short : ℕ → ShortInstruction
decode_short h = short_by (h / 16 ^ 3) h

-- what a fetch brought, decoded
unfoldable pub decoded_of : RawInstr → Decoded
decoded_of (RawNormal i) = DecNormal i
decoded_of (RawShort h) = DecShort (decode_short h)
