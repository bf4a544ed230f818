-- The arithmetic of one command of the step sheet: 10 to 1F hexadecimal, and refusal 5 for any other.
use Rattle.std.specs.Prelude.{ℕ, cond, ◌&&◌, ◌==◌, nat_le, None, Option, Some}
use Rattle.word.specs.Words.{add32, and32, div32, divu32, mod32, mul32, mulh32, or32, sll32, slt32, sltu32, sra32}
use Rattle.word.specs.Words.{srl32, sub32, xor32}

-- ADD SUB AND OR XOR SLL SRL SLA SRA SLT SLTU MUL MULH DIV DIVU MOD
unfoldable pub arithmetic32 : ℕ → ℕ → ℕ → ℕ
arithmetic32 c a b =
    cond (c == 0x10) (add32 a b)
    (cond (c == 0x11) (sub32 a b)
    (cond (c == 0x12) (and32 a b)
    (cond (c == 0x13) (or32 a b)
    (cond (c == 0x14) (xor32 a b)
    (cond (c == 0x15) (sll32 a b)
    (cond (c == 0x16) (srl32 a b)
    (cond (c == 0x17) (sll32 a b)
    (cond (c == 0x18) (sra32 a b)
    (cond (c == 0x19) (slt32 a b)
    (cond (c == 0x1A) (sltu32 a b)
    (cond (c == 0x1B) (mul32 a b)
    (cond (c == 0x1C) (mulh32 a b)
    (cond (c == 0x1D) (div32 a b)
    (cond (c == 0x1E) (divu32 a b)
    (cond (c == 0x1F) (mod32 a b)
    0)))))))))))))))

-- the same, and None for a command that does not exist
unfoldable pub command_of : ℕ → ℕ → ℕ → Option ℕ
command_of c a b = cond (nat_le 0x10 c && nat_le c 0x1F) (Some (arithmetic32 c a b)) None

-- as exported: 4,294,967,301 means refusal 5
unfoldable pub command32 : ℕ → ℕ → ℕ → ℕ
command32 c a b = cond (nat_le 0x10 c && nat_le c 0x1F) (arithmetic32 c a b) 4294967301
