-- The step sheet's records: a command byte, then four operand bytes; 16-bit fields high byte first; unused bytes zero.
use Rattle.std.specs.Prelude.{◌*◌, ◌+◌, ℕ, ◌==◌, nat_le, ℤ, Bool, ◌&&◌, cond, false, true, Option, None, Some}
use Rattle.isa.specs.Short.{low_bits}
use Rattle.sheet.specs.Names.{Add, Addi, And, Beq, Bne, Cpuid, Div, Divu, Halt, Instruction, Iret, Jal, Jalr}
use Rattle.sheet.specs.Names.{Jalrs, Jals, Jmp, Jmps, Jr, Jrs, Ld, Ldb, Ldh, Ldih, Ldil, Line, Mfsr, Mod, Mtsr}
use Rattle.sheet.specs.Names.{Mul, Mulh, Nop, Or, Pair, Record, Sla, Sll, Slt, Sltu, Sra, Srl, St, Stb}
use Rattle.sheet.specs.Names.{Sth, Sub, Syscall, Unknown, Xor}

-- 16 bits, high byte first
unfoldable pub both : ℕ → ℕ → ℕ
both h l = h * 256 + l

-- every byte is zero
unfoldable pub zeros : ℕ → ℕ → ℕ → ℕ → Bool
zeros a b d e = (a == 0 && b == 0) && (d == 0 && e == 0)

-- the instruction, where its unused bytes are zero
unfoldable pub line_if : Bool → Instruction → Option Record
line_if true i = Some (Line i)
line_if false i = None

-- 00 NOP, 01 CPUID, 02 HALT, 03 IRET
unfoldable pub plain_of : ℕ → Instruction
plain_of c = cond (c == 0x00) Nop (cond (c == 0x01) Cpuid (cond (c == 0x02) Halt Iret))

-- 10 to 1F ADD SUB AND OR XOR SLL SRL SLA SRA SLT SLTU MUL MULH DIV DIVU MOD: rd, rs1, rs2
unfoldable pub three_of : ℕ → ℕ → ℕ → ℕ → Instruction
three_of c a b d =
    cond (c == 0x10) (Add a b d)
    (cond (c == 0x11) (Sub a b d)
    (cond (c == 0x12) (And a b d)
    (cond (c == 0x13) (Or a b d)
    (cond (c == 0x14) (Xor a b d)
    (cond (c == 0x15) (Sll a b d)
    (cond (c == 0x16) (Srl a b d)
    (cond (c == 0x17) (Sla a b d)
    (cond (c == 0x18) (Sra a b d)
    (cond (c == 0x19) (Slt a b d)
    (cond (c == 0x1A) (Sltu a b d)
    (cond (c == 0x1B) (Mul a b d)
    (cond (c == 0x1C) (Mulh a b d)
    (cond (c == 0x1D) (Div a b d)
    (cond (c == 0x1E) (Divu a b d)
    (Mod a b d)))))))))))))))

-- 20 ADDI, 21 LD, 22 LDH, 23 LDB, 24 ST, 25 STH, 26 STB: rd, rs1 or base, 16 bits; 27 BEQ, 28 BNE: rs1, rs2, offset
unfoldable pub offset_of : ℕ → ℕ → ℕ → ℤ → Instruction
offset_of c a b z =
    cond (c == 0x20) (Addi a b z)
    (cond (c == 0x21) (Ld a b z)
    (cond (c == 0x22) (Ldh a b z)
    (cond (c == 0x23) (Ldb a b z)
    (cond (c == 0x24) (St a b z)
    (cond (c == 0x25) (Sth a b z)
    (cond (c == 0x26) (Stb a b z)
    (cond (c == 0x27) (Beq a b z)
    (Bne a b z))))))))

-- 30 LDIL, 31 LDIH, 32 MTSR, 33 MFSR: register, zero, 16 bits
unfoldable pub half_of : ℕ → ℕ → ℕ → Instruction
half_of c a n =
    cond (c == 0x30) (Ldil a n)
    (cond (c == 0x31) (Ldih a n)
    (cond (c == 0x32) (Mtsr a n)
    (Mfsr a n)))

-- 40 JR, 41 JRS, 42 JALR, 43 JALRS: register, three zeros
unfoldable pub jump_of : ℕ → ℕ → Instruction
jump_of c a = cond (c == 0x40) (Jr a) (cond (c == 0x41) (Jrs a) (cond (c == 0x42) (Jalr a) (Jalrs a)))

-- 50 JMP, 51 JAL, 52 JMPS, 53 JALS, 54 SYSCALL: two zeros, 16 bits
unfoldable pub far_of : ℕ → ℕ → Instruction
far_of c n =
    cond (c == 0x50) (Jmp (low_bits 15 n))
    (cond (c == 0x51) (Jal (low_bits 15 n))
    (cond (c == 0x52) (Jmps (low_bits 15 n))
    (cond (c == 0x53) (Jals (low_bits 15 n))
    (Syscall n))))

-- a command from l to h
unfoldable pub within : ℕ → ℕ → ℕ → Bool
within c l h = nat_le l c && nat_le c h

-- the record of a command and its operand bytes; 60 Unknown: 32 bits; 61: two short halfwords; none for any other
-- command, and where an unused byte is not zero
unfoldable pub record_of : ℕ → ℕ → ℕ → ℕ → ℕ → Option Record
record_of c a b d e =
    cond (within c 0x00 0x03) (line_if (zeros a b d e) (plain_of c))
    (cond (within c 0x10 0x1F) (line_if (e == 0) (three_of c a b d))
    (cond (within c 0x20 0x28) (Some (Line (offset_of c a b (low_bits 15 (both d e)))))
    (cond (within c 0x30 0x33) (line_if (b == 0) (half_of c a (both d e)))
    (cond (within c 0x40 0x43) (line_if (zeros 0 b d e) (jump_of c a))
    (cond (within c 0x50 0x54) (line_if (zeros a b 0 0) (far_of c (both d e)))
    (cond (c == 0x60) (Some (Line (Unknown (both a b) (both d e))))
    (cond (c == 0x61) (Some (Pair (both a b) (both d e)))
    None)))))))
