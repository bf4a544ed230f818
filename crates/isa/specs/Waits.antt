-- Multiplies and divides by their names; waits, used loads and prediction, read off an instruction's operands.
use Rattle.std.specs.Prelude.{◌-◌, ◌^◌, ℕ, ◌==◌, nat_lt, Bool, ◌&&◌, ◌||◌, cond, false, not, true, Option, None, Some}
use Rattle.word.specs.Words.{add32}
use Rattle.isa.specs.Effect.{fall}
use Rattle.isa.specs.Names.{Add, Addi, And, Beq, Bne, Cpuid, DecNormal, DecShort, Decoded, Div, Divu, Halt}
use Rattle.isa.specs.Names.{Instruction, Iret, Jal, Jalr, Jalrs, Jals, Jmp, Jmps, Jr, Jrs, Ld, Ldb, Ldh, Ldih}
use Rattle.isa.specs.Names.{Ldil, Mfsr, Mod, Mode, Mtsr, Mul, Mulh, Nop, Operands, Or, Place}
use Rattle.isa.specs.Names.{Sla, Sll, Slt, Sltu, Sra, Srl, St, Stb, Sth, Sub, Syscall, Unknown, Xor}
use Rattle.isa.specs.Operands.{operands_of}

-- m for the multiplies MUL and MULH, d for the divides DIV, DIVU and MOD, o for every other instruction
unfoldable pub slow_of : Bool → Bool → Bool → Instruction → Bool
slow_of m d o = elim [
  | Mul _ _ _ ↦ m
  | Mulh _ _ _ ↦ m
  | Div _ _ _ ↦ d
  | Divu _ _ _ ↦ d
  | Mod _ _ _ ↦ d
  | Nop ↦ o
  | Ld _ _ _ ↦ o
  | St _ _ _ ↦ o
  | Add _ _ _ ↦ o
  | Addi _ _ _ ↦ o
  | Sub _ _ _ ↦ o
  | Slt _ _ _ ↦ o
  | Beq _ _ _ ↦ o
  | Bne _ _ _ ↦ o
  | Jmp _ ↦ o
  | Jal _ ↦ o
  | Jr _ ↦ o
  | Jmps _ ↦ o
  | Jals _ ↦ o
  | Jrs _ ↦ o
  | Jalr _ ↦ o
  | Jalrs _ ↦ o
  | Cpuid ↦ o
  | Halt ↦ o
  | And _ _ _ ↦ o
  | Or _ _ _ ↦ o
  | Xor _ _ _ ↦ o
  | Sll _ _ _ ↦ o
  | Srl _ _ _ ↦ o
  | Sla _ _ _ ↦ o
  | Sra _ _ _ ↦ o
  | Sltu _ _ _ ↦ o
  | Ldb _ _ _ ↦ o
  | Ldh _ _ _ ↦ o
  | Stb _ _ _ ↦ o
  | Sth _ _ _ ↦ o
  | Ldil _ _ ↦ o
  | Ldih _ _ ↦ o
  | Unknown _ _ ↦ o
  | Iret ↦ o
  | Syscall _ ↦ o
  | Mfsr _ _ ↦ o
  | Mtsr _ _ ↦ o
]

-- a multiply; no Short instruction is one
unfoldable pub is_mul : Decoded → Bool
is_mul (DecNormal i) = slow_of true false false i
is_mul (DecShort i) = false

-- a divide; no Short instruction is one
unfoldable pub is_div : Decoded → Bool
is_div (DecNormal i) = slow_of false true false i
is_div (DecShort i) = false

-- one less than a latency, 0 where there is none
unfoldable pub wait_of : Option ℕ → ℕ
wait_of None = 0
wait_of (Some l) = l - 1

-- the ticks that an instruction waits in EX: one less than its latency
unfoldable pub waits : Decoded → ℕ
waits i = wait_of (operands_of i).latency

-- a destination other than R0 that is one of two sources
unfoldable pub is_used : Option ℕ → ℕ → ℕ → Bool
is_used None a b = false
is_used (Some d) a b = not (d == 0) && (d == a || d == b)

-- a load that the next instruction uses: i is a load, and j names its destination as a source
unfoldable pub is_used_load : Decoded → Decoded → Bool
is_used_load i j =
    (operands_of i).is_load && is_used (operands_of i).dest (operands_of j).src_a (operands_of j).src_b

-- a word whose top bit is set is negative
unfoldable pub is_negative : ℕ → Bool
is_negative w = not (nat_lt w (2 ^ 31))

-- where a conditional branch with offset z leads, at address p in the mode m of its latch, if z is negative; else, and
-- where there is no such branch, nowhere
unfoldable pub back_to : Option ℕ → ℕ → Mode → Option Place
back_to None p m = None
back_to (Some z) p m = cond (is_negative z) (Some (record { pc = add32 (fall p m) z; mode = m })) None

-- the prediction: a conditional branch with negative offset is taken; no other is
unfoldable pub predict_by : Operands → ℕ → Mode → Option Place
predict_by o p m = back_to o.branch p m

-- the same of a decoded instruction
unfoldable pub predict : Decoded → ℕ → Mode → Option Place
predict i p m = predict_by (operands_of i) p m
