-- Only MFSR asks for a special register, and in supervisor mode. Assumes nothing.
use Prim.Native.Nat.{ℕ}
use Rattle.std.specs.Prelude.{Option, None, Some, is_some}
use mathlib.Core.Bool.{Bool, false, false≢true, true}
use mathlib.Core.Path.{◌≡◌, refl}
use Rattle.isa.specs.Effect.{branches, effect_n, effect_of, effect_s, fall, gives, goes_by, goes_on, identifies}
use Rattle.isa.specs.Effect.{inquires, jumps, links, marked, nothing, privileged, raises, reaches, resumes, sets}
use Rattle.isa.specs.Effect.{stops}
use Rattle.isa.specs.Inquiries.{NotMfsr}
use Rattle.isa.specs.Names.{Add, Addi, And, Beq, Bne, Cpuid, DecNormal, DecShort, Decoded, Div, Divu, Halt}
use Rattle.isa.specs.Names.{Instruction, Iret, Jal, Jalr, Jalrs, Jals, Jmp, Jmps, Jr, Jrs, Ld, Ldb, Ldh}
use Rattle.isa.specs.Names.{Ldih, Ldil, Mfsr, Mod, Mtsr, Mul, Mulh, Nop, Normal, Or, Short}
use Rattle.isa.specs.Names.{ShortInstruction, Sla, Sll, Slt, Sltu, Sra, Srl, St, Stb, Sth, Sub, Syscall, Unknown}
use Rattle.isa.specs.Names.{Xor, ShortAdd, ShortAddi, ShortBnz, ShortBz, ShortJal, ShortJr, ShortLd, ShortLdi, ShortMov}
use Rattle.isa.specs.Names.{ShortRet, ShortSt, ShortUnknown}

-- an instruction that asks
pub record Asks (u : Bool) (i : Decoded) : Type 0 where
  pub rd : ℕ
  pub sr : ℕ
  pub is : i ≡ DecNormal (Mfsr rd sr)
  pub user : u ≡ false

asks_n : (u : Bool) (i : Instruction) (n x y : ℕ) → is_some (effect_n u i n x y).inquiry ≡ true
    → Asks u (DecNormal i)
unfolding effect_n nothing goes_on goes_by marked stops resumes identifies gives reaches branches jumps links
    raises sets inquires privileged
asks_n u Nop n x y e = absurd (false≢true e)
asks_n u (Ld rd base offset) n x y e = absurd (false≢true e)
asks_n u (St rd base offset) n x y e = absurd (false≢true e)
asks_n u (Add rd rs1 rs2) n x y e = absurd (false≢true e)
asks_n u (Addi rd rs1 imm) n x y e = absurd (false≢true e)
asks_n u (Sub rd rs1 rs2) n x y e = absurd (false≢true e)
asks_n u (Slt rd rs1 rs2) n x y e = absurd (false≢true e)
asks_n u (Beq rs1 rs2 offset) n x y e = absurd (false≢true e)
asks_n u (Bne rs1 rs2 offset) n x y e = absurd (false≢true e)
asks_n u (Jmp offset) n x y e = absurd (false≢true e)
asks_n u (Jal offset) n x y e = absurd (false≢true e)
asks_n u (Jr rd) n x y e = absurd (false≢true e)
asks_n u (Jmps offset) n x y e = absurd (false≢true e)
asks_n u (Jals offset) n x y e = absurd (false≢true e)
asks_n u (Jrs rd) n x y e = absurd (false≢true e)
asks_n u (Jalr rd) n x y e = absurd (false≢true e)
asks_n u (Jalrs rd) n x y e = absurd (false≢true e)
asks_n u Cpuid n x y e = absurd (false≢true e)
asks_n true Halt n x y e = absurd (false≢true e)
asks_n false Halt n x y e = absurd (false≢true e)
asks_n u (And rd rs1 rs2) n x y e = absurd (false≢true e)
asks_n u (Or rd rs1 rs2) n x y e = absurd (false≢true e)
asks_n u (Xor rd rs1 rs2) n x y e = absurd (false≢true e)
asks_n u (Sll rd rs1 rs2) n x y e = absurd (false≢true e)
asks_n u (Srl rd rs1 rs2) n x y e = absurd (false≢true e)
asks_n u (Sla rd rs1 rs2) n x y e = absurd (false≢true e)
asks_n u (Sra rd rs1 rs2) n x y e = absurd (false≢true e)
asks_n u (Sltu rd rs1 rs2) n x y e = absurd (false≢true e)
asks_n u (Mul rd rs1 rs2) n x y e = absurd (false≢true e)
asks_n u (Div rd rs1 rs2) n x y e = absurd (false≢true e)
asks_n u (Mod rd rs1 rs2) n x y e = absurd (false≢true e)
asks_n u (Mulh rd rs1 rs2) n x y e = absurd (false≢true e)
asks_n u (Divu rd rs1 rs2) n x y e = absurd (false≢true e)
asks_n u (Ldb rd base offset) n x y e = absurd (false≢true e)
asks_n u (Ldh rd base offset) n x y e = absurd (false≢true e)
asks_n u (Stb rd base offset) n x y e = absurd (false≢true e)
asks_n u (Sth rd base offset) n x y e = absurd (false≢true e)
asks_n u (Ldil rd imm) n x y e = absurd (false≢true e)
asks_n u (Ldih rd imm) n x y e = absurd (false≢true e)
asks_n u (Unknown high low) n x y e = absurd (false≢true e)
asks_n true Iret n x y e = absurd (false≢true e)
asks_n false Iret n x y e = absurd (false≢true e)
asks_n u (Syscall imm) n x y e = absurd (false≢true e)
asks_n true (Mfsr rd sr) n x y e = absurd (false≢true e)
asks_n false (Mfsr rd sr) n x y e = record { rd = rd; sr = sr; is = refl; user = refl }
asks_n true (Mtsr rs sr) n x y e = absurd (false≢true e)
asks_n false (Mtsr rs sr) n x y e = absurd (false≢true e)

asks_s : (u : Bool) (i : ShortInstruction) (n x y : ℕ) → is_some (effect_s i n x y).inquiry ≡ true
    → Asks u (DecShort i)
unfolding effect_s goes_on goes_by marked gives reaches branches jumps links raises
asks_s u (ShortMov rd rs1) n x y e = absurd (false≢true e)
asks_s u (ShortAdd rd rs1 rs2) n x y e = absurd (false≢true e)
asks_s u (ShortAddi rd imm) n x y e = absurd (false≢true e)
asks_s u (ShortLd rd rs1) n x y e = absurd (false≢true e)
asks_s u (ShortSt rd rs1) n x y e = absurd (false≢true e)
asks_s u (ShortBz rd offset) n x y e = absurd (false≢true e)
asks_s u (ShortBnz rd offset) n x y e = absurd (false≢true e)
asks_s u (ShortJr rd) n x y e = absurd (false≢true e)
asks_s u (ShortJal offset) n x y e = absurd (false≢true e)
asks_s u (ShortLdi rd imm) n x y e = absurd (false≢true e)
asks_s u ShortRet n x y e = absurd (false≢true e)
asks_s u (ShortUnknown h) n x y e = absurd (false≢true e)

pub asks : (u : Bool) (i : Decoded) (p x y : ℕ) → is_some (effect_of u i p x y).inquiry ≡ true → Asks u i
unfolding effect_of
asks u (DecNormal i) p x y e = asks_n u i (fall p Normal) x y e
asks u (DecShort i) p x y e = asks_s u i (fall p Short) x y e

none_by : (q : Option ℕ) → (is_some q ≡ true → ⊥) → q ≡ None
none_by None h = refl
none_by (Some n) h = absurd (h refl)

-- any other instruction asks for none
pub asks_none : (u : Bool) (i : Decoded) (p x y : ℕ) → NotMfsr i → (effect_of u i p x y).inquiry ≡ None
asks_none u i p x y h = none_by _ (λ e. let a = asks u i p x y e in h a.rd a.sr a.is)
