-- The declared types and constructors that this crate names, each under the name that the declaring crate gives it.
pub use Rattle.isa.specs.declared.Mode.{Mode}
pub use Rattle.isa.specs.declared.Mode.TheVariants.{Normal, Short}
pub use Rattle.isa.specs.declared.Instruction.{Instruction}
pub use Rattle.isa.specs.declared.Instruction.TheVariants.{Nop, Ld, St, Add, Addi, Sub, Slt, Beq, Bne, Jmp, Jal, Jr}
pub use Rattle.isa.specs.declared.Instruction.TheVariants.{Jmps, Jals, Jrs, Jalr, Jalrs, Cpuid, Halt, And, Or, Xor}
pub use Rattle.isa.specs.declared.Instruction.TheVariants.{Sll, Srl, Sla, Sra, Sltu, Mul, Div, Mod, Mulh, Divu, Ldb}
pub use Rattle.isa.specs.declared.Instruction.TheVariants.{Ldh, Stb, Sth, Ldil, Ldih, Unknown, Iret, Syscall, Mfsr}
pub use Rattle.isa.specs.declared.Instruction.TheVariants.{Mtsr}
pub use Rattle.isa.specs.declared.RawInstr.{RawInstr}
pub use Rattle.isa.specs.declared.RawInstr.TheVariants.{Normal as RawNormal, Short as RawShort}
pub use Rattle.refusal.specs.declared.Refusal.{Refusal}
pub use Rattle.refusal.specs.declared.Refusal.TheVariants.{BadCommand, BadLength, BadLimit, BadRegister, CounterFull}
pub use Rattle.refusal.specs.declared.Refusal.TheVariants.{Faulty}
pub use Rattle.sheet.specs.declared.Record.{Record}
pub use Rattle.sheet.specs.declared.Record.TheVariants.{Line, Pair}
pub use Rattle.sheet.specs.declared.End.{End}
pub use Rattle.sheet.specs.declared.End.TheVariants.{Halted, Spent, Refused as EndRefused, Loads}
