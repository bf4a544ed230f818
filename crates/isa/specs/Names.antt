-- The declared types and their constructors, each under one name: `Short` stands before a Short instruction's.
pub use Rattle.isa.specs.declared.Mode.{Mode}
pub use Rattle.isa.specs.declared.Mode.TheVariants.{Normal, Short}
pub use Rattle.isa.specs.declared.Start.{Start}
pub use Rattle.isa.specs.declared.Instruction.{Instruction}
pub use Rattle.isa.specs.declared.Instruction.TheVariants.{Nop, Ld, St, Add, Addi, Sub, Slt, Beq, Bne, Jmp}
pub use Rattle.isa.specs.declared.Instruction.TheVariants.{Jal, Jr, Jmps, Jals, Jrs, Jalr, Jalrs, Cpuid}
pub use Rattle.isa.specs.declared.Instruction.TheVariants.{Halt, And, Or, Xor, Sll, Srl, Sla, Sra, Sltu, Mul}
pub use Rattle.isa.specs.declared.Instruction.TheVariants.{Div, Mod, Mulh, Divu, Ldb, Ldh, Stb, Sth, Ldil}
pub use Rattle.isa.specs.declared.Instruction.TheVariants.{Ldih, Unknown, Iret, Syscall, Mfsr, Mtsr}
pub use Rattle.isa.specs.declared.ShortInstruction.{ShortInstruction}
pub use Rattle.isa.specs.declared.ShortInstruction.TheVariants.{Mov as ShortMov, Add as ShortAdd, Addi as ShortAddi}
pub use Rattle.isa.specs.declared.ShortInstruction.TheVariants.{Ld as ShortLd, St as ShortSt, Bz as ShortBz}
pub use Rattle.isa.specs.declared.ShortInstruction.TheVariants.{Bnz as ShortBnz}
pub use Rattle.isa.specs.declared.ShortInstruction.TheVariants.{Jr as ShortJr, Jal as ShortJal, Ldi as ShortLdi}
pub use Rattle.isa.specs.declared.ShortInstruction.TheVariants.{Ret as ShortRet, Unknown as ShortUnknown}
pub use Rattle.isa.specs.declared.RawInstr.{RawInstr}
pub use Rattle.isa.specs.declared.RawInstr.TheVariants.{Normal as RawNormal, Short as RawShort}
pub use Rattle.isa.specs.declared.Decoded.{Decoded}
pub use Rattle.isa.specs.declared.Decoded.TheVariants.{Normal as DecNormal, Short as DecShort}
pub use Rattle.isa.specs.declared.Place.{Place}
pub use Rattle.isa.specs.declared.Request.{Request}
pub use Rattle.isa.specs.declared.Request.TheVariants.{Load, Store}
pub use Rattle.isa.specs.declared.Exception.{Exception}
pub use Rattle.isa.specs.declared.Exception.TheVariants.{PrivilegedInstruction, IllegalInstruction}
pub use Rattle.isa.specs.declared.Exception.TheVariants.{Syscall as SyscallException}
pub use Rattle.isa.specs.declared.Operands.{Operands}
pub use Rattle.isa.specs.declared.AluResult.{AluResult}
pub use Rattle.isa.specs.declared.Access.{Access}
pub use Rattle.isa.specs.declared.Marks.{Marks}
pub use Rattle.isa.specs.declared.Effect.{Effect}
