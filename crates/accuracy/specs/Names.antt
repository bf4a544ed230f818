-- The declared types and constructors that this crate names, each under the name that the declaring crate gives it.
pub use Rattle.isa.specs.declared.Mode.{Mode}
pub use Rattle.isa.specs.declared.Mode.TheVariants.{Normal, Short}
pub use Rattle.isa.specs.declared.Place.{Place}
pub use Rattle.isa.specs.declared.Start.{Start}
pub use Rattle.isa.specs.declared.Instruction.{Instruction}
pub use Rattle.isa.specs.declared.Instruction.TheVariants.{Nop, Ld, St, Add, Addi, Sub, Slt, Beq, Bne, Jmp, Jal, Jr}
pub use Rattle.isa.specs.declared.Instruction.TheVariants.{Jmps, Jals, Jrs, Jalr, Jalrs, Cpuid, Halt, And, Or, Xor}
pub use Rattle.isa.specs.declared.Instruction.TheVariants.{Sll, Srl, Sla, Sra, Sltu, Mul, Div, Mod, Mulh, Divu, Ldb}
pub use Rattle.isa.specs.declared.Instruction.TheVariants.{Ldh, Stb, Sth, Ldil, Ldih, Unknown, Iret, Syscall, Mfsr}
pub use Rattle.isa.specs.declared.Instruction.TheVariants.{Mtsr}
pub use Rattle.isa.specs.declared.ShortInstruction.{ShortInstruction}
pub use Rattle.isa.specs.declared.ShortInstruction.TheVariants.{Mov as ShortMov, Add as ShortAdd, Addi as ShortAddi}
pub use Rattle.isa.specs.declared.ShortInstruction.TheVariants.{Ld as ShortLd}
pub use Rattle.isa.specs.declared.ShortInstruction.TheVariants.{St as ShortSt, Bz as ShortBz, Bnz as ShortBnz}
pub use Rattle.isa.specs.declared.ShortInstruction.TheVariants.{Jr as ShortJr}
pub use Rattle.isa.specs.declared.ShortInstruction.TheVariants.{Jal as ShortJal, Ldi as ShortLdi, Ret as ShortRet}
pub use Rattle.isa.specs.declared.ShortInstruction.TheVariants.{Unknown as ShortUnknown}
pub use Rattle.isa.specs.declared.RawInstr.{RawInstr}
pub use Rattle.isa.specs.declared.RawInstr.TheVariants.{Normal as RawNormal, Short as RawShort}
pub use Rattle.isa.specs.declared.Decoded.{Decoded}
pub use Rattle.isa.specs.declared.Decoded.TheVariants.{Normal as DecNormal, Short as DecShort}
pub use Rattle.isa.specs.declared.Request.{Request}
pub use Rattle.isa.specs.declared.Request.TheVariants.{Load, Store}
pub use Rattle.isa.specs.declared.Exception.{Exception}
pub use Rattle.isa.specs.declared.Exception.TheVariants.{IllegalInstruction}
pub use Rattle.isa.specs.declared.Operands.{Operands}
pub use Rattle.isa.specs.declared.Effect.{Effect}
pub use Rattle.latch.specs.declared.IfId.{IfId}
pub use Rattle.latch.specs.declared.IdEx.{IdEx}
pub use Rattle.latch.specs.declared.ExMem.{ExMem}
pub use Rattle.latch.specs.declared.MemWb.{MemWb}
pub use Rattle.origin.specs.declared.Origins.{Origins}
pub use Rattle.refusal.specs.declared.Refusal.{Refusal}
pub use Rattle.refusal.specs.declared.Refusal.TheVariants.{BadAnswer, BadOffer, BadRegister, BadWait, Faulty}
pub use Rattle.refusal.specs.declared.Refusal.TheVariants.{OutOfBounds}
pub use Rattle.stages.specs.declared.Taken.{Taken}
pub use Rattle.stages.specs.declared.Move.{Move}
pub use Rattle.stages.specs.declared.Move.TheVariants.{KeepWaiting as keep_waiting, BeginWait as begin_wait}
pub use Rattle.stages.specs.declared.Move.TheVariants.{LoadUseStall as load_use_stall, Proceed as proceed}
pub use Rattle.stages.specs.declared.Move.TheVariants.{Redirect as redirect}
pub use Rattle.stages.specs.declared.Stages.{Stages}
pub use Rattle.pipeline.specs.declared.PipelineCpu.{PipelineCpu}
pub use Rattle.pipeline.specs.declared.Given.{Given}
pub use Rattle.pipeline.specs.declared.Wanted.{Wanted}
