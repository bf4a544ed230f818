-- The declared types and constructors that this crate names, each under the name that the declaring crate gives it.
pub use Rattle.isa.specs.declared.Mode.TheVariants.{Normal}
pub use Rattle.isa.specs.declared.Instruction.TheVariants.{Add, Addi, Beq, Cpuid, Ld, Nop}
pub use Rattle.isa.specs.declared.ShortInstruction.TheVariants.{Ldi as ShortLdi}
pub use Rattle.isa.specs.declared.Decoded.{Decoded}
pub use Rattle.isa.specs.declared.Decoded.TheVariants.{Normal as DecNormal, Short as DecShort}
pub use Rattle.latch.specs.declared.IdEx.{IdEx}
pub use Rattle.latch.specs.declared.ExMem.{ExMem}
pub use Rattle.latch.specs.declared.MemWb.{MemWb}
pub use Rattle.origin.specs.declared.Origin.{Origin}
pub use Rattle.origin.specs.declared.Origin.TheVariants.{ZeroRegister, ExMem as FromExMem}
pub use Rattle.origin.specs.declared.Origin.TheVariants.{ExMemCpuid as FromExMemCpuid, MemWb as FromMemWb}
pub use Rattle.origin.specs.declared.Origin.TheVariants.{MemWbCpuid as FromMemWbCpuid, RegisterFile}
pub use Rattle.origin.specs.declared.Origins.{Origins}
