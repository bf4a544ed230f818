-- The declared types and constructors that this crate names, each under the name that the declaring crate gives it.
pub use Rattle.isa.specs.declared.Mode.{Mode}
pub use Rattle.isa.specs.declared.Mode.TheVariants.{Normal}
pub use Rattle.isa.specs.declared.Place.{Place}
pub use Rattle.isa.specs.declared.Instruction.TheVariants.{Nop}
pub use Rattle.isa.specs.declared.RawInstr.TheVariants.{Normal as RawNormal}
pub use Rattle.isa.specs.declared.Decoded.{Decoded}
pub use Rattle.isa.specs.declared.Decoded.TheVariants.{Normal as DecNormal}
pub use Rattle.isa.specs.declared.Request.{Request}
pub use Rattle.isa.specs.declared.Exception.{Exception}
pub use Rattle.isa.specs.declared.Operands.{Operands}
pub use Rattle.isa.specs.declared.Effect.{Effect}
pub use Rattle.latch.specs.declared.IfId.{IfId}
pub use Rattle.latch.specs.declared.IdEx.{IdEx}
pub use Rattle.latch.specs.declared.ExMem.{ExMem}
pub use Rattle.latch.specs.declared.MemWb.{MemWb}
