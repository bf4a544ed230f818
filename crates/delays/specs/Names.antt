-- The declared types and constructors that this crate names, each under the name that the declaring crate gives it.
pub use Rattle.isa.specs.declared.Mode.{Mode}
pub use Rattle.isa.specs.declared.Mode.TheVariants.{Normal, Short}
pub use Rattle.isa.specs.declared.Decoded.{Decoded}
pub use Rattle.isa.specs.declared.Decoded.TheVariants.{Normal as DecNormal}
pub use Rattle.isa.specs.declared.Instruction.{Instruction}
pub use Rattle.isa.specs.declared.Start.{Start}
pub use Rattle.isa.specs.declared.RawInstr.{RawInstr}
pub use Rattle.sheet.specs.declared.Record.TheVariants.{Line}
