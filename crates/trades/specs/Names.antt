-- The declared types and constructors that this crate names, each under the name that the declaring crate gives it.
pub use Rattle.isa.specs.declared.Mode.{Mode}
pub use Rattle.isa.specs.declared.Mode.TheVariants.{Normal}
pub use Rattle.isa.specs.declared.Decoded.TheVariants.{Normal as DecNormal}
pub use Rattle.isa.specs.declared.Instruction.{Instruction}
pub use Rattle.isa.specs.declared.Instruction.TheVariants.{Addi, Ldih, Ldil, Nop}
pub use Rattle.isa.specs.declared.Operands.{Operands}
pub use Rattle.isa.specs.declared.AluResult.{AluResult}
pub use Rattle.isa.specs.declared.Effect.{Effect}
pub use Rattle.isa.specs.declared.Start.{Start}
pub use Rattle.refusal.specs.declared.Refusal.{Refusal}
pub use Rattle.refusal.specs.declared.Refusal.TheVariants.{BadCommand, BadLength, BadRegister, ShortList}
pub use Rattle.sheet.specs.declared.Record.{Record}
pub use Rattle.sheet.specs.declared.Record.TheVariants.{Line, Pair}
