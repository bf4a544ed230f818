-- The declared types and constructors that this crate names, each under the name that the declaring crate gives it.
pub use Rattle.isa.specs.declared.Place.{Place}
pub use Rattle.isa.specs.declared.Start.{Start}
pub use Rattle.refusal.specs.declared.Refusal.{Refusal}
pub use Rattle.sheet.specs.declared.End.TheVariants.{Halted}
pub use Rattle.player.specs.declared.PlayerEnd.TheVariants.{Halted as PlayHalted}
pub use Rattle.player.specs.declared.Played.{Played}
pub use Rattle.pipeline.specs.declared.Given.{Given}
pub use Rattle.pipeline.specs.declared.PipelineCpu.{PipelineCpu}
pub use Rattle.runs.specs.declared.Ran.{Ran}
