-- The declared types and constructors that this crate names, each under the name that the declaring crate gives it.
pub use Rattle.isa.specs.declared.Start.{Start}
pub use Rattle.refusal.specs.declared.Refusal.{Refusal}
pub use Rattle.refusal.specs.declared.Refusal.TheVariants.{BadCommand, BadLength, BadLimit, HighPreview, LongPreview}
pub use Rattle.refusal.specs.declared.Refusal.TheVariants.{OutOfBounds}
pub use Rattle.sheet.specs.declared.End.TheVariants.{Halted, Refused as EndRefused}
pub use Rattle.pipeline.specs.declared.PipelineCpu.{PipelineCpu}
pub use Rattle.runs.specs.declared.Ran.{Ran}
