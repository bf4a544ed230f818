-- The declared types and constructors that this crate names, each under the name that the declaring crate gives it.
pub use Rattle.refusal.specs.declared.Refusal.{Refusal}
pub use Rattle.refusal.specs.declared.Refusal.TheVariants.{LogFull}
pub use Rattle.stages.specs.declared.Stages.{Stages}
pub use Rattle.cardlog.specs.declared.Event.{Event}
pub use Rattle.pipeline.specs.declared.PipelineCpu.{PipelineCpu}
pub use Rattle.pipeline.specs.declared.Given.{Given}
pub use Rattle.pipeline.specs.declared.Ticked.{Ticked}
pub use Rattle.logging.specs.declared.LoggedTick.{LoggedTick}
