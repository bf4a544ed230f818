-- The declared types and constructors that this crate names, each under the name that the declaring crate gives it.
pub use Rattle.isa.specs.declared.Mode.{Mode}
pub use Rattle.isa.specs.declared.Place.{Place}
pub use Rattle.isa.specs.declared.Start.{Start}
pub use Rattle.isa.specs.declared.Instruction.TheVariants.{Nop}
pub use Rattle.isa.specs.declared.RawInstr.{RawInstr}
pub use Rattle.isa.specs.declared.RawInstr.TheVariants.{Normal as RawNormal}
pub use Rattle.isa.specs.declared.Decoded.{Decoded}
pub use Rattle.isa.specs.declared.Request.{Request}
pub use Rattle.isa.specs.declared.Effect.{Effect}
pub use Rattle.latch.specs.declared.IfId.{IfId}
pub use Rattle.latch.specs.declared.IdEx.{IdEx}
pub use Rattle.origin.specs.declared.Origins.{Origins}
pub use Rattle.refusal.specs.declared.Refusal.{Refusal}
pub use Rattle.refusal.specs.declared.Refusal.TheVariants.{BadAnswer, BadOffer, BadRegister, BadSpecial, BadWait}
pub use Rattle.refusal.specs.declared.Refusal.TheVariants.{CounterFull, Faulty, OutOfBounds}
pub use Rattle.stages.specs.declared.Taken.{Taken}
pub use Rattle.stages.specs.declared.Move.{Move}
pub use Rattle.stages.specs.declared.Move.TheVariants.{KeepWaiting as keep_waiting}
pub use Rattle.stages.specs.declared.Stages.{Stages}
pub use Rattle.stages.specs.declared.Counters.{Counters}
pub use Rattle.stages.specs.declared.Plan.{Plan}
pub use Rattle.pipeline.specs.declared.PipelineCpu.{PipelineCpu}
pub use Rattle.pipeline.specs.declared.Given.{Given}
pub use Rattle.pipeline.specs.declared.Ticked.{Ticked}
pub use Rattle.pipeline.specs.declared.Wanted.{Wanted}
pub use Rattle.pipeline.specs.declared.Forwarded.{Forwarded}
pub use Rattle.pipeline.specs.declared.Execution.{Execution}
