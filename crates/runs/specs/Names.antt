-- The declared types and constructors that this crate names, each under the name that the declaring crate gives it.
pub use Rattle.isa.specs.declared.Mode.{Mode}
pub use Rattle.isa.specs.declared.Mode.TheVariants.{Normal}
pub use Rattle.isa.specs.declared.Place.{Place}
pub use Rattle.isa.specs.declared.Start.{Start}
pub use Rattle.isa.specs.declared.Instruction.TheVariants.{Nop}
pub use Rattle.isa.specs.declared.RawInstr.{RawInstr}
pub use Rattle.isa.specs.declared.Decoded.TheVariants.{Normal as DecNormal}
pub use Rattle.isa.specs.declared.Request.{Request}
pub use Rattle.isa.specs.declared.Exception.{Exception}
pub use Rattle.isa.specs.declared.Effect.{Effect}
pub use Rattle.refusal.specs.declared.Refusal.{Refusal}
pub use Rattle.refusal.specs.declared.Refusal.TheVariants.{Faulty, OutOfBounds}
pub use Rattle.sheet.specs.declared.End.{End}
pub use Rattle.sheet.specs.declared.End.TheVariants.{Halted, Spent, Refused as EndRefused, Loads}
pub use Rattle.latch.specs.declared.IfId.{IfId}
pub use Rattle.latch.specs.declared.IdEx.{IdEx}
pub use Rattle.latch.specs.declared.ExMem.{ExMem}
pub use Rattle.latch.specs.declared.MemWb.{MemWb}
pub use Rattle.stages.specs.declared.Taken.{Taken}
pub use Rattle.stages.specs.declared.Move.{Move}
pub use Rattle.stages.specs.declared.Move.TheVariants.{KeepWaiting as keep_waiting, BeginWait as begin_wait}
pub use Rattle.stages.specs.declared.Move.TheVariants.{LoadUseStall as load_use_stall, Proceed as proceed}
pub use Rattle.stages.specs.declared.Move.TheVariants.{Redirect as redirect}
pub use Rattle.stages.specs.declared.Stages.{Stages}
pub use Rattle.stages.specs.declared.Counters.{Counters}
pub use Rattle.pipeline.specs.declared.PipelineCpu.{PipelineCpu}
pub use Rattle.pipeline.specs.declared.Given.{Given}
pub use Rattle.runs.specs.declared.Ran.{Ran}
