-- The declared types and constructors that this crate names, each under the name that the declaring crate gives it.
pub use Rattle.isa.specs.declared.RawInstr.{RawInstr}
pub use Rattle.isa.specs.declared.Place.{Place}
pub use Rattle.isa.specs.declared.Operands.{Operands}
pub use Rattle.isa.specs.declared.Effect.{Effect}
pub use Rattle.latch.specs.declared.IfId.{IfId}
pub use Rattle.latch.specs.declared.IdEx.{IdEx}
pub use Rattle.latch.specs.declared.ExMem.{ExMem}
pub use Rattle.origin.specs.declared.Origin.{Origin}
pub use Rattle.origin.specs.declared.Origins.{Origins}
pub use Rattle.stages.specs.declared.Taken.{Taken}
pub use Rattle.stages.specs.declared.Move.{Move}
pub use Rattle.stages.specs.declared.Move.TheVariants.{KeepWaiting as keep_waiting, BeginWait as begin_wait}
pub use Rattle.stages.specs.declared.Move.TheVariants.{LoadUseStall as load_use_stall, Proceed as proceed}
pub use Rattle.stages.specs.declared.Move.TheVariants.{Redirect as redirect}
pub use Rattle.stages.specs.declared.Stages.{Stages}
pub use Rattle.stages.specs.declared.Counters.{Counters}
pub use Rattle.stages.specs.declared.Front.{Front}
pub use Rattle.stages.specs.declared.Plan.{Plan}
