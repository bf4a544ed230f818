-- The declared types and constructors that this crate names, each under the name that the declaring crate gives it.
pub use Rattle.isa.specs.declared.Mode.{Mode}
pub use Rattle.isa.specs.declared.Place.{Place}
pub use Rattle.isa.specs.declared.Start.{Start}
pub use Rattle.isa.specs.declared.Decoded.{Decoded}
pub use Rattle.isa.specs.declared.Request.{Request}
pub use Rattle.isa.specs.declared.Effect.{Effect}
pub use Rattle.refusal.specs.declared.Refusal.{Refusal}
pub use Rattle.refusal.specs.declared.Refusal.TheVariants.{BadCommand, BadLength, BadLimit, BadRegister}
pub use Rattle.player.specs.declared.PlayerEnd.{PlayerEnd}
pub use Rattle.player.specs.declared.PlayerEnd.TheVariants.{Halted as PlayHalted, Spent as PlaySpent}
pub use Rattle.player.specs.declared.PlayerEnd.TheVariants.{Stopped as PlayStopped, Loads as PlayLoads}
pub use Rattle.player.specs.declared.PlayerEnd.TheVariants.{Refused as PlayRefused}
pub use Rattle.player.specs.declared.Played.{Played}
pub use Rattle.player.specs.declared.Slot.{Slot}
