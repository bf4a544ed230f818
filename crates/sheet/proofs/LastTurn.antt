-- A turn with the limit used up. Assumes nothing.
use mathlib.Core.Bool.{Bool, cond, false, true}
use mathlib.Core.Path.{◌≡◌, refl}
use Rattle.std.specs.Prelude.{Some}
use Rattle.sheet.specs.Names.{Halted, Spent}
use Rattle.sheet.specs.Turns.{turn_by}

-- it ends the run, halted or spent, whatever the three other tests say; the edit spent_as_loads is refused here
pub last_is : (r a b d : Bool) → turn_by r true a b d ≡ Some (cond r Spent Halted)
unfolding turn_by
last_is true a b d = refl
last_is false a b d = refl
