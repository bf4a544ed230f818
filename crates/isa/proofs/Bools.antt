-- Facts of Booleans that std has not. Assumes nothing.
use mathlib.Core.Bool.{Bool, ◌&&◌, false, true}
use mathlib.Core.Path.{◌≡◌, refl}

-- a Boolean by cases, with its equation
pub split : {C : Type 0} (b : Bool) → (b ≡ true → C) → (b ≡ false → C) → C
split true p q = p refl
split false p q = q refl

-- the second part of a failed test whose first part holds
pub and_r : (a b : Bool) → (a && b) ≡ false → a ≡ true → b ≡ false
and_r true b e z = e
and_r false b e z = cc
