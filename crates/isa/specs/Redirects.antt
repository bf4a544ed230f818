-- Where an instruction goes.
use Rattle.std.specs.Prelude.{ℕ, Option, None, Some}
use Rattle.isa.specs.Names.{Mode, Place}

-- the target's address, or p where it goes on
unfoldable pub target_or : Option Place → ℕ → ℕ
target_or None p = p
target_or (Some t) p = t.pc

-- the target's mode, or m where it goes on
unfoldable pub mode_or : Option Place → Mode → Mode
mode_or None m = m
mode_or (Some t) m = t.mode
