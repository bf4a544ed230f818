-- Read this first: what is claimed of the player by itself. Here: Player (a play by its turns, and the player on a
-- sheet's bytes), Rows. Elsewhere: isa has the one-at-a-time machine, sheet the records; crate agreement claims what
-- the player and the runner have in common.
use Rattle.std.specs.Prelude.{◌≤◌, ℕ, drop, length, false, true, List, ◌≡◌}
use Rattle.isa.specs.Machine.{Arch, Program, effect_at, instruction_at, is_barred, is_empty, machine}
use Rattle.isa.specs.Operands.{operands_of}
use Rattle.sheet.specs.Sheet.{SheetWithout}
use Rattle.player.specs.Names.{PlayHalted, PlayLoads, PlaySpent, PlayStopped, Start}
use Rattle.player.specs.Player.{Play, loads_in, play, played}
use Rattle.player.specs.Rows.{Rows}

-- A play of at most n instructions from w, as the one-at-a-time machine tells it: what the play ends with is the
-- machine after as many steps as instructions were done, all of them done; the answers left are those behind the used
-- ones; and each end comes where RULES 23.2 puts it.
pub record IsMachine (g : Program) (w : Arch) (n : ℕ) (p : Play) : Type 0 where
  pub arch : (machine g w (length p.did)).arch ≡ p.arch
  pub did : (machine g w (length p.did)).done ≡ length p.did
  pub within : length p.did ≤ n
  pub used : loads_in p.did ≤ length w.answers
  pub left : p.arch.answers ≡ drop (loads_in p.did) w.answers
  pub halted : p.end ≡ PlayHalted → (machine g w (length p.did)).runs ≡ false
  pub spent : p.end ≡ PlaySpent → ((machine g w (length p.did)).runs ≡ true) × (length p.did ≡ n)
  pub stopped : p.end ≡ PlayStopped → ((machine g w (length p.did)).runs ≡ true)
      × (is_barred (effect_at g (instruction_at g p.arch) p.arch) ≡ true)
  pub loads : p.end ≡ PlayLoads → ((machine g w (length p.did)).runs ≡ true)
      × (is_barred (effect_at g (instruction_at g p.arch) p.arch) ≡ false)
      × ((operands_of (instruction_at g p.arch)).is_load ≡ true) × (is_empty p.arch.answers ≡ true)

-- Every play is such.
abbrev pub PlayIs : Type 0
PlayIs = (g : Program) (w : Arch) (n : ℕ) → IsMachine g w n (play g n false w)

-- A sheet without MFSR plays the same whatever the table.
abbrev pub AnyTable : Type 0
AnyTable =
    (v : Start) (sheet l t t' : List ℕ) → SheetWithout sheet → (limit : ℕ)
    → played v sheet l t limit ≡ played v sheet l t' limit

-- Everything claimed; proved in proofs/Claims.antt.
pub record Claims : Type 0 where
  pub machine : PlayIs
  pub any_table : AnyTable
  pub rows : Rows
