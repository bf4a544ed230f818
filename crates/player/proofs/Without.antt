-- Without MFSR the table does not matter to a play. Assumes nothing.
use Prim.Native.Nat.{suc, zero, ℕ}
use mathlib.Core.Bool.{Bool, cond}
use mathlib.Core.List.{List}
use mathlib.Core.Path.{◌∙◌, ◌≡◌, ap, refl}
use Rattle.isa.proofs.Asks.{asks_none}
use Rattle.isa.specs.Inquiries.{fill}
use Rattle.isa.specs.Machine.{Arch, Program, effect_at, instruction_at, open_at, program_of, step_by, stops_at}
use Rattle.isa.specs.Machine.{value_at}
use Rattle.sheet.specs.Sheet.{SheetWithout, sheet_source}
use Rattle.player.specs.Claims.{AnyTable}
use Rattle.player.specs.Names.{PlayHalted, Start}
use Rattle.player.specs.Player.{Play, ended, play, play_by, played, unrefused_play}

module _ (v : Start) (sheet t t' : List ℕ) (h : SheetWithout sheet) where
  abbrev G : Program
  G = program_of (sheet_source sheet t) v

  abbrev G' : Program
  G' = program_of (sheet_source sheet t') v

  effect_same : (w : Arch) → effect_at G (instruction_at G w) w ≡ effect_at G' (instruction_at G' w) w
  unfolding effect_at open_at instruction_at program_of fill
  effect_same w = rw (asks_none v.user _ w.pc _ _ (h w.pc w.mode))

  turn_same : (w : Arch) (k : Bool → Arch → Play)
      → play_by G (instruction_at G w) w k ≡ play_by G' (instruction_at G' w) w k
  unfolding play_by stops_at step_by value_at instruction_at program_of
  turn_same w k = rw (effect_same w)

  play_same : (n : ℕ) (b : Bool) (w : Arch) → play G n b w ≡ play G' n b w
  unfolding play
  play_same zero b w = refl
  play_same (suc n) b w = ap (λ (p : Play). cond b (ended PlayHalted w) p)
      ((λ j. play_by G (instruction_at G w) w (λ halt x. play_same n halt x j))
      ∙ turn_same w (λ halt x. play G' n halt x))

pub any_table_lem : AnyTable
unfolding played unrefused_play
any_table_lem v sheet l t t' h limit = rw (play_same v sheet t t' h limit _ _)
