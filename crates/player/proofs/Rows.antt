-- The rows, by computation. Assumes nothing.
use mathlib.Core.Path.{refl}
use Rattle.sheet.proofs.OnLiterals.{sheet_on_literals}
use Rattle.player.specs.Player.{checked_play, ended, loads_in, more, play, play_by, played, refused_play, reported}
use Rattle.player.specs.Player.{unrefused_play, values_of}
use Rattle.player.specs.Rows.{Rows, behind, halt_sheet, load_sheet, nine_start, row, seen, user_start}

pub rows : Rows
unfolding sheet_on_literals behind checked_play ended halt_sheet load_sheet loads_in more nine_start play play_by
    played refused_play reported row seen unrefused_play user_start values_of
rows = record {
  none = refl;
  halt = refl;
  empty_none = refl;
  empty = refl;
  unanswered = refl;
  answered = refl;
  spent_first = refl;
  user = refl;
  mtsr = refl;
  iret = refl;
  syscall = refl;
  unknown = refl;
  most = refl;
  over = refl;
  length = refl;
  record5 = refl;
  record1 = refl;
  nine_refused = refl;
  nine_played = refl;
  twice = refl;
  mfsr = refl;
  mfsr_outside = refl;
  mfsr_user = refl;
  mfsr_into_zero = refl;
}
