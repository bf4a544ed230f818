-- The rows, by computation. Assumes nothing.
use mathlib.Core.Path.{refl}
use Rattle.pipeline.proofs.OnLiterals.{pipeline_on_literals}
use Rattle.sheet.proofs.OnLiterals.{sheet_on_literals}
use Rattle.word.proofs.Rows.{rows as arithmetic}
use Rattle.runs.specs.Rows.{Rows, halt_sheet, load_sheet, row, seen, table_row, user_start, wait_row}
use Rattle.runs.specs.Run.{checked_run, ended, left_after, more, play, play_by, ran, refused_run, reported, run_check}
use Rattle.runs.specs.Run.{turn_of}

pub rows : Rows
unfolding pipeline_on_literals sheet_on_literals checked_run ended halt_sheet left_after load_sheet more play play_by
    ran refused_run reported row run_check seen table_row turn_of user_start wait_row
rows = record {
  halt = refl;
  four = refl;
  nought = refl;
  multiply = refl;
  load = refl;
  unanswered = refl;
  loop = refl;
  branch = refl;
  divide = refl;
  high = refl;
  unsigned = refl;
  remainder = refl;
  zero = refl;
  lower = refl;
  not_equal = refl;
  behind = refl;
  short = refl;
  empty = refl;
  mfsr = refl;
  mfsr_outside = refl;
  mfsr_user = refl;
  mfsr_behind_halt = refl;
  mfsr_two_behind_halt = refl;
  mfsr_behind_unknown = refl;
  mfsr_behind_load = refl;
  mfsr_into_zero = refl;
  waits = refl;
  waits_spent = refl;
  waits_stopped = refl;
  widths = refl;
  arithmetic = arithmetic;
}
