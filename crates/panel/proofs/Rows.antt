-- The rows, by computation. Assumes nothing.
use mathlib.Core.Path.{refl}
use native.Mathlib.Omega.{arith}
use Rattle.sheet.proofs.OnLiterals.{sheet_on_literals}
use Rattle.runs.specs.Rows.{halt_sheet}
use Rattle.runs.specs.Run.{checked_run, ran, run_check}
use Rattle.panel.proofs.Tests.{runners_is, within}
use Rattle.panel.specs.Panel.{panel_check, previewed}
use Rattle.panel.specs.Rows.{Rows, unknown_sheet}

pub rows : Rows
unfolding sheet_on_literals checked_run halt_sheet panel_check previewed ran run_check unknown_sheet
rows = record {
  longest = λ sheet e s l t. runners_is s sheet l t 10000 (within sheet 10000 (omega arith) (omega arith));
  longer = λ sheet e s l t. rw e;
  odd = λ sheet e s l t. rw e;
  runners_longest = λ sheet e s l t. rw e;
  runners_longer = λ sheet e s l t. rw e;
  highest = λ s l t. refl;
  higher = λ s l t. refl;
  runners_highest = λ s l t. refl;
  runners_higher = λ s l t. refl;
  both_over = λ sheet e s l t. rw e;
  unknown = λ s l t. refl;
  outside = λ s l t e. rw e;
}
