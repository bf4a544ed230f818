-- Everything claimed of a run, proved. Assumes nothing.
use Rattle.runs.proofs.Rows.{rows}
use Rattle.runs.proofs.Sheets.{sheet_halted_lem, sheet_halts_lem}
use Rattle.runs.proofs.Ticks.{run_retires, run_ticks}
use Rattle.runs.proofs.Untold.{run_untold}
use Rattle.runs.proofs.Without.{any_table_lem, unasked}
use Rattle.runs.specs.Claims.{Claims}

pub claims : Claims
claims = record {
  ticks = run_ticks;
  untold = run_untold;
  retires = run_retires;
  sheet_halted = sheet_halted_lem;
  sheet_halts = sheet_halts_lem;
  unasked = unasked;
  any_table = any_table_lem;
  rows = rows;
}
