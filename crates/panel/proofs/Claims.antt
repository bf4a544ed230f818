-- Every claim of this crate, proved. Assumes nothing.
use Rattle.panel.proofs.Tests.{accepted_too, accepted_within, neither, preview_halted, same_result}
use Rattle.panel.proofs.Rows.{rows}
use Rattle.panel.specs.Claims.{Claims}

pub claims : Claims
claims = record {
  neither = neither;
  accepted = accepted_too;
  within = accepted_within;
  same = same_result;
  halted = preview_halted;
  rows = rows;
}
