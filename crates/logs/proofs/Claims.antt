-- Everything claimed of a log that ticks in a row wrote, proved. Assumes nothing.
use Rattle.logs.proofs.Card.{on_card}
use Rattle.logs.proofs.Laid.{holds}
use Rattle.logs.proofs.Lists.{list}
use Rattle.logs.proofs.Reading.{reads}
use Rattle.logs.proofs.Registers.{registers}
use Rattle.logs.proofs.Rows.{rows}
use Rattle.logs.specs.Claims.{Claims}

pub claims : Claims
claims = record { holds = holds; reads = reads; registers = registers; list = list; on_card = on_card; rows = rows }
