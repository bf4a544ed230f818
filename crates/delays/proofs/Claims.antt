-- Everything claimed in specs/Claims.antt. Assumes nothing.
use Rattle.delays.proofs.Delays.{delayed}
use Rattle.delays.proofs.Rows.{rows}
use Rattle.delays.specs.Claims.{Claims}

pub claims : Claims
claims = record { delayed = delayed; rows = rows }
