-- Everything claimed in specs/Claims.antt. Assumes nothing.
use Rattle.trades.specs.Claims.{Claims}
use Rattle.trades.proofs.Checked.{enough}
use Rattle.trades.proofs.Listing.{listed, rising}
use Rattle.trades.proofs.Rows.{rows}
use Rattle.trades.proofs.Trading.{traded}

pub claims : Claims
claims = record { listed = listed; rising = rising; enough = enough; traded = traded; rows = rows }
