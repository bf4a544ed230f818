-- Everything claimed of origins. Assumes nothing.
use Rattle.origin.proofs.Law.{law, named_a, named_b}
use Rattle.origin.proofs.Rows.{rows}
use Rattle.origin.specs.Claims.{Claims}

pub claims : Claims
claims = record { law = law; a = named_a; b = named_b; rows = rows }
