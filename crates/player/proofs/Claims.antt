-- Every claim of this crate, proved. Assumes nothing.
use Rattle.player.proofs.Plays.{play_is}
use Rattle.player.proofs.Rows.{rows}
use Rattle.player.proofs.Without.{any_table_lem}
use Rattle.player.specs.Claims.{Claims}

pub claims : Claims
claims = record { machine = play_is; any_table = any_table_lem; rows = rows }
