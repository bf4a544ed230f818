-- Whether a tick loads, read off before retirement.
use Rattle.stages.proofs.Loads.{loads_after}
use Rattle.stages.proofs.Stages.wants_load.Goals as goal

pub returns : goal.returns
returns c = rw (c.is_awake.ensures, c.halts.ensures, c.loads.ensures) (loads_after _)
