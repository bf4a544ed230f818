-- Each of the five counters is told by itself.
use Rattle.stages.proofs.Full.{full_by}
use Rattle.stages.proofs.Counters.full.Goals as goal

pub returns : goal.returns
returns c =
    full_by _ _ _ _ _ _ c.at_top-3.ensures c.at_top-4.ensures c.at_top-5.ensures c.at_top.ensures c.at_top-2.ensures
