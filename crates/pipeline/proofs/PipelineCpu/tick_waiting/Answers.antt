-- A wait goes on: the given is tested, then the stages wait and the tick is counted.
use Rattle.std.proofs.Common.{sym}
use Rattle.std.proofs.lemmas.Result.{err_from_is_err_and}
use Rattle.pipeline.proofs.Refusing.{on_passes, on_refuses}
use Rattle.pipeline.proofs.Running.{wait_given, wait_next}
use Rattle.pipeline.proofs.PipelineCpu.tick_waiting.Goals as goal

pub returns-in_err-check : goal.returns-in_err-check
returns-in_err-check c =
    let p = err_from_is_err_and c.from_residual.result c.from_residual.ensures.1 in rw (p.1, p.2)
    (on_refuses _ _ _ (wait_given _ _ _ c.requires.retired c.requires.waits _ _ c.loads.ensures) _
    (sym c.in_err-check.ensures))

pub returns : goal.returns
returns c =
    on_passes _ _ _ (wait_given _ _ _ c.requires.retired c.requires.waits _ _ c.loads.ensures) _
    (sym c.in_ok-check.ensures)
    (wait_next _ _ _ c.requires.retired c.requires.waits _ _ _ _ c.wait-stages.ensures c.count-counts.ensures
    c.taken.ensures)
