-- No wait goes on: the given is tested by the plan, then the stages advance and the tick is counted.
use Rattle.std.proofs.Common.{sym}
use Rattle.std.proofs.lemmas.Result.{err_from_is_err_and}
use Rattle.pipeline.proofs.Refusing.{on_passes, on_refuses}
use Rattle.pipeline.proofs.Running.{plan_given, plan_next}
use Rattle.pipeline.proofs.PipelineCpu.tick_planned.Goals as goal

pub returns-in_err-check : goal.returns-in_err-check
returns-in_err-check c =
    let p = err_from_is_err_and c.from_residual.result c.from_residual.ensures.1 in rw (p.1, p.2)
    (on_refuses _ _ _
    (plan_given _ _ _ c.requires.retired c.requires.free _ c.plan-plan.ensures _ _ _ _ c.fetches.ensures c.loads.ensures
    c.then_some-fetch.ensures)
    _ (sym c.in_err-check.ensures))

pub returns : goal.returns
returns c =
    on_passes _ _ _
    (plan_given _ _ _ c.requires.retired c.requires.free _ c.plan-plan.ensures _ _ _ _ c.fetches.ensures c.loads.ensures
    c.then_some-fetch.ensures)
    _ (sym c.in_ok-check.ensures)
    (plan_next _ _ _ c.requires.retired c.requires.free _ c.plan-plan.ensures _ _ _ _ c.advance-stages.ensures
    c.count-counts.ensures c.taken.ensures)
