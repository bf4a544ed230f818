-- What a wait that goes on wants, and what a plan wants.
use Rattle.std.proofs.Common.{◌∙◌, sym}
use Rattle.pipeline.proofs.Running.{plan_wants, wait_wants}
use Rattle.pipeline.proofs.PipelineCpu.wants.Goals as goal

pub returns-then-waits_on : goal.returns-then-waits_on
returns-then-waits_on c =
    let n = c.default.ensures in
    rw (n.0, n.1.1.0, n.1.1.1) (wait_wants _ _ _
    (record {
      awake = c.requires.moves;
      room = c.requires.room;
      stages = c.retire-s.ensures.value;
      reg = c.retire-s.ensures.reg_after;
    })
    (sym c.waits_on.ensures ∙ c.if-waits_on.true) _ c.request.ensures)

pub returns : goal.returns
returns c =
    plan_wants _ _ _
    (record {
      awake = c.requires.moves;
      room = c.requires.room;
      stages = c.retire-s.ensures.value;
      reg = c.retire-s.ensures.reg_after;
    })
    (sym c.waits_on.ensures ∙ c.if-waits_on.false) _ c.plan-plan.ensures _ _ _ _ c.fetches.ensures
    c.then_some.ensures c.request-2.ensures c.origins_in.ensures
