-- A wait begins, or ID/EX executes.
use Rattle.std.proofs.Common.{◌∙◌, sym}
use Rattle.stages.proofs.Moves.{plan_begins, plan_moves}
use Rattle.stages.proofs.Stages.plan.Goals as goal

pub returns-then-begins_wait : goal.returns-then-begins_wait
returns-then-begins_wait c =
    c.held_plan.ensures ∙ plan_begins _ _ _ _ c.front_of-front.ensures c.uses_load-used.ensures
    (sym c.begins_wait.ensures ∙ c.if-begins_wait.true)

pub returns : goal.returns
returns c =
    c.moved_plan.ensures ∙ plan_moves _ _ _ _ c.front_of-front.ensures c.uses_load-used.ensures
    (sym c.begins_wait.ensures ∙ c.if-begins_wait.false)
