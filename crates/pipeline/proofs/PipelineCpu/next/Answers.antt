-- 11, 12 and 13 are tested, then the tick moves or rests.
use Rattle.std.proofs.Common.{◌∙◌, sym}
use Rattle.std.proofs.lemmas.Result.{err_from_is_err_and}
use Rattle.pipeline.proofs.Refusing.{state_room, tick_passes, tick_refuses}
use Rattle.pipeline.proofs.PipelineCpu.next.Goals as goal

pub returns-in_err-check : goal.returns-in_err-check
returns-in_err-check c =
    let p = err_from_is_err_and c.from_residual.result c.from_residual.ensures.1 in rw (p.1, p.2)
    (tick_refuses _ _ (sym c.in_err-check.ensures) _)

pub tick_awake-requires-clause-room : goal.tick_awake-requires-clause-room
tick_awake-requires-clause-room c = state_room _ _ (sym c.in_ok-check.ensures)

pub returns-then-is_awake : goal.returns-then-is_awake
returns-then-is_awake c = c.tick_awake.ensures ∙ tick_passes _ (sym c.in_ok-check.ensures) _

pub tick_resting-requires-clause-room : goal.tick_resting-requires-clause-room
tick_resting-requires-clause-room c = state_room _ _ (sym c.in_ok-check.ensures)

pub returns : goal.returns
returns c = c.tick_resting.ensures ∙ tick_passes _ (sym c.in_ok-check.ensures) _
