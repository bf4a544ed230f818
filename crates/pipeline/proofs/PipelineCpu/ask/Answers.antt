-- 11, 12 and 13 are tested; then nothing is wanted, or what the tick that moves wants.
use Rattle.std.proofs.Common.{◌∙◌, sym}
use Rattle.std.proofs.lemmas.Result.{err_from_is_err_and}
use Rattle.pipeline.proofs.Refusing.{ask_passes, ask_refuses, state_room}
use Rattle.pipeline.proofs.Resting.{rest_wants}
use Rattle.pipeline.proofs.PipelineCpu.ask.Goals as goal

pub returns-in_err-check : goal.returns-in_err-check
returns-in_err-check c =
    let p = err_from_is_err_and c.from_residual.result c.from_residual.ensures.1 in rw (p.1, p.2)
    (ask_refuses _ _ (sym c.in_err-check.ensures))

pub wants-requires-clause-room : goal.wants-requires-clause-room
wants-requires-clause-room c = state_room _ _ (sym c.in_ok-check.ensures)

pub returns-then-is_awake : goal.returns-then-is_awake
returns-then-is_awake c = ask_passes _ (sym c.in_ok-check.ensures) _ c.wants.ensures

pub returns : goal.returns
returns c =
    let n = c.default.ensures in
    ask_passes _ (sym c.in_ok-check.ensures) _
    (rest_wants _ (sym c.is_awake.ensures ∙ c.if-is_awake.false) _ n.0 n.1.0 n.1.1.0 n.1.1.1)
