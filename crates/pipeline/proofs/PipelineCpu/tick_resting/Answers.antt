-- Nothing moves: the given is tested, then the tick is counted.
use Rattle.std.proofs.Common.{◌∙◌, sym}
use Rattle.std.proofs.lemmas.Result.{err_from_is_err_and}
use Rattle.pipeline.proofs.Refusing.{on_passes, on_refuses}
use Rattle.pipeline.proofs.Resting.{rest_given, rest_next}
use Rattle.pipeline.proofs.PipelineCpu.tick_resting.Goals as goal

pub returns-in_err-check : goal.returns-in_err-check
returns-in_err-check c =
    let p = err_from_is_err_and c.from_residual.result c.from_residual.ensures.1 in rw (p.1, p.2)
    (on_refuses _ _ _ (rest_given _ c.requires.rests _) _ (sym (c.in_err-check.ensures)))

pub returns : goal.returns
returns c =
    on_passes _ _ _ (rest_given _ c.requires.rests _) _ (sym c.in_ok-check.ensures)
    (c.rest.ensures ∙ rest_next _ c.requires.rests _)
