-- 11, 12 and 13 are tested, then MEM/WB retires and is counted.
use Rattle.std.proofs.Common.{sym}
use Rattle.std.proofs.lemmas.Result.{err_from_is_err_and}
use Rattle.stages.specs.Counting.{unless_full}
use Rattle.pipeline.proofs.Refusing.{retire_passes, retire_refuses, state_room}
use Rattle.pipeline.specs.Retire.{retire}
use Rattle.pipeline.proofs.PipelineCpu.retired.Goals as goal

pub returns-in_err-check_by : goal.returns-in_err-check_by
returns-in_err-check_by c =
    let p = err_from_is_err_and c.from_residual.result c.from_residual.ensures.1 in rw (p.1, p.2)
    (retire_refuses _ _ c.is_faulty_alone.ensures _ (sym c.in_err-check_by.ensures))

pub returns : goal.returns
unfolding retire unless_full
returns c =
    retire_passes _ _ c.is_faulty_alone.ensures _ (sym c.in_ok-check_by.ensures)
    (rw (
      c.retire-counts.ensures,
      state_room _ _ (sym c.in_ok-check_by.ensures),
      c.retire-stages.ensures.value,
      c.retire-stages.ensures.reg_after,
    ))
