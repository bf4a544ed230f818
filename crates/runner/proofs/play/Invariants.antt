-- The ticks done so far are those of the definition's run, and it goes on from here.
use Rattle.sheet.specs.Sheet.{sheet_source}
use Rattle.runner.specs.Inner.{Holds, joined}
use Rattle.runner.proofs.play.Given as goal

abbrev pub invariant-loop-ticks : goal.invariant-loop-ticks
invariant-loop-ticks l =
    Holds (sheet_source l.inputs.sheet.now l.inputs.table.now) l.inputs.limit l.inputs.answers.now
    (joined l.initial.reg l.initial.state) (joined l.reg l.state) l.left l.ticks
