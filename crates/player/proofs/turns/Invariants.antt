-- The play still to come gives the whole play's report.
use Rattle.player.specs.Inner.{Holds}
use Rattle.player.proofs.turns.Given as goal

abbrev pub invariant-loop-done : goal.invariant-loop-done
invariant-loop-done l = Holds l.sheet l.answers l.table l.limit l.fn.start l.reg l.at l.slots l.used l.done
