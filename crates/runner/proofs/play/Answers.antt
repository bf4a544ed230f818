-- Each turn of the loop is the definition's turn.
use Rattle.std.proofs.Common.{◌∙◌, ap, sym}
use Rattle.runs.specs.Run.{left_after}
use Rattle.sheet.proofs.Fair.{sheet_fair}
use Rattle.runner.proofs.Loop.{ends, goes, spent, waits}
use Rattle.runner.proofs.play.Goals as goal
use Rattle.runner.proofs.play.Goals.{else-waits_for_memory, then-waits_for_memory}
use Rattle.pipeline.specs.Advance.{waiting}
use Rattle.runner.specs.Inner.{joined}

pub returns-in-Some : goal.returns-in-Some
returns-in-Some c =
    ends _ _ _ _ _ _ _ c.loop-ticks.invariant c.loop-ticks-test.true _ (sym c.next_turn.ensures ∙ c.in-Some.is)

pub loop-ticks-preserved : goal.loop-ticks-preserved
unfolding left_after waiting
loop-ticks-preserved c = elim c.if-waits_for_memory.branch [
  | then-waits_for_memory w ↦
      rw (w.state-is, w.reg-is, w.left-is)
      (waits _ _ _ _ _ _ _ c.loop-ticks.invariant c.loop-ticks-test.true (sheet_fair _ _ c.requires.checked)
      (sym c.next_turn.ensures ∙ c.in_default.is) (sym c.waits_for_memory.ensures ∙ w.if-waits_for_memory.true) _
      (ap (joined _) w.wait.ensures))
  | else-waits_for_memory w ↦
      rw (w.state-is, w.reg-is, w.left-is, w.tick-left.ensures.left)
      (goes _ _ _ _ _ _ _ c.loop-ticks.invariant c.loop-ticks-test.true (sheet_fair _ _ c.requires.checked)
      (sym c.next_turn.ensures ∙ c.in_default.is) _ w.tick-left.ensures.state)
]

pub returns : goal.returns
returns c =
    rw c.unwrap_or-end.ensures (spent _ _ _ _ _ _ _ c.loop-ticks.invariant c.loop-ticks.auto.ticks-end
    c.loop-ticks-test.false _ c.next_turn-2.ensures)
