-- The tick is the definition's, of both ways of it.
use Rattle.std.proofs.Common.{◌∙◌, sym}
use Rattle.runner.proofs.Ticks.{tick_moves, tick_waits}
use Rattle.runner.proofs.tick.Goals as goal

pub returns-then-waits_on-clause-state : goal.returns-then-waits_on-clause-state
returns-then-waits_on-clause-state c =
    let n = c.default.ensures in
    tick_waits _ _ _ _ c.next_answer-answer.ensures.answer _ _
    (record {
      awake = c.requires.moves;
      room = c.requires.room;
      stages = c.retire-s.ensures.value;
      reg = c.retire-s.ensures.reg_after;
    }) _ _ (sym c.waits_on.ensures ∙ c.if-waits_on.true) (rw (n.1.0, n.1.1.0, n.1.1.1) at c.wait-state.ensures)
    c.count-state.ensures

pub returns-clause-state : goal.returns-clause-state
returns-clause-state c =
    tick_moves _ _ _ _ c.next_answer-answer.ensures.answer _ _
    (record {
      awake = c.requires.moves;
      room = c.requires.room;
      stages = c.retire-s.ensures.value;
      reg = c.retire-s.ensures.reg_after;
    }) _ _ (sym c.waits_on.ensures ∙ c.if-waits_on.false) _ _ _ _ _ c.plan-plan.ensures c.fetches.ensures
    c.then_some.ensures c.raw.ensures c.special_at.ensures c.advance-state.ensures c.count-state-2.ensures
