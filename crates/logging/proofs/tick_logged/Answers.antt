-- The three ways on: the tick is refused, its events are written, they do not fit.
use Rattle.std.proofs.Common.{Err, Ok, sym, ◌∙◌}
use Rattle.pipeline.specs.Tick.{tick, ticked}
use Rattle.logging.specs.Logging.{log_after, logged, logging_tick}
use Rattle.logging.proofs.Written.{bytes_from, refused, written}
use Rattle.logging.proofs.tick_logged.Goals as goal

pub returns-then-is_err-clause-handed_back : goal.returns-then-is_err-clause-handed_back
unfolding ticked logged logging_tick
returns-then-is_err-clause-handed_back c =
    let a = c.args in
    (refused (tick a.state a.given) a.state _ a.free a.log.now c.tick-ticked.result c.tick-ticked.ensures
    (sym c.is_err.ensures.value ∙ c.if-is_err.true)).0

pub returns-then-is_err-clause-log : goal.returns-then-is_err-clause-log
unfolding ticked log_after logging_tick
returns-then-is_err-clause-log c =
    let a = c.args in
    (refused (tick a.state a.given) a.state _ a.free a.log.now c.tick-ticked.result c.tick-ticked.ensures
    (sym c.is_err.ensures.value ∙ c.if-is_err.true)).1

pub returns-in-Ok-clause-handed_back : goal.returns-in-Ok-clause-handed_back
unfolding ticked logged logging_tick
returns-in-Ok-clause-handed_back c =
    let a = c.args in
    (written (tick a.state a.given) a.state _ _ a.free a.log.now c.tick-ticked.result (Ok c.in-Ok.free)
    c.tick-ticked.ensures (sym c.is_err.ensures.value ∙ c.if-is_err.false)
    (bytes_from a.state a.given _ _ c.unwrap_or.ensures c.events.ensures) (sym c.in-Ok.is ∙ c.write.ensures.at)).0

pub returns-in-Ok-clause-log : goal.returns-in-Ok-clause-log
unfolding ticked log_after logging_tick
returns-in-Ok-clause-log c =
    let a = c.args in
    c.write.ensures.log
    ∙ (written (tick a.state a.given) a.state _ _ a.free a.log.now c.tick-ticked.result (Ok c.in-Ok.free)
    c.tick-ticked.ensures (sym c.is_err.ensures.value ∙ c.if-is_err.false)
    (bytes_from a.state a.given _ _ c.unwrap_or.ensures c.events.ensures) (sym c.in-Ok.is ∙ c.write.ensures.at)).1

pub returns-in-Err-clause-handed_back : goal.returns-in-Err-clause-handed_back
unfolding ticked logged logging_tick
returns-in-Err-clause-handed_back c =
    let a = c.args in
    (written (tick a.state a.given) a.state _ _ a.free a.log.now c.tick-ticked.result (Err c.in-Err.refusal)
    c.tick-ticked.ensures (sym c.is_err.ensures.value ∙ c.if-is_err.false)
    (bytes_from a.state a.given _ _ c.unwrap_or.ensures c.events.ensures) (sym c.in-Err.is ∙ c.write.ensures.at)).0

pub returns-in-Err-clause-log : goal.returns-in-Err-clause-log
unfolding ticked log_after logging_tick
returns-in-Err-clause-log c =
    let a = c.args in
    c.write.ensures.log
    ∙ (written (tick a.state a.given) a.state _ _ a.free a.log.now c.tick-ticked.result (Err c.in-Err.refusal)
    c.tick-ticked.ensures (sym c.is_err.ensures.value ∙ c.if-is_err.false)
    (bytes_from a.state a.given _ _ c.unwrap_or.ensures c.events.ensures) (sym c.in-Err.is ∙ c.write.ensures.at)).1
