-- The text of a refusal stands from the start of the buffer on.
use Rattle.std.proofs.Common.{◌∙◌, arith}
use Rattle.report.proofs.Put.{held}
use Rattle.report.specs.Refusal.{refusal_of}
use Rattle.report.proofs.explain.Goals as goal

pub returns : goal.returns
unfolding refusal_of
returns c =
    let all = held c.new-text.ensures.empty c.put_refusal.ensures in
    record { out_after = grind (arith, all.buffer); value = c.len.ensures ∙ all.len }
