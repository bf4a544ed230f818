-- The lines of a report stand one behind the other from the start of the buffer on.
use Rattle.std.proofs.Common.{◌∙◌, arith}
use Rattle.report.proofs.Put.{held, put_both}
use Rattle.report.specs.Text.{report_text}
use Rattle.report.proofs.write.Goals as goal

pub returns : goal.returns
unfolding report_text
returns c =
    let lines = put_both c.put_end.ensures (put_both c.put_counts.ensures c.put_registers.ensures) in
    let all = held c.new-text.ensures.empty lines in
    record { out_after = grind (arith, lines.same_reference, all.buffer); value = c.len.ensures ∙ all.len }
