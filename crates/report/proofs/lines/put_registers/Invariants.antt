-- So many registers are put after so many turns.
use Rattle.report.specs.Inner.{Puts}
use Rattle.report.specs.Text.{register_lines}
use Rattle.report.proofs.lines.put_registers.Given as goal

abbrev pub invariant-loop-r : goal.invariant-loop-r
invariant-loop-r l = Puts l.initial.text (register_lines l.r l.reg) l.text
