-- What is left to test answers as the whole does, and record k starts at byte 5 k.
use Rattle.std.proofs.Common.{◌-◌, ◌*◌, ◌≡◌}
use Rattle.sheet.specs.Sheet.{first_refused}
use Rattle.sheet.proofs.check.first_refusal.Given as goal

abbrev pub invariant-loop-k : goal.invariant-loop-k
invariant-loop-k l = record {
  left : first_refused l.sheet 0 l.count ≡ first_refused l.sheet l.k (l.count - l.k);
  start : l.start ≡ l.k * 5;
}
