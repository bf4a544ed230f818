-- What is counted and what is left to count are all the bytes.
use Rattle.std.proofs.Common.{◌*◌, ◌+◌, ◌≡◌, ◌≤◌, drop, length}
use Rattle.cardlog.specs.Bytes.{bytes}
use Rattle.cardlog.specs.Events.{present}
use Rattle.cardlog.proofs.writer.size_of.Given as goal

abbrev pub invariant-loop-slot : goal.invariant-loop-slot
invariant-loop-slot l = record {
  all : l.size + length (bytes (present (drop l.slot-index l.events))) ≡ length (bytes (present l.events));
  few : l.size ≤ 10 * l.slot-index;
}
