-- What is left to put, put behind what is put already, gives all of it.
use Rattle.std.proofs.Common.{◌+◌, ◌≡◌, drop, length}
use Rattle.cardlog.specs.Bytes.{bytes}
use Rattle.cardlog.specs.Events.{present}
use Rattle.cardlog.specs.Writing.{laid}
use Rattle.cardlog.proofs.writer.put.Given as goal

abbrev pub invariant-loop-slot : goal.invariant-loop-slot
invariant-loop-slot l = record {
  next : l.next + length (bytes (present (drop l.slot-index l.events))) ≡ l.at + length (bytes (present l.events));
  log : laid (bytes (present (drop l.slot-index l.events))) l.next l.log
      ≡ laid (bytes (present l.events)) l.at l.fn.log;
}
