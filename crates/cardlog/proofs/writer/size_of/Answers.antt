-- Each turn counts the bytes of one place, at most ten.
use Rattle.std.proofs.Common.{◌+◌, arith, drop, length-append}
use Rattle.std.proofs.lemmas.List.{drop_all}
use Rattle.cardlog.specs.Bytes.{bytes, bytes_of}
use Rattle.cardlog.specs.Events.{present}
use Rattle.cardlog.proofs.Present.{absent_here, few_bytes, present_here}
use Rattle.cardlog.proofs.writer.size_of.Goals as goal
use Rattle.cardlog.proofs.writer.size_of.Goals.{in-Some, in_default}

pub loop-slot-init : goal.loop-slot-init
loop-slot-init c = record { all = omega arith; few = omega arith }

pub overflow_add-size : goal.overflow_add-size
overflow_add-size c =
    omega (arith, c.loop-slot.invariant.few, c.size-size.ensures, few_bytes c.in-Some.event, c.requires)

pub loop-slot-preserved : goal.loop-slot-preserved
unfolding bytes
loop-slot-preserved c = elim c.match-slot.branch [
  | in-Some w ↦
      let l = c.loop-slot in
      let p = present_here c.args.events.now l.slot-index w.in-Some.event c.loop-slot-test.true w.in-Some.is in
      let rest = bytes (present (drop (c.loop-slot.slot-index + 1) c.args.events.now)) in
      record {
        all = let n = length-append (bytes_of w.in-Some.event) rest in
            rw w.size-is (omega (arith, rw p at l.invariant.all, w.size-size.ensures, n));
        few = rw w.size-is (omega (arith, c.loop-slot.invariant.few, w.size-size.ensures, few_bytes w.in-Some.event));
      }
  | in_default w ↦
      let p = absent_here c.args.events.now c.loop-slot.slot-index c.loop-slot-test.true w.in_default.is in
      record {
        all = rw (w.size-is, ← p) c.loop-slot.invariant.all;
        few = rw w.size-is (omega (arith, c.loop-slot.invariant.few));
      }
]

pub returns : goal.returns
unfolding present bytes
returns c =
    let p = drop_all c.loop-slot.slot-index c.args.events.now c.loop-slot-test.false in
    omega (arith, rw p at c.loop-slot.invariant.all)
