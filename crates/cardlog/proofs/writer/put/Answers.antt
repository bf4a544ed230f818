-- Each turn puts the bytes of one place.
use Rattle.std.proofs.Common.{◌+◌, arith, drop, length-append, refl, sym, ◌∙◌}
use Rattle.std.proofs.lemmas.List.{drop_all, length-drop, take_rest}
use Rattle.cardlog.specs.Bytes.{bytes, bytes_of}
use Rattle.cardlog.specs.Events.{present}
use Rattle.cardlog.proofs.Laying.{laid_append, laid_nothing, lent_back}
use Rattle.cardlog.proofs.Present.{absent_here, enough, present_here}
use Rattle.cardlog.proofs.writer.put.Goals as goal
use Rattle.cardlog.proofs.writer.put.Goals.{in-Some, in_default}

pub loop-slot-init : goal.loop-slot-init
loop-slot-init c = record { next = refl; log = refl }

pub slice_bounds-put-count : goal.slice_bounds-put-count
slice_bounds-put-count c =
    let l = c.loop-slot in
    let t = c.loop-slot-test.true in
    let h = enough c.args.events.now l.slot-index c.in-Some.event _ _ t c.in-Some.is l.invariant.next in
    omega (arith, c.requires, c.loop-slot.auto.log)

pub slice_bounds-put-start : goal.slice_bounds-put-start
slice_bounds-put-start c =
    let l = c.loop-slot in
    let t = c.loop-slot-test.true in
    let h = enough c.args.events.now l.slot-index c.in-Some.event _ _ t c.in-Some.is l.invariant.next in
    omega (arith, c.requires, c.loop-slot.auto.log)

pub put-requires : goal.put-requires
put-requires c =
    let l = c.loop-slot in
    let t = c.loop-slot-test.true in
    let h = enough c.args.events.now l.slot-index c.in-Some.event _ _ t c.in-Some.is l.invariant.next in
    rw (take_rest c.loop-slot.log c.loop-slot.next)
    (omega (arith, length-drop c.loop-slot.next c.loop-slot.log, c.requires, c.loop-slot.auto.log))

pub overflow_add-next : goal.overflow_add-next
overflow_add-next c =
    let l = c.loop-slot in
    let t = c.loop-slot-test.true in
    let h = enough c.args.events.now l.slot-index c.in-Some.event _ _ t c.in-Some.is l.invariant.next in
    omega (arith, c.size-next.ensures, c.requires, c.well_formed)

pub loop-slot-preserved : goal.loop-slot-preserved
unfolding bytes
loop-slot-preserved c = elim c.match-slot.branch [
  | in-Some w ↦
      let e = w.in-Some.event in
      let l = c.loop-slot in
      let h = enough c.args.events.now l.slot-index e _ _ c.loop-slot-test.true w.in-Some.is l.invariant.next in
      let p = present_here c.args.events.now c.loop-slot.slot-index e c.loop-slot-test.true w.in-Some.is in
      let rest = bytes (present (drop (c.loop-slot.slot-index + 1) c.args.events.now)) in
      let i = c.loop-slot.invariant in
      let back = lent_back (bytes_of e) l.next l.log (omega (arith, c.requires, l.auto.log)) in
      let more = laid_append (bytes_of e) rest l.next l.log (omega (arith, c.requires, l.auto.log)) in
      record {
        next = rw w.next-is (omega (arith, rw p at i.next, w.size-next.ensures, length-append (bytes_of e) rest));
        log = rw (w.next-is, w.log-is, w.put.ensures, w.size-next.ensures, back, more) (rw p at i.log);
      }
  | in_default w ↦
      let p = absent_here c.args.events.now c.loop-slot.slot-index c.loop-slot-test.true w.in_default.is in
      record {
        next = rw (w.next-is, ← p) c.loop-slot.invariant.next;
        log = rw (w.next-is, w.log-is, ← p) c.loop-slot.invariant.log;
      }
]

pub returns-clause-log : goal.returns-clause-log
unfolding present bytes
returns-clause-log c =
    let p = drop_all c.loop-slot.slot-index c.args.events.now c.loop-slot-test.false in
    sym (laid_nothing c.loop-slot.next c.loop-slot.log) ∙ rw p at c.loop-slot.invariant.log

pub returns-clause-at : goal.returns-clause-at
unfolding present bytes
returns-clause-at c =
    let p = drop_all c.loop-slot.slot-index c.args.events.now c.loop-slot-test.false in
    omega (arith, rw p at c.loop-slot.invariant.next)
