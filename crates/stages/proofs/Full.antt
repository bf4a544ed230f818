-- Whether a counter is full, by each of the five. Assumes nothing.
use mathlib.Core.Bool.{Bool, ◌||◌}
use Rattle.std.proofs.lemmas.Bool.{or_parts}
use Rattle.stages.specs.Counting.{counter_full}
use Rattle.stages.specs.Inner.{Tells, TellsAll}
use Rattle.stages.specs.Names.{Counters}

-- five counters, each told
pub full_by :
    (s : Counters) →
    (b1 b2 b3 b4 b5 : Bool) →
    Tells s.cycles b1 →
    Tells s.running_cycles b2 →
    Tells s.instructions_executed b3 →
    Tells s.stall_cycles b4 →
    Tells s.flush_events b5 →
    TellsAll s (b1 || (b2 || (b3 || (b4 || b5))))
unfolding counter_full
full_by s b1 b2 b3 b4 b5 t1 t2 t3 t4 t5 = record {
  is = rw (t1.is, t2.is, t3.is, t4.is, t5.is);
  room = λ e.
      let e1 = or_parts b1 _ e in
      let e2 = or_parts b2 _ e1.1 in
      let e3 = or_parts b3 _ e2.1 in
      let e4 = or_parts b4 _ e3.1 in
      record {
        cycles = t1.room e1.0;
        running_cycles = t2.room e2.0;
        instructions_executed = t3.room e3.0;
        stall_cycles = t4.room e4.0;
        flush_events = t5.room e4.1;
      };
}
