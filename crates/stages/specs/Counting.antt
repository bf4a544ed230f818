-- The five counters, and what is counted in them.
use Rattle.std.specs.Prelude.{◌+◌, ℕ, ◌==◌, Bool, ◌||◌, cond, false, true, is_some}
use Rattle.word.specs.Words.{bit}
use Rattle.stages.specs.Names.{Counters, Move, begin_wait, keep_waiting, load_use_stall, proceed, redirect}

-- MEM/WB has retired, valid or not
unfoldable pub count_retired : Bool → Counters → Counters
count_retired valid c = record {
  cycles = c.cycles;
  running_cycles = c.running_cycles;
  instructions_executed = c.instructions_executed + bit valid;
  stall_cycles = c.stall_cycles;
  flush_events = c.flush_events;
}

-- a move that holds the front end
unfoldable pub stalls : Move → Bool
stalls keep_waiting = true
stalls begin_wait = true
stalls (load_use_stall g) = true
stalls proceed = false
stalls (redirect t) = false

-- a move that empties the two younger latches
unfoldable pub flushes : Move → Bool
flushes keep_waiting = false
flushes begin_wait = false
flushes (load_use_stall g) = is_some g
flushes proceed = false
flushes (redirect t) = true

-- every move counts one tick and one running tick
unfoldable pub counted : Move → Counters → Counters
counted m c = record {
  cycles = c.cycles + 1;
  running_cycles = c.running_cycles + 1;
  instructions_executed = c.instructions_executed;
  stall_cycles = c.stall_cycles + bit (stalls m);
  flush_events = c.flush_events + bit (flushes m);
}

-- a machine that does not run counts ticks only
unfoldable pub count_idle : Counters → Counters
count_idle c = record {
  cycles = c.cycles + 1;
  running_cycles = c.running_cycles;
  instructions_executed = c.instructions_executed;
  stall_cycles = c.stall_cycles;
  flush_events = c.flush_events;
}

-- refusal 13: a counter at 18,446,744,073,709,551,615
unfoldable pub is_full : ℕ → Bool
is_full n = n == 18446744073709551615

unfoldable pub counter_full : Counters → Bool
counter_full c =
    is_full c.cycles
    || (is_full c.running_cycles
    || (is_full c.instructions_executed || (is_full c.stall_cycles || is_full c.flush_events)))

-- counters where one is full stay as they are; a tick is refused then
unfoldable pub unless_full : Counters → Counters → Counters
unless_full c d = cond (counter_full c) c d
