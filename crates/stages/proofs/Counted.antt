-- The counters of a tick in which nothing retires. Assumes nothing.
use Prim.Native.Nat.{◌+◌, ℕ}
use mathlib.Core.Bool.{false}
use mathlib.Core.Path.{◌≡◌, ap}
use native.Mathlib.Omega.{arith}
use Rattle.stages.specs.Counting.{count_retired}
use Rattle.stages.specs.Names.{Counters}
use Rattle.word.specs.Words.{bit}

pub none_retires : (c : Counters) → count_retired false c ≡ c
unfolding count_retired bit
none_retires c =
    let z : c.instructions_executed + 0 ≡ c.instructions_executed = omega arith in
    ap (λ (n : ℕ). record {
      cycles = c.cycles;
      running_cycles = c.running_cycles;
      instructions_executed = n;
      stall_cycles = c.stall_cycles;
      flush_events = c.flush_events;
    }) z
