-- No counter is above the number of ticks, so 13 does not arise within the limit. Assumes nothing.
use Prim.Native.Nat.{◌<◌, ◌≤◌, suc, ℕ}
use borrow.Author.Tests.{ne_eqb}
use mathlib.Core.Bool.{Bool, cond, false, true}
use mathlib.Core.Path.{◌≡◌}
use native.Mathlib.Omega.{arith}
use Rattle.accuracy.proofs.Sense.{bit_le}
use Rattle.pipeline.specs.Advance.{advance, idle, move_of, next, resting, waiting}
use Rattle.pipeline.specs.Retire.{retire}
use Rattle.pipeline.specs.Start.{fresh}
use Rattle.stages.specs.Advance.{awake, waits_for_memory}
use Rattle.stages.specs.Counting.{count_idle, count_retired, counted, counter_full, flushes, is_full, stalls}
use Rattle.stages.specs.Retire.{retire_stages}
use Rattle.runs.specs.Names.{Move, PipelineCpu, Start, Taken, keep_waiting}

-- every counter of s is at most t
pub record Low (s : PipelineCpu) (t : ℕ) : Type 0 where
  pub cycles : s.counts.cycles ≤ t
  pub running_cycles : s.counts.running_cycles ≤ t
  pub instructions_executed : s.counts.instructions_executed ≤ t
  pub stall_cycles : s.counts.stall_cycles ≤ t
  pub flush_events : s.counts.flush_events ≤ t

-- the five bounds together
low_by : {s : PipelineCpu} {t : ℕ} → s.counts.cycles ≤ t → s.counts.running_cycles ≤ t
    → s.counts.instructions_executed ≤ t
    → s.counts.stall_cycles ≤ t → s.counts.flush_events ≤ t → Low s t
low_by a b c d e = record {
  cycles = a;
  running_cycles = b;
  instructions_executed = c;
  stall_cycles = d;
  flush_events = e;
}

-- a move raises each by at most one; the retired count has risen before
advance_low : (m : Move) (s : PipelineCpu) (x : Taken) (t : ℕ) → s.counts.cycles ≤ t → s.counts.running_cycles ≤ t
    → s.counts.instructions_executed ≤ suc t → s.counts.stall_cycles ≤ t → s.counts.flush_events ≤ t
    → Low (advance m s x) (suc t)
unfolding advance counted
advance_low m s x t a b c d e =
    let y = bit_le (stalls m) in let z = bit_le (flushes m) in
    low_by (omega arith) (omega arith) c (omega arith) (omega arith)

-- a tick that moves nothing
rest_low : (s : PipelineCpu) (t : ℕ) → Low s t → Low (resting s) (suc t)
unfolding resting idle waiting counted count_idle
rest_low s t w = by (waits_for_memory s.stages)
  where
    by : (b : Bool) → Low (cond b (waiting s) (idle s)) (suc t)
    by true =
        let y = bit_le (stalls keep_waiting) in let z = bit_le (flushes keep_waiting) in
        low_by (omega (arith, w.cycles)) (omega (arith, w.running_cycles))
        (omega (arith, w.instructions_executed)) (omega (arith, w.stall_cycles, y))
        (omega (arith, w.flush_events, z))
    by false =
        low_by (omega (arith, w.cycles)) (omega (arith, w.running_cycles))
        (omega (arith, w.instructions_executed)) (omega (arith, w.stall_cycles))
        (omega (arith, w.flush_events))

-- one tick more
pub next_low : (s : PipelineCpu) (x : Taken) (t : ℕ) → Low s t → Low (next s x) (suc t)
unfolding next retire retire_stages count_retired
next_low s x t w = by (awake s.stages)
  where
    by : (b : Bool) → Low (cond b (advance (move_of (retire s)) (retire s) x) (resting s)) (suc t)
    by true =
        let z = bit_le s.stages.mem_wb.valid in
        let c = w.instructions_executed in
        advance_low (move_of (retire s)) (retire s) x t w.cycles w.running_cycles (omega arith)
        w.stall_cycles w.flush_events
    by false = rest_low s t w

-- a counter below the limit is not full
not_full : (n t : ℕ) → n ≤ t → t < 18446744073709551615 → is_full n ≡ false
unfolding is_full
not_full n t a b = ne_eqb n 18446744073709551615 (λ e. omega arith)

-- so 13 does not arise
pub low_room : (s : PipelineCpu) (t : ℕ) → Low s t → t < 18446744073709551615 → counter_full s.counts ≡ false
unfolding counter_full
low_room s t w h = rw (
  not_full s.counts.cycles t w.cycles h,
  not_full s.counts.running_cycles t w.running_cycles h,
  not_full s.counts.instructions_executed t w.instructions_executed h,
  not_full s.counts.stall_cycles t w.stall_cycles h,
  not_full s.counts.flush_events t w.flush_events h,
)

-- a fresh state's counters are 0
pub fresh_low : (v : Start) → Low (fresh v) 0
unfolding fresh
fresh_low v =
    low_by (omega arith) (omega arith) (omega arith) (omega arith) (omega arith)
