-- The state after a tick.
use Rattle.std.specs.Prelude.{cond}
use Rattle.stages.specs.Advance.{advance_stages, awake, wait_for_memory, waits_for_memory}
use Rattle.stages.specs.Counting.{count_idle, counted}
use Rattle.stages.specs.Move.{move}
use Rattle.pipeline.specs.Names.{Move, PipelineCpu, Taken, keep_waiting}
use Rattle.pipeline.specs.Retire.{retire}

-- the move of a state
abbrev pub move_of : PipelineCpu → Move
move_of s = move s.stages s.reg

unfoldable pub advance : Move → PipelineCpu → Taken → PipelineCpu
advance m s x = record {
  reg = s.reg;
  stages = advance_stages m s.stages s.reg x;
  counts = counted m s.counts;
}

-- a tick of a wait for the memory: it counts as one of a wait in EX
unfoldable pub waiting : PipelineCpu → PipelineCpu
waiting s = record { reg = s.reg; stages = wait_for_memory s.stages; counts = counted keep_waiting s.counts }

-- a tick of a machine that does not run
unfoldable pub idle : PipelineCpu → PipelineCpu
idle s = record { reg = s.reg; stages = s.stages; counts = count_idle s.counts }

-- a tick that moves nothing; a machine that does not run waits for the memory too
unfoldable pub resting : PipelineCpu → PipelineCpu
resting s = cond (waits_for_memory s.stages) (waiting s) (idle s)

-- the next state
unfoldable pub next : PipelineCpu → Taken → PipelineCpu
next s x = cond (awake s.stages) (advance (move_of (retire s)) (retire s) x) (resting s)
