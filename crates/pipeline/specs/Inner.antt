-- Definitions that only the contracts of inner functions cite. No claim and no public promise rests on them.
use Rattle.std.specs.Prelude.{ℕ, false, true, List, ◌≡◌, Result}
use Rattle.latch.specs.Retire.{retired_regs}
use Rattle.stages.specs.Advance.{awake}
use Rattle.stages.specs.Counting.{counter_full}
use Rattle.stages.specs.Retire.{retire_stages}
use Rattle.pipeline.specs.Advance.{next}
use Rattle.pipeline.specs.Names.{Given, PipelineCpu, Refusal, Stages}
use Rattle.pipeline.specs.Refusals.{verdict}
use Rattle.pipeline.specs.Tick.{taken, wanted_tests}

-- what is left to test once 11, 12 and 13 do not apply
unfoldable pub tick_on : PipelineCpu → Given → Result PipelineCpu Refusal
tick_on s t = verdict (wanted_tests s t) (next s (taken t))

-- l and rs: the stages and registers that retirement leaves of a state that a tick moves
pub record Retired (s : PipelineCpu) (l : Stages) (rs : List ℕ) : Type 0 where
  pub awake : awake s.stages ≡ true
  pub room : counter_full s.counts ≡ false
  pub stages : l ≡ retire_stages s.stages
  pub reg : rs ≡ retired_regs s.stages.mem_wb s.stages.features s.reg
