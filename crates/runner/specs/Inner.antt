-- Definitions that only the contracts of inner functions cite. No claim and no public promise rests on them.
use Rattle.std.specs.Prelude.{◌+◌, ◌-◌, ℕ, length, false, List, ◌≡◌, Ok}
use Rattle.isa.specs.Machine.{Source}
use Rattle.runs.specs.Run.{Played, play, reported}
use Rattle.sheet.specs.Sheet.{sheet_check}
use Rattle.stages.specs.Refusals.{out_of_bounds}
use Rattle.runner.specs.Names.{PipelineCpu, Ran}

-- what is reported where t ticks were done before
unfoldable pub later : ℕ → Played → Ran
later t p = record { end = p.end; ticks = t + length p.ticks; state = p.state }

-- a state with the registers that are held apart from it
abbrev pub joined : List ℕ → PipelineCpu → PipelineCpu
joined rs s = record { reg = rs; stages = s.stages; counts = s.counts }

-- what the loop holds after t ticks, with so many answers left: the run still to come gives the whole run's report
pub record Holds (src : Source) (limit : ℕ) (l : List ℕ) (s₀ s : PipelineCpu) (left : List ℕ) (t : ℕ) : Type 0 where
  pub bounds : out_of_bounds s.stages ≡ false
  pub same : reported (play src limit l s₀) ≡ later t (play src (limit - t) left s)

-- what is checked before the first turn
pub record Ready (sheet : List ℕ) (s : PipelineCpu) : Type 0 where
  pub checked : sheet_check sheet ≡ Ok tt
  pub bounds : out_of_bounds s.stages ≡ false
