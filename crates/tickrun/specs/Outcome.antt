-- The run that tickrun reports (RULES 20.1): the sheet that it read, from a fresh state with zeros, without load
-- answers, with limit 1,000,000.
use Rattle.std.specs.Prelude.{ℕ, List, []}
use Rattle.isa.specs.Machine.{zero_start}
use Rattle.pipeline.specs.Start.{fresh}
use Rattle.runs.specs.Run.{ran}
use Rattle.runs.specs.declared.Ran.{Ran}

unfoldable pub outcome : List ℕ → Ran
outcome sheet = ran (fresh zero_start) sheet [] [] 1000000
