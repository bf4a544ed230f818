-- A tick loads. Assumes nothing.
use mathlib.Core.Bool.{◌&&◌, and_assoc, not}
use mathlib.Core.Path.{◌∙◌, ◌≡◌}
use Rattle.isa.proofs.Bools.{split}
use Rattle.latch.specs.Latches.{empty_ex_mem}
use Rattle.latch.specs.Retire.{halts}
use Rattle.stages.specs.Advance.{awake}
use Rattle.stages.specs.Loads.{loads_in, want_load}
use Rattle.stages.specs.Names.{Stages}
use Rattle.stages.specs.Retire.{retire_stages}

after_by : (l : Stages) → awake l && (not (halts l.mem_wb) && loads_in l) ≡ want_load l
unfolding want_load loads_in retire_stages empty_ex_mem
after_by l = split (halts l.mem_wb) (λ e. rw e) (λ e. rw e)

-- a load is asked for after retirement: a HALT in MEM/WB empties EX/MEM first
pub loads_after : (l : Stages) → (awake l && not (halts l.mem_wb)) && loads_in l ≡ want_load l
loads_after l = and_assoc (awake l) (not (halts l.mem_wb)) (loads_in l) ∙ after_by l
