-- Whether a tick loads.
use Rattle.std.specs.Prelude.{Bool, ◌&&◌}
use Rattle.latch.specs.Memory.{loads}
use Rattle.stages.specs.Advance.{awake}
use Rattle.stages.specs.Names.{Stages}
use Rattle.stages.specs.Retire.{retire_stages}

-- EX/MEM asks for a load
unfoldable pub loads_in : Stages → Bool
loads_in l = l.ex_mem.valid && loads l.ex_mem

unfoldable pub want_load : Stages → Bool
want_load l = awake l && loads_in (retire_stages l)
