-- Forwarding out of the stages, and where the values come from. rs: the registers.
use Rattle.std.specs.Prelude.{ℕ, List}
use Rattle.latch.specs.Forwarding.{forward_from}
use Rattle.origin.specs.Origins.{origin_from, origins_of}
use Rattle.stages.specs.Names.{IdEx, Origin, Origins, Stages}

unfoldable pub forwarded : Stages → List ℕ → ℕ → ℕ
forwarded l rs r = forward_from l.ex_mem l.mem_wb l.features rs r

-- the origin of that value
unfoldable pub origin_of : Stages → ℕ → Origin
origin_of l r = origin_from l.ex_mem l.mem_wb r

-- the origins of the operands of a latch
unfoldable pub origins_for : Stages → IdEx → Origins
origins_for l d = origins_of l.ex_mem l.mem_wb d
