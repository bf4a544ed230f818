-- Refusals 11 and 12 of the stages.
use Rattle.std.specs.Prelude.{nat_lt, Bool, ◌&&◌, ◌||◌}
use Rattle.latch.specs.Bounds.{bad_ex_mem, bad_id_ex, bad_if_id, bad_mem_wb}
use Rattle.latch.specs.Retire.{is_faulty}
use Rattle.stages.specs.Advance.{awake}
use Rattle.stages.specs.Names.{Stages}

-- refusal 11: a latch out of its bounds, a wait above 15, or more than 2,000 ticks left of one for the memory
unfoldable pub out_of_bounds : Stages → Bool
out_of_bounds l =
    bad_if_id l.if_id
    || (bad_id_ex l.id_ex ||
    (bad_ex_mem l.ex_mem || (bad_mem_wb l.mem_wb || (nat_lt 15 l.ex_cycles_left || nat_lt 2000 l.wait_left))))

-- refusal 12 of retirement by itself: running, and MEM/WB holds an exception, MTSR or IRET
unfoldable pub faulty_alone : Stages → Bool
faulty_alone l = l.running && is_faulty l.mem_wb

-- refusal 12 elsewhere: the same, but not while a wait for the memory is left
unfoldable pub faulty : Stages → Bool
faulty l = awake l && is_faulty l.mem_wb
