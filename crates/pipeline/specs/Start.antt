-- Start: R0 becomes 0, the address and mode are both the fetch and the retire place, latches are empty, no wait is
-- under way, the machine runs, counters are 0.
use Rattle.std.specs.Prelude.{set, false, true}
use Rattle.latch.specs.Latches.{empty_ex_mem, empty_id_ex, empty_if_id, empty_mem_wb}
use Rattle.pipeline.specs.Names.{PipelineCpu, Start}

unfoldable pub fresh : Start → PipelineCpu
fresh v = record {
  reg = set v.reg 0 0;
  stages = record {
    fetch_at = v.at;
    retire_at = v.at;
    running = true;
    user = v.user;
    features = v.features;
    if_id = empty_if_id;
    id_ex = empty_id_ex;
    ex_mem = empty_ex_mem;
    mem_wb = empty_mem_wb;
    ex_cycles_left = 0;
    ex_armed = false;
    wait_left = 0;
  };
  counts = record {
    cycles = 0;
    running_cycles = 0;
    instructions_executed = 0;
    stall_cycles = 0;
    flush_events = 0;
  };
}
