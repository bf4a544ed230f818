-- Retirement: the retire place and the stages that MEM/WB leaves. HALT empties all younger latches.
use Rattle.std.specs.Prelude.{cond, false}
use Rattle.latch.specs.Latches.{cleared, empty_ex_mem, empty_id_ex}
use Rattle.latch.specs.Retire.{halts, retired_mode, retired_pc}
use Rattle.stages.specs.Names.{Stages}

unfoldable pub retire_stages : Stages → Stages
retire_stages l = record {
  fetch_at = record
      { pc = l.fetch_at.pc; mode = retired_mode l.mem_wb l.fetch_at.mode };
  retire_at = record {
    pc = retired_pc l.mem_wb l.retire_at.pc;
    mode = retired_mode l.mem_wb l.retire_at.mode;
  };
  running = cond (halts l.mem_wb) false l.running;
  user = l.user;
  features = l.features;
  if_id = cond (halts l.mem_wb) (cleared l.if_id) l.if_id;
  id_ex = cond (halts l.mem_wb) empty_id_ex l.id_ex;
  ex_mem = cond (halts l.mem_wb) empty_ex_mem l.ex_mem;
  mem_wb = l.mem_wb;
  ex_cycles_left = cond (halts l.mem_wb) 0 l.ex_cycles_left;
  ex_armed = cond (halts l.mem_wb) false l.ex_armed;
  wait_left = l.wait_left;
}
