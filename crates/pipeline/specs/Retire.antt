-- Retirement: MEM/WB's writes, the retire place, the retired count. HALT empties all younger latches.
use Rattle.latch.specs.Retire.{retired_regs}
use Rattle.stages.specs.Counting.{count_retired}
use Rattle.stages.specs.Retire.{retire_stages}
use Rattle.pipeline.specs.Names.{PipelineCpu}

unfoldable pub retire : PipelineCpu → PipelineCpu
retire s = record {
  reg = retired_regs s.stages.mem_wb s.stages.features s.reg;
  stages = retire_stages s.stages;
  counts = count_retired s.stages.mem_wb.valid s.counts;
}
