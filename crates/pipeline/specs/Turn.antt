-- The tick that answers what is asked from a fixed program.
use Rattle.std.specs.Prelude.{ℕ, cond, None, Some}
use Rattle.isa.specs.Inquiries.{look_up}
use Rattle.isa.specs.Machine.{Source}
use Rattle.stages.specs.Loads.{want_load}
use Rattle.pipeline.specs.Ask.{fetch_at, want_fetch, want_special}
use Rattle.pipeline.specs.Names.{Given, PipelineCpu}

-- a tick made by asking, answered from a source; v is the answer of a load, and no wait is told
unfoldable pub reply : Source → ℕ → PipelineCpu → Given
reply src v s = record {
  offer = cond (want_fetch s) (Some (src.raw (fetch_at s).pc (fetch_at s).mode)) None;
  answer = cond (want_load s.stages) (Some v) None;
  special = look_up src.table (want_special s);
  fetch_wait = 0;
  load_wait = 0;
}
