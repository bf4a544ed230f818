-- Asking beforehand: what a tick will want, or refusal 11, 12 or 13.
use Rattle.std.specs.Prelude.{ℕ, Bool, ◌&&◌, cond, ◌||◌, not, List, [], Option, None, Some, Result}
use Rattle.std.specs.Bool.{then_some}
use Rattle.latch.specs.Memory.{request_in, requests}
use Rattle.stages.specs.Advance.{awake}
use Rattle.stages.specs.Fetch.{fetch_place, fetches}
use Rattle.stages.specs.Forwarding.{origins_for}
use Rattle.stages.specs.Move.{inquiry_in, is_wait}
use Rattle.stages.specs.Refusals.{faulty}
use Rattle.stages.specs.Retire.{retire_stages}
use Rattle.pipeline.specs.Advance.{move_of}
use Rattle.pipeline.specs.Names.{Move, Origins, PipelineCpu, Place, Refusal, Request, Stages, Wanted}
use Rattle.pipeline.specs.Refusals.{state_tests, verdict}
use Rattle.pipeline.specs.Retire.{retire}

unfoldable pub want_fetch : PipelineCpu → Bool
want_fetch s = awake s.stages && ((retire s).stages.running && fetches (move_of (retire s)))

unfoldable pub fetch_at : PipelineCpu → Place
fetch_at s = fetch_place (move_of (retire s)) (retire s).stages

-- the place to fetch from, if a fetch is wanted
unfoldable pub fetch_wanted : PipelineCpu → Option Place
fetch_wanted s = then_some (want_fetch s) (fetch_at s)

-- the load or store asked for, if any
unfoldable pub asks : Stages → List Request
asks l = cond (awake l) (requests (retire_stages l).ex_mem) []

-- the special register asked for, if any
unfoldable pub want_special : PipelineCpu → Option ℕ
want_special s =
    cond (awake s.stages) (inquiry_in (move_of (retire s)) (retire s).stages (retire s).reg) None

-- the origins that the execution of a move passes on, none where nothing executes
unfoldable pub origins_in : Move → Stages → Option Origins
origins_in m l = cond (is_wait m || not l.id_ex.valid) None (Some (origins_for l l.id_ex))

-- the origins that the tick's execution will pass on, if an instruction executes
unfoldable pub want_origins : PipelineCpu → Option Origins
want_origins s = cond (awake s.stages) (origins_in (move_of (retire s)) (retire s).stages) None

-- what a tick will want
unfoldable pub wanted : PipelineCpu → Wanted
wanted s = record {
  fetch = fetch_wanted s;
  request = request_in (asks s.stages);
  special = want_special s;
  origins = want_origins s;
}

-- refusal 11, 12 or 13, or what is wanted
unfoldable pub ask : PipelineCpu → Result Wanted Refusal
ask s = verdict (state_tests (faulty s.stages) s) (wanted s)
