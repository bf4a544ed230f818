-- A tick that keeps the card log: its events, and what it hands back.
use Rattle.std.specs.Prelude.{◌+◌, ℕ, cond, length, List, [], ◌++◌, Result, Ok, Err}
use Rattle.latch.specs.Memory.{request_in}
use Rattle.cardlog.specs.Bytes.{bytes}
use Rattle.cardlog.specs.Events.{access_events, retire_events}
use Rattle.cardlog.specs.Writing.{fits, laid}
use Rattle.pipeline.specs.Ask.{asks}
use Rattle.pipeline.specs.Tick.{handed_back, tick, word_in}
use Rattle.stages.specs.Advance.{awake}
use Rattle.logging.specs.Names.{Event, Given, LogFull, LoggedTick, PipelineCpu, Refusal, Stages}

-- the events of a tick on stages s: what it retires, then the load or store that it asks for, a load with its answer; a
-- tick that moves nothing has none
unfoldable pub events : Stages → ℕ → List Event
events s answer =
    cond (awake s) (retire_events s.mem_wb s.features ++ access_events (request_in (asks s)) answer) []

-- those of a tick that is given t
unfoldable pub tick_events : PipelineCpu → Given → List Event
tick_events s t = events s.stages (word_in t.answer)

-- 14 behind the tick's own refusals: the bytes bs do not fit
unfoldable pub fitted : Result PipelineCpu Refusal → List ℕ → ℕ → List ℕ → Result PipelineCpu Refusal
fitted (Err c) bs free l = Err c
fitted (Ok s) bs free l = cond (fits bs free l) (Ok s) (Err LogFull)

-- the tick with a log l whose first free place is `free`: the next state, or the refusal
unfoldable pub logging_tick : PipelineCpu → Given → ℕ → List ℕ → Result PipelineCpu Refusal
logging_tick s t free l = fitted (tick s t) (bytes (tick_events s t)) free l

-- the next free place, by that result: a refused tick writes nothing
unfoldable pub free_by : Result PipelineCpu Refusal → List ℕ → ℕ → ℕ
free_by (Err c) bs free = free
free_by (Ok s) bs free = free + length bs

-- the log then
unfoldable pub log_by : Result PipelineCpu Refusal → List ℕ → ℕ → List ℕ → List ℕ
log_by (Err c) bs free l = l
log_by (Ok s) bs free l = laid bs free l

-- what is handed back, with the next free place
unfoldable pub logged : PipelineCpu → Given → ℕ → List ℕ → LoggedTick
logged s t free l = record {
  ticked = handed_back (logging_tick s t free l) s;
  free = free_by (logging_tick s t free l) (bytes (tick_events s t)) free;
}

-- every byte of the log then
unfoldable pub log_after : PipelineCpu → Given → ℕ → List ℕ → List ℕ
log_after s t free l = log_by (logging_tick s t free l) (bytes (tick_events s t)) free l
