-- A list of ticks with a log, and what it leaves there.
use Rattle.std.specs.Prelude.{◌+◌, ℕ, length, List, [], ◌++◌, ◌∷◌, None, Some, Result, Ok, Err, ◌≡◌}
use Rattle.cardlog.specs.Bytes.{bytes_of}
use Rattle.cardlog.specs.Reading.{read}
use Rattle.logging.specs.Logging.{log_after, logged, logging_tick, tick_events}
use Rattle.logs.specs.Names.{Event, Given, PipelineCpu, Refusal}

-- the state handed back so far, the log, its first free place
pub record Kept : Type 0 where
  pub state : PipelineCpu
  pub log : List ℕ
  pub free : ℕ

-- the next state, or the refusal, of one tick more
unfoldable pub result_of : Kept → Given → Result PipelineCpu Refusal
result_of k t = logging_tick k.state t k.free k.log

-- one tick more: what it hands back, and the log then
unfoldable pub keep : Kept → Given → Kept
keep k t = record {
  state = (logged k.state t k.free k.log).ticked.state;
  log = log_after k.state t k.free k.log;
  free = (logged k.state t k.free k.log).free;
}

unfoldable pub kept : Kept → List Given → Kept
kept k [] = k
kept k (t ∷ ts) = kept (keep k t) ts

-- x where the tick was not refused
unfoldable pub unless_refused : {A : Type 0} → Result PipelineCpu Refusal → List A → List A
unless_refused (Err c) x = []
unless_refused (Ok s) x = x

-- the events of those ticks that were not refused, in order
unfoldable pub happened : Kept → List Given → List Event
happened k [] = []
happened k (t ∷ ts) = unless_refused (result_of k t) (tick_events k.state t) ++ happened (keep k t) ts

-- those ticks themselves: a list of accepted ticks, as demand 3 has it
unfoldable pub done : Kept → List Given → List Given
done k [] = []
done k (t ∷ ts) = unless_refused (result_of k t) (t ∷ []) ++ done (keep k t) ts

-- read one after the other from a place on, these events and no others stand in a log, and then it ends
unfoldable pub Reads : List ℕ → ℕ → List Event → Type 0
Reads l at [] = read l at ≡ record { found = Ok None; at = at }
Reads l at (e ∷ es) =
    (read l at ≡ record { found = Ok (Some e); at = at + length (bytes_of e) }) × Reads l (at + length (bytes_of e)) es
