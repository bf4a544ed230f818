-- A run: turns in the order of RULES 18.2, over any source.
use Rattle.std.specs.Prelude.{suc, zero, ℕ, length, Bool, ◌&&◌, cond, false, List, [], ◌∷◌, Option, None, Some}
use Rattle.std.specs.Prelude.{Result, Ok, Err, ⊤}
use Rattle.std.specs.Result.{result_and}
use Rattle.isa.specs.Machine.{Source, first, is_empty, rest}
use Rattle.pipeline.specs.Tick.{tick}
use Rattle.pipeline.specs.Turn.{reply}
use Rattle.sheet.specs.Sheet.{limited_check, sheet_source}
use Rattle.sheet.specs.Turns.{turn_by}
use Rattle.stages.specs.Counting.{counter_full}
use Rattle.stages.specs.Loads.{want_load}
use Rattle.stages.specs.Refusals.{faulty, out_of_bounds}
use Rattle.runs.specs.Names.{Counters, End, EndRefused, Given, Halted, OutOfBounds, PipelineCpu, Ran, Refusal, Spent}
use Rattle.runs.specs.Names.{Stages}

-- how a turn ends the run, if it does: whether the limit is used up, whether no answer is left
unfoldable pub turn_of : Stages → Counters → Bool → Bool → Option End
turn_of l c spent none = turn_by l.running spent (faulty l) (counter_full c) (want_load l && none)

-- a run: its end, the state then, the ticks done
pub record Played : Type 0 where
  pub end : End
  pub state : PipelineCpu
  pub ticks : List Given

-- a run that ends at once
unfoldable pub ended : End → PipelineCpu → Played
ended e s = record { end = e; state = s; ticks = [] }

-- one tick before a run
unfoldable pub more : Given → Played → Played
more t p = record { end = p.end; state = p.state; ticks = t ∷ p.ticks }

-- a turn, by the result of its tick and the run behind it
unfoldable pub play_by : Option End → Result PipelineCpu Refusal → PipelineCpu → Given → (PipelineCpu → Played) → Played
play_by (Some e) o s t k = ended e s
play_by None (Err r) s t k = ended (EndRefused r) s
play_by None (Ok s') s t k = more t (k s')

-- the answers left behind a tick
unfoldable pub left_after : PipelineCpu → List ℕ → List ℕ
left_after s l = cond (want_load s.stages) (rest l) l

-- the run of state s with n ticks allowed and load answers l; each tick is offered what it asks for
unfoldable pub play : Source → ℕ → List ℕ → PipelineCpu → Played
play src zero l s = ended (cond s.stages.running Spent Halted) s
play src (suc n) l s =
    play_by (turn_of s.stages s.counts false (is_empty l)) (tick s (reply src (first l) s)) s (reply src (first l) s)
    (λ s'. play src n (left_after s l) s')

-- what is reported of it
unfoldable pub reported : Played → Ran
reported p = record { end = p.end; ticks = length p.ticks; state = p.state }

-- the check before the first turn: 6, per record 5, 1; 7: a limit above 1,000,000; 11
unfoldable pub run_check : PipelineCpu → List ℕ → ℕ → Result ⊤ Refusal
run_check s sheet limit =
    result_and (limited_check sheet limit) (cond (out_of_bounds s.stages) (Err OutOfBounds) (Ok tt))

-- a run refused before its first tick gives the state that it was given
unfoldable pub refused_run : Refusal → PipelineCpu → Ran
refused_run r s = record { end = EndRefused r; ticks = 0; state = s }

-- by a check before it: refused, else run p
unfoldable pub checked_run : Result ⊤ Refusal → PipelineCpu → Ran → Ran
checked_run (Err r) s p = refused_run r s
checked_run (Ok x) s p = p

-- the runner: a state, a sheet's bytes, load answers, a table of special registers and a tick limit
unfoldable pub ran : PipelineCpu → List ℕ → List ℕ → List ℕ → ℕ → Ran
ran s sheet answers table limit =
    checked_run (run_check s sheet limit) s (reported (play (sheet_source sheet table) limit answers s))
