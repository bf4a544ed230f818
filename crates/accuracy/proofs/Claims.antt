-- Everything claimed of the pipeline, proved. Assumes nothing.
use mathlib.Core.Path.{◌≡◌, refl}
use Rattle.std.specs.Prelude.{Err, Ok, Result}
use Rattle.pipeline.specs.Tick.{handed_back, tick, ticked}
use Rattle.accuracy.proofs.Accuracy.{demand3, demand3_for_lem}
use Rattle.accuracy.proofs.Asking.{asking}
use Rattle.accuracy.proofs.Bounds.{fresh_in, tick_in}
use Rattle.accuracy.proofs.Example.{example}
use Rattle.accuracy.proofs.Forwarding.{fwd_writes}
use Rattle.accuracy.proofs.Offers.{first_agrees, first_says, source_agrees, source_says}
use Rattle.accuracy.proofs.Origins.{from_origins}
use Rattle.accuracy.proofs.Sense.{numbered, only_tick}
use Rattle.accuracy.proofs.Waits.{wait_rows}
use Rattle.accuracy.specs.Accuracy.{Run, one, one_by}
use Rattle.accuracy.specs.Claims.{Claims}
use Rattle.accuracy.specs.Names.{Given, PipelineCpu, Refusal}

-- a refused tick hands back the very state
by_result : (s : PipelineCpu) (c : Refusal) (o : Result PipelineCpu Refusal) → (handed_back o s).outcome ≡ Err c
    → (handed_back o s).state ≡ s
unfolding handed_back
by_result s c (Err d) e = refl
by_result s c (Ok s') e = cc

-- a list hands on what the tick hands back
hands_on_lem : (r : Run) (t : Given) (o : Result PipelineCpu Refusal)
    → (one_by o t r).state ≡ (handed_back o r.state).state
unfolding one_by handed_back
hands_on_lem r t (Err c) = refl
hands_on_lem r t (Ok s) = refl

pub claims : Claims
unfolding ticked one
claims = record {
  demand3 = demand3;
  demand3_for = demand3_for_lem;
  only = only_tick;
  numbered = numbered;
  premise = first_agrees;
  premise_said = first_says;
  answered = source_agrees;
  answered_said = source_says;
  hands_on = λ r t. hands_on_lem r t (tick r.state t);
  hands_back = λ s t c e. by_result s c (tick s t) e;
  asking = asking;
  fresh = fresh_in;
  keeps = tick_in;
  forwarding = fwd_writes;
  origins = from_origins;
  example = example;
  waits = wait_rows;
}
