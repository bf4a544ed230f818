-- What a list of ticks asked for, was answered and retired, by its events. Assumes nothing.
use Prim.Native.Nat.{◌+◌, ℕ}
use mathlib.Core.Bool.{Bool, cond, false, true}
use mathlib.Core.List.{List, [], ◌++◌, ◌∷◌, append-nil, append_assoc}
use mathlib.Core.Path.{◌∙◌, ◌≡◌, ap, refl, sym}
use native.Mathlib.Omega.{arith}
use Rattle.std.specs.Prelude.{Err, Ok, Option, Result, is_some, option_to_list}
use Rattle.std.proofs.lemmas.List.Concat.{flat_map-append}
use Rattle.isa.proofs.Bools.{split}
use Rattle.logging.specs.Logging.{tick_events}
use Rattle.pipeline.proofs.Resting.{rests}
use Rattle.pipeline.specs.Advance.{move_of, next}
use Rattle.pipeline.specs.Retire.{retire}
use Rattle.pipeline.specs.Tick.{same, taken, tick, word_in}
use Rattle.stages.specs.Advance.{awake}
use Rattle.stages.specs.Counting.{count_retired}
use Rattle.stages.specs.Loads.{want_load}
use Rattle.word.specs.Words.{bit}
use Rattle.accuracy.proofs.Took.{advance_retired, answer_is, answer_none, took}
use Rattle.accuracy.specs.Accuracy.{Run, after, answers, fed, one, one_by}
use Rattle.accuracy.specs.Names.{Taken}
use Rattle.logs.proofs.Along.{along, events_along}
use Rattle.logs.proofs.Ticks.{retirements_append, says}
use Rattle.logs.specs.Claims.{DoneTicks}
use Rattle.logs.specs.Entries.{loaded, request_said, requests_in, retirements, word_said}
use Rattle.logs.specs.Logs.{done, unless_refused}
use Rattle.logs.specs.Names.{Event, Given, PipelineCpu, Refusal, Request}

-- the retired count behind a tick
count_next : (s : PipelineCpu) (x : Taken) → (next s x).counts.instructions_executed
    ≡ s.counts.instructions_executed + cond (awake s.stages) (bit s.stages.mem_wb.valid) 0
unfolding next retire count_retired
count_next s x = split (awake s.stages)
    (λ e. rw e (advance_retired (move_of (retire s)) (retire s) x))
    (λ e. rw e (let c = (rests s).retired in omega arith))

-- the answer that a tick gives, where exactly a load has one
answer_by : (o : Option ℕ) (b : Bool) → same b (is_some o) ≡ true → option_to_list o ≡ cond b (word_in o ∷ []) []
answer_by o true h = answer_is o true h refl
answer_by o false h = answer_none o false h refl

-- one tick, by its result
pub record Adds (r r' : Run) (fs : List ℕ) (es : List Event) : Type 0 where
  pub requests : r'.requests ≡ r.requests ++ requests_in es
  pub answers : fs ≡ loaded es
  pub count : r'.state.counts.instructions_executed ≡ r.state.counts.instructions_executed + retirements es

adds_by : (o : Result PipelineCpu Refusal) (r : Run) (t : Given) → tick r.state t ≡ o
    → Adds r (one_by o t r) (fed o t) (unless_refused o (tick_events r.state t))
unfolding one_by fed unless_refused request_said word_said retirements tick_events taken
adds_by (Err c) r t e = record { requests = sym (append-nil r.requests); answers = refl; count = omega arith }
adds_by (Ok s) r t e =
    let k = took r.state t s e in
    let x = says r.state.stages (word_in t.answer) in
    let n = count_next r.state (taken t) in
    let y = x.retired in
    let m : (next r.state (taken t)).counts.instructions_executed ≡ s.counts.instructions_executed
    = ap (λ (x : PipelineCpu). x.counts.instructions_executed) k.is in
    record {
      requests = ap (λ (q : List Request). r.requests ++ q) (sym x.requests);
      answers = answer_by t.answer (want_load r.state.stages) k.is_load ∙ sym x.loaded;
      count = omega arith;
    }

pub adds_one : (r : Run) (t : Given)
    → Adds r (one r t) (fed (tick r.state t) t) (unless_refused (tick r.state t) (tick_events r.state t))
unfolding one
adds_one r t = adds_by (tick r.state t) r t refl

-- a list
pub adds : (ts : List Given) (r : Run) → Adds r (after r ts) (answers r ts) (events_along r ts)
unfolding after answers events_along request_said word_said retirements
adds [] r = record { requests = sym (append-nil r.requests); answers = refl; count = omega arith }
adds (t ∷ ts) r =
    let x = adds_one r t in
    let y = adds ts (one r t) in
    let e = unless_refused (tick r.state t) (tick_events r.state t) in
    let es = events_along (one r t) ts in
    let n = x.count in let m = y.count in let z = retirements_append e es in
    record {
      requests = rw (flat_map-append request_said e es) (y.requests ∙ rw x.requests (append_assoc r.requests _ _));
      answers = rw (flat_map-append word_said e es) (λ j. x.answers j ++ y.answers j);
      count = omega arith;
    }

pub list : DoneTicks
list r k ts q =
    let x = along ts k r q in
    let y = adds (done k ts) r in (
      x.1,
      y.requests ∙ ap (λ (es : List Event). r.requests ++ requests_in es) x.0,
      y.answers ∙ ap loaded x.0,
      ap (λ (s : PipelineCpu). s.counts.instructions_executed) (sym x.1) ∙ y.count
          ∙ (λ j. (q j).counts.instructions_executed + retirements (x.0 j)),
    )
