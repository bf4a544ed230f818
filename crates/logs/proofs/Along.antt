-- The events of a list of ticks with a log are those of demand 3's list, the ticks that were not refused, and both
-- leave the same state. Assumes nothing.
use Prim.Native.Nat.{ℕ}
use mathlib.Core.Bool.{true}
use mathlib.Core.List.{List, [], ◌++◌, ◌∷◌}
use mathlib.Core.Path.{◌∙◌, ◌≡◌, ap, refl, subst, sym}
use Rattle.std.specs.Prelude.{Err, Ok, Result}
use Rattle.isa.proofs.Bools.{split}
use Rattle.cardlog.specs.Writing.{fits}
use Rattle.logging.specs.Logging.{fitted, free_by, log_after, log_by, logged, logging_tick, tick_events}
use Rattle.pipeline.specs.Tick.{handed_back, tick}
use Rattle.accuracy.specs.Accuracy.{Run, after, one, one_by}
use Rattle.logs.specs.Logs.{Kept, done, happened, keep, kept, result_of, unless_refused}
use Rattle.logs.specs.Names.{Event, Given, PipelineCpu, Refusal}

-- a tick with a log is accepted where the tick is and its bytes fit
pub fitted_ok : (o : Result PipelineCpu Refusal) (bs : List ℕ) (free : ℕ) (l : List ℕ) (s : PipelineCpu)
    → fitted o bs free l ≡ Ok s → (o ≡ Ok s) × (fits bs free l ≡ true)
unfolding fitted
fitted_ok (Err c) bs free l s e = (cc, cc)
fitted_ok (Ok s') bs free l s e = split (fits bs free l)
    (λ z. (rw z at e, z))
    (λ z. let q = rw z at e in (cc, cc))

-- the events of a list of ticks, by demand 3's runs
unfoldable pub events_along : Run → List Given → List Event
events_along r [] = []
events_along r (t ∷ ts) = unless_refused (tick r.state t) (tick_events r.state t) ++ events_along (one r t) ts

-- one tick more of a list with a log, with the result o, and the ticks behind it
along_by : (o : Result PipelineCpu Refusal) (r : Run) (k : Kept) (t : Given) (ds : List Given) (hs : List Event)
    (s' : PipelineCpu) → result_of k t ≡ o → r.state ≡ k.state
    → ((q : Run) → q.state ≡ (handed_back o k.state).state
    → (events_along q ds ≡ hs) × ((after q ds).state ≡ s'))
    → (events_along r (unless_refused o (t ∷ []) ++ ds) ≡ unless_refused o (tick_events k.state t) ++ hs)
    × ((after r (unless_refused o (t ∷ []) ++ ds)).state ≡ s')
unfolding result_of logging_tick handed_back unless_refused events_along after one one_by
along_by (Err c) r k t ds hs s' e q ih = ih r q
along_by (Ok s) r k t ds hs s' e q ih =
    let m : tick r.state t ≡ Ok s = ap (λ (x : PipelineCpu). tick x t) q ∙ (fitted_ok (tick k.state t) _ _ _ s e).0 in
    let z = ih (one r t) (ap (λ (o : Result PipelineCpu Refusal). (one_by o t r).state) m) in
    ((λ j. unless_refused (m j) (tick_events (q j) t) ++ z.0 j), z.1)

-- the state that one tick more leaves
keeps : (k : Kept) (t : Given) → (handed_back (result_of k t) k.state).state ≡ (keep k t).state
unfolding keep logged result_of
keeps k t = refl

pub along : (ts : List Given) (k : Kept) (r : Run) → r.state ≡ k.state
    → (events_along r (done k ts) ≡ happened k ts) × ((after r (done k ts)).state ≡ (kept k ts).state)
unfolding done happened kept events_along after
along [] k r q = (refl, q)
along (t ∷ ts) k r q = along_by (result_of k t) r k t (done (keep k t) ts) _ _ refl q
    (λ x h. along ts (keep k t) x (h ∙ keeps k t))

-- a refused tick keeps everything as it is
same_kept : (k : Kept) (t : Given) (c : Refusal) → result_of k t ≡ Err c → keep k t ≡ k
unfolding keep logged log_after result_of handed_back log_by free_by
same_kept k t c e = rw e refl

-- The ticks before one that was not refused write what demand 3's list has until then: a tick and the ticks behind it,
-- with the result o of the tick.
front_by : (o : Result PipelineCpu Refusal) (t : Given) (ds pre post : List Given) (p : Given) (k : Kept) (r : Run)
    → result_of k t ≡ o → r.state ≡ k.state → unless_refused o (t ∷ []) ++ ds ≡ p ∷ pre ++ post
    → ((x : Run) (ps : List Given) → x.state ≡ (keep k t).state → ds ≡ ps ++ post
    → happened (keep k t) ps ≡ events_along x ps) → happened k (p ∷ pre) ≡ events_along r (p ∷ pre)
unfolding unless_refused happened events_along one one_by result_of logging_tick handed_back
front_by (Err c) t ds pre post p k r f q e ih =
    let m = same_kept k t c f in
    subst (λ (x : Kept). happened x (p ∷ pre) ≡ events_along r (p ∷ pre)) m
    (ih r (p ∷ pre) (q ∙ ap (λ (x : Kept). x.state) (sym m)) e)
front_by (Ok s) t ds pre post p k r f q e ih =
    let m : tick r.state t ≡ Ok s = ap (λ (x : PipelineCpu). tick x t) q ∙ (fitted_ok (tick k.state t) _ _ _ s f).0 in
    let a : (one r t).state ≡ s = ap (λ (o : Result PipelineCpu Refusal). (one_by o t r).state) m in
    let b : (keep k t).state ≡ s
    = sym (keeps k t) ∙ ap (λ (o : Result PipelineCpu Refusal). (handed_back o k.state).state) f in
    let g : (t ≡ p) × (ds ≡ pre ++ post) = (cc, cc) in
    subst (λ (y : Given). happened k (y ∷ pre) ≡ events_along r (y ∷ pre)) g.0
    (rw (ih (one r t) pre (a ∙ sym b) g.1, f, m, q) refl)

pub along_front : (ts : List Given) (k : Kept) (r : Run) (pre post : List Given) → r.state ≡ k.state
    → done k ts ≡ pre ++ post → happened k pre ≡ events_along r pre
unfolding done happened events_along
along_front ts k r [] post q e = refl
along_front [] k r (p ∷ pre) post q e = cc
along_front (t ∷ ts) k r (p ∷ pre) post q e =
    front_by (result_of k t) t (done (keep k t) ts) pre post p k r refl q e
    (λ x ps. along_front ts (keep k t) x ps post)

-- the run that starts at a state
abbrev pub from : PipelineCpu → Run
from s = record { state = s; accepted = 0; requests = []; waits = 0 }
