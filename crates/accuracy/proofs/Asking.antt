-- Asking is right. Assumes nothing.
use Prim.Native.Nat.{ℕ}
use mathlib.Core.Bool.{Bool, ◌&&◌, cond, false, true}
use mathlib.Core.List.{List, [], ◌++◌, ◌∷◌}
use mathlib.Core.Path.{◌∙◌, ◌≡◌, ap, refl, sym}
use Rattle.std.specs.Bool.{then_some}
use Rattle.std.specs.Prelude.{Err, None, Ok, Option, Result, Some, is_some, option_map, option_to_list}
use Rattle.isa.specs.Machine.{request_of}
use Rattle.isa.specs.Operands.{bare, ok_dest, ok_operands, operands_n, plain}
use Rattle.isa.specs.Refusals.{is_of, ok_instruction, ok_raw}
use Rattle.isa.specs.Short.{decoded_of}
use Rattle.latch.specs.Memory.{request_in, requests}
use Rattle.pipeline.specs.Advance.{next}
use Rattle.pipeline.specs.Ask.{ask, asks, fetch_at, fetch_wanted, want_fetch, want_origins, wanted}
use Rattle.pipeline.specs.Refusals.{Tests, and_then, pass, state_tests, test, verdict}
use Rattle.pipeline.specs.Tick.{bad_wait, fits_offer, fits_special, ok_offer, same, taken, tests, tick}
use Rattle.stages.specs.Advance.{awake}
use Rattle.stages.specs.Counting.{counter_full}
use Rattle.stages.specs.Loads.{loads_in, want_load}
use Rattle.stages.specs.Refusals.{faulty, out_of_bounds}
use Rattle.stages.specs.Retire.{retire_stages}
use Rattle.accuracy.proofs.Passed.{Passed, passed}
use Rattle.accuracy.proofs.Shows.{hides, shows}
use Rattle.accuracy.proofs.Took.{none_fits, takes, took}
use Rattle.accuracy.specs.Accuracy.{Run, offered, offered_by, one, one_by, said, said_by}
use Rattle.accuracy.specs.Asking.{Asking, Gives, is_load}
use Rattle.accuracy.specs.Names.{Given, Mode, Nop, Normal, Origins, PipelineCpu, Place, RawInstr, RawNormal, RawShort}
use Rattle.accuracy.specs.Names.{Refusal, Request, Short, Stages, Wanted}

-- a request is one at most, and a load exactly where one is wanted
module _ (awake valid load store : Bool) (a w v : ℕ) where
  abbrev list : List Request
  list = cond awake (cond valid (request_of load store a w v) []) []

-- the request is a load where EX/MEM loads
is_load_lem : (awake valid load store : Bool) (a w v : ℕ)
    → is_load (request_in (list awake valid load store a w v)) ≡ (awake && (valid && load))
unfolding is_load request_in request_of
is_load_lem false b c d a w v = refl
is_load_lem true false c d a w v = refl
is_load_lem true true true d a w v = refl
is_load_lem true true false true a w v = refl
is_load_lem true true false false a w v = refl

-- the request as a list is the list
listed_is : (awake valid load store : Bool) (a w v : ℕ)
    → option_to_list (request_in (list awake valid load store a w v)) ≡ list awake valid load store a w v
unfolding request_in request_of
listed_is false b c d a w v = refl
listed_is true false c d a w v = refl
listed_is true true true d a w v = refl
listed_is true true false true a w v = refl
listed_is true true false false a w v = refl

-- a load is wanted where the tick wants one
wants_load_lem : (l : Stages) → is_load (request_in (asks l)) ≡ want_load l
unfolding asks requests want_load loads_in
wants_load_lem l = is_load_lem (awake l) (retire_stages l).ex_mem.valid _ _ _ _ _

-- what is wanted as a list is what the tick asks for
wants_request : (l : Stages) → option_to_list (request_in (asks l)) ≡ asks l
unfolding asks requests
wants_request l = listed_is (awake l) (retire_stages l).ex_mem.valid _ _ _ _ _

-- an answer is given exactly where a load is wanted, said both ways
same_is : (b c : Bool) → same b c ≡ true → c ≡ b
unfolding same
same_is true true e = refl
same_is true false e = cc
same_is false true e = cc
same_is false false e = refl

is_same : (b c : Bool) → c ≡ b → same b c ≡ true
unfolding same
is_same true c e = e
is_same false c e = rw e

-- where asking is not refused, 11, 12 and 13 do not arise
record Standing (s : PipelineCpu) (w : Wanted) : Type 0 where
  bounds : out_of_bounds s.stages ≡ false
  sound : faulty s.stages ≡ false
  room : counter_full s.counts ≡ false
  is : wanted s ≡ w

stands : (s : PipelineCpu) (w : Wanted) → ask s ≡ Ok w → Standing s w
unfolding ask state_tests Passed
stands s w e =
    let r = passed (state_tests (faulty s.stages) s) (wanted s) w e in
    record { bounds = r.0.0; sound = r.0.1.0; room = r.0.1.1.0; is = r.1 }

-- a tick that gives what is wanted is accepted
accepts : (s : PipelineCpu) (w : Wanted) (t : Given) → ask s ≡ Ok w → Gives w t
    → tick s t ≡ Ok (next s (taken t))
unfolding wanted fits_special
accepts s w t e g =
    let k = stands s w e in
    takes s t (next s (taken t)) (record {
      bounds = k.bounds;
      sound = k.sound;
      room = k.room;
      fair = g.fair;
      fetch = ap (λ (x : Wanted). fits_offer x.fetch t.offer) k.is ∙ g.offer;
      is_load = is_same _ _
          (g.answer ∙ ap (λ (x : Wanted). is_load x.request) (sym k.is) ∙ wants_load_lem s.stages);
      special = is_same _ _ (g.special ∙ ap (λ (x : Wanted). is_some x.special) (sym k.is));
      fetch_wait = ap (λ (x : Wanted). bad_wait (is_some x.fetch) t.fetch_wait) k.is ∙ g.fetch_wait;
      load_wait = ap (λ (b : Bool). bad_wait b t.load_wait)
          (sym (wants_load_lem s.stages) ∙ ap (λ (x : Wanted). is_load x.request) k.is) ∙ g.load_wait;
      is = refl;
    })

-- an accepted tick gives what is wanted
gives : (s s' : PipelineCpu) (w : Wanted) (t : Given) → ask s ≡ Ok w → tick s t ≡ Ok s' → Gives w t
unfolding wanted fits_special
gives s s' w t e h =
    let k = stands s w e in
    let x = took s t s' h in
    record {
      offer = ap (λ (x : Wanted). fits_offer x.fetch t.offer) (sym k.is) ∙ x.fetch;
      fair = x.fair;
      answer = same_is _ _ x.is_load ∙ sym (wants_load_lem s.stages)
          ∙ ap (λ (x : Wanted). is_load x.request) k.is;
      special = same_is _ _ x.special ∙ ap (λ (x : Wanted). is_some x.special) k.is;
      fetch_wait = ap (λ (x : Wanted). bad_wait (is_some x.fetch) t.fetch_wait) (sym k.is) ∙ x.fetch_wait;
      load_wait = ap (λ (b : Bool). bad_wait b t.load_wait)
          (ap (λ (x : Wanted). is_load x.request) (sym k.is) ∙ wants_load_lem s.stages) ∙ x.load_wait;
    }

-- a list's requests grow by the one that is wanted
grow : (r : Run) (w : Wanted) (t : Given) → ask r.state ≡ Ok w → Gives w t
    → (one r t).requests ≡ r.requests ++ option_to_list w.request
unfolding one one_by wanted
grow r w t e g =
    let k = stands r.state w e in
    ap (λ (o : Result PipelineCpu Refusal). (one_by o t r).requests) (accepts r.state w t e g)
    ∙ ap (λ (q : List Request). r.requests ++ q)
    (sym (wants_request r.state.stages) ∙ ap (λ (x : Wanted). option_to_list x.request) k.is)

-- the place that asking names
place_of_lem : (b : Bool) (q p : Place) → then_some b q ≡ Some p → q ≡ p
place_of_lem true q p e = cc
place_of_lem false q p e = cc

-- an instruction counts as offered for the place that is wanted
offers : (r : Run) (w : Wanted) (t : Given) (ts : List Given) (p : Place) (i : RawInstr)
    → ask r.state ≡ Ok w → Gives w t → w.fetch ≡ Some p → t.offer ≡ Some i
    → offered r (t ∷ ts) ≡ (p, decoded_of i) ∷ offered (one r t) ts
unfolding offered offered_by wanted fetch_wanted
offers r w t ts p i e g f h =
    let k = stands r.state w e in
    rw (
      accepts r.state w t e g,
      h,
      place_of_lem (want_fetch r.state) (fetch_at r.state) p (ap (λ (x : Wanted). x.fetch) k.is ∙ f),
    )

-- what is said counts for the special register that is asked for
says : (r : Run) (w : Wanted) (t : Given) (ts : List Given) (n : ℕ) → ask r.state ≡ Ok w → Gives w t
    → w.special ≡ Some n → said r (t ∷ ts) ≡ (n, t.special) ∷ said (one r t) ts
unfolding said said_by wanted
says r w t ts n e g f = rw (accepts r.state w t e g, ap (λ (x : Wanted). x.special) (stands r.state w e).is ∙ f)

-- the origins that asking names
shown : (s : PipelineCpu) (w : Wanted) → ask s ≡ Ok w → want_origins s ≡ w.origins
unfolding wanted
shown s w e = ap (λ (x : Wanted). x.origins) (stands s w e).is

-- where the first tests refuse, so do they with others behind them
refuses_by : {A B : Type 0} (d e : Tests) (x : A) (y : B) (c : Refusal) → verdict d x ≡ Err c
    → verdict (and_then d e) y ≡ Err c
unfolding verdict and_then
refuses_by pass e x y c h = cc
refuses_by (test true r d) e x y c h = let z : r ≡ c = cc in ap Err z
refuses_by (test false r d) e x y c h = refuses_by d e x y c h

-- where asking is refused, so is the tick
refuses : (s : PipelineCpu) (c : Refusal) (t : Given) → ask s ≡ Err c → tick s t ≡ Err c
unfolding ask tick tests
refuses s c t e = refuses_by (state_tests (faulty s.stages) s) _ (wanted s) (next s (taken t)) c e

-- a NOP or a short instruction where a fetch is wanted
nop_of : Mode → RawInstr
nop_of Normal = RawNormal Nop
nop_of Short = RawShort 0

nop_fits : (m : Mode) → (is_of m (nop_of m) ≡ true) × (ok_raw (nop_of m) ≡ true)
unfolding nop_of is_of ok_raw ok_instruction operands_n ok_operands bare plain ok_dest
nop_fits Normal = (refl, refl)
nop_fits Short = (refl, refl)

offer_for : Option Place → Option RawInstr
offer_for q = option_map (λ p. nop_of p.mode) q

-- a word where a load is wanted
answer_for_lem : Option Request → Option ℕ
answer_for_lem q = then_some (is_load q) 0

-- no such register, where one is asked for
special_for : Option ℕ → Option (Option ℕ)
special_for q = option_map (λ n. None) q

-- these give what is wanted
given_for : (f : Option Place) (q : Option Request) (i : Option ℕ) (o : Option Origins)
    → Gives (record { fetch = f; request = q; special = i; origins = o })
    (record {
      offer = offer_for f;
      answer = answer_for_lem q;
      special = special_for i;
      fetch_wait = 0;
      load_wait = 0;
    })
unfolding offer_for answer_for_lem special_for fits_offer ok_offer
given_for f q i o = record {
  offer = fit f;
  fair = coded f;
  answer = ans (is_load q);
  special = spe i;
  fetch_wait = none_fits (is_some f);
  load_wait = none_fits (is_load q);
}
  where
    fit : (f : Option Place) → fits_offer f (offer_for f) ≡ true
    fit None = refl
    fit (Some p) = (nop_fits p.mode).0

    coded : (f : Option Place) → ok_offer (offer_for f) ≡ true
    coded None = refl
    coded (Some p) = (nop_fits p.mode).1

    ans : (b : Bool) → is_some {T = ℕ} (then_some b 0) ≡ b
    ans true = refl
    ans false = refl

    spe : (i : Option ℕ) → is_some (special_for i) ≡ is_some i
    spe None = refl
    spe (Some n) = refl

-- all of it
pub asking : Asking
asking = record {
  given = λ w. (
    record {
      offer = offer_for w.fetch;
      answer = answer_for_lem w.request;
      special = special_for w.special;
      fetch_wait = 0;
      load_wait = 0;
    },
    given_for w.fetch w.request w.special w.origins,
  );
  accepts = accepts;
  only = gives;
  offers = offers;
  says = says;
  requests = grow;
  shows = λ s s' w t o e h f. shows s s' t o (shown s w e ∙ f) h;
  hides = λ s s' w t e h f. hides s s' t (shown s w e ∙ f) h;
  refuses = refuses;
}
