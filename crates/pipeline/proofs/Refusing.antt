-- The refusals that the code computes are those of the definitions' tests. Assumes nothing.
use mathlib.Core.Bool.{Bool, ◌||◌, cond, false, not, true}
use mathlib.Core.Path.{◌∙◌, ◌≡◌, ap, refl, sym}
use Rattle.std.specs.Prelude.{ℕ, Err, Ok, Option, Result, is_some, ⊤}
use Rattle.stages.specs.Counting.{counter_full}
use Rattle.stages.specs.Refusals.{faulty, faulty_alone, out_of_bounds}
use Rattle.pipeline.specs.Advance.{next}
use Rattle.pipeline.specs.Ask.{ask, wanted}
use Rattle.pipeline.specs.Inner.{tick_on}
use Rattle.pipeline.specs.Names.{BadAnswer, BadSpecial, BadWait, CounterFull, Faulty, Given, OutOfBounds, PipelineCpu}
use Rattle.pipeline.specs.Names.{Place, Refusal, Wanted}
use Rattle.pipeline.specs.Parts.{retired}
use Rattle.pipeline.specs.Refusals.{Tests, and_then, checked, pass, state_tests, test, verdict}
use Rattle.pipeline.specs.Retire.{retire}
use Rattle.pipeline.specs.Tick.{bad_wait, fits_offer, fits_special, given_tests, ok_offer, same, taken, tests, tick}
use Rattle.pipeline.specs.Tick.{wanted_tests}

-- Any list of tests c, before tests d: one that holds refuses, whatever stands behind; none leaves it to d.
pub tests_refuse : {A : Type 0} (c d : Tests) (x : A) (r : Refusal) → checked c ≡ Err r
    → verdict (and_then c d) x ≡ Err r
unfolding verdict and_then
tests_refuse pass d x r e = cc
tests_refuse (test true n c) d x r e = cc
tests_refuse (test false n c) d x r e = tests_refuse c d x r e

pub tests_pass : {A : Type 0} (c d : Tests) (x : A) → checked c ≡ Ok tt → verdict (and_then c d) x ≡ verdict d x
unfolding verdict and_then
tests_pass pass d x e = refl
tests_pass (test true n c) d x e = cc
tests_pass (test false n c) d x e = tests_pass c d x e

-- the same with no tests behind them
and_pass : (c : Tests) → and_then c pass ≡ c
unfolding and_then
and_pass pass = refl
and_pass (test b n c) = ap (test b n) (and_pass c)

pub all_refuse : {A : Type 0} (c : Tests) (x : A) (r : Refusal) → checked c ≡ Err r → verdict c x ≡ Err r
all_refuse c x r e = ap (λ (d : Tests). verdict d x) (sym (and_pass c)) ∙ tests_refuse c pass x r e

pub all_pass : {A : Type 0} (c : Tests) (x : A) → checked c ≡ Ok tt → verdict c x ≡ Ok x
unfolding verdict
all_pass c x e = ap (λ (d : Tests). verdict d x) (sym (and_pass c)) ∙ tests_pass c pass x e

-- 4, where 1 and 3 do not arise; the edit refusal_10_before_4 is refused here
pub given_4 : (fetch : Option Place) (load : Bool) (q : Option ℕ) (t : Given) (k f b : Bool) → k ≡ ok_offer t.offer
    → not k ≡ false → f ≡ fits_offer fetch t.offer → not f ≡ false → b ≡ same load (is_some t.answer) → not b ≡ true
    → Err BadAnswer ≡ checked (given_tests fetch load q t)
unfolding given_tests verdict
given_4 fetch load q t k f b ek nk ef nf eb e = rw (sym ek, nk, sym ef, nf, sym eb, e)

-- 10, where 4 does not arise either, and else what is told of the waits
pub given_10 : (fetch : Option Place) (load : Bool) (q : Option ℕ) (t : Given) (k f b d : Bool) → k ≡ ok_offer t.offer
    → not k ≡ false → f ≡ fits_offer fetch t.offer → not f ≡ false → b ≡ same load (is_some t.answer) → not b ≡ false
    → d ≡ fits_special q t.special
    → cond (not d) (Err BadSpecial)
    (checked (test (bad_wait (is_some fetch) t.fetch_wait || bad_wait load t.load_wait) BadWait pass))
    ≡ checked (given_tests fetch load q t)
unfolding given_tests verdict
given_10 fetch load q t k f b d ek nk ef nf eb e ed = rw (sym ek, nk, sym ef, nf, sym eb, e, sym ed)

-- where 11, 12 and 13 do not apply no counter is full
pub state_room : (f : Bool) (s : PipelineCpu) → checked (state_tests f s) ≡ Ok tt → counter_full s.counts ≡ false
unfolding state_tests verdict
state_room f s e = room_by (out_of_bounds s.stages) f (counter_full s.counts) e where
  ok : Result ⊤ Refusal
  ok = Ok tt

  room_by : (a b c : Bool)
      → cond a (Err OutOfBounds) (cond b (Err Faulty) (cond c (Err CounterFull) (Ok tt))) ≡ ok → c ≡ false
  room_by true b c e = cc
  room_by false true c e = cc
  room_by false false true e = cc
  room_by false false false e = refl

-- the same of the tests of what a tick is given, where they are g
module _ (s : PipelineCpu) (t : Given) (g : Tests) (eg : g ≡ wanted_tests s t) where
  pub on_refuses : (r : Refusal) → checked g ≡ Err r → Err r ≡ tick_on s t
  unfolding tick_on
  on_refuses r e = sym (all_refuse _ _ r (ap checked (sym eg) ∙ e))

  pub on_passes : (n : PipelineCpu) → checked g ≡ Ok tt → n ≡ next s (taken t) → Ok n ≡ tick_on s t
  unfolding tick_on
  on_passes n e en = ap Ok en ∙ sym (all_pass _ _ (ap checked (sym eg) ∙ e))

-- and of the tests of a state
module _ (s : PipelineCpu) (r : Refusal) (e : checked (state_tests (faulty s.stages) s) ≡ Err r) where
  pub tick_refuses : (t : Given) → Err r ≡ tick s t
  unfolding tick tests
  tick_refuses t = sym (tests_refuse _ _ _ r e)

  pub ask_refuses : Err r ≡ ask s
  unfolding ask
  ask_refuses = sym (all_refuse _ _ r e)

module _ (s : PipelineCpu) (e : checked (state_tests (faulty s.stages) s) ≡ Ok tt) where
  pub tick_passes : (t : Given) → tick_on s t ≡ tick s t
  unfolding tick tests tick_on
  tick_passes t = sym (tests_pass _ _ _ e)

  pub ask_passes : (w : Wanted) → w ≡ wanted s → Ok w ≡ ask s
  unfolding ask
  ask_passes w ew = ap Ok ew ∙ sym (all_pass _ _ e)

-- of those of retirement by itself; f: whether 12 applies to it
module _ (s : PipelineCpu) (f : Bool) (ef : f ≡ faulty_alone s.stages) where
  pub retire_refuses : (r : Refusal) → checked (state_tests f s) ≡ Err r → Err r ≡ retired s
  unfolding retired
  retire_refuses r e = sym (all_refuse _ _ r (ap (λ (b : Bool). checked (state_tests b s)) (sym ef) ∙ e))

  pub retire_passes : (n : PipelineCpu) → checked (state_tests f s) ≡ Ok tt → n ≡ retire s → Ok n ≡ retired s
  unfolding retired
  retire_passes n e en = ap Ok en ∙ sym (all_pass _ _ (ap (λ (b : Bool). checked (state_tests b s)) (sym ef) ∙ e))
