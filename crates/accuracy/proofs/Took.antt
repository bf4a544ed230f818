-- What an accepted tick tells. Assumes nothing.
use Prim.Native.Nat.{◌≤◌, ℕ}
use borrow.Author.Tests.{ltb-false}
use lib.Dec.{ltb}
use mathlib.Core.Bool.{Bool, false, true}
use mathlib.Core.List.{[], ◌∷◌}
use mathlib.Core.Path.{◌≡◌, ap, refl}
use native.Mathlib.Omega.{arith}
use Rattle.std.specs.Prelude.{None, Ok, Option, Some, is_some, option_to_list}
use Rattle.std.proofs.lemmas.Bool.{not-false, or_parts}
use Rattle.isa.specs.Refusals.{is_of, ok_instruction, ok_raw}
use Rattle.isa.specs.Short.{decoded_of}
use Rattle.latch.specs.Retire.{halts}
use Rattle.pipeline.specs.Advance.{advance, next}
use Rattle.pipeline.specs.Ask.{fetch_wanted, want_special}
use Rattle.pipeline.specs.Refusals.{and_then, state_tests, verdict}
use Rattle.pipeline.specs.Retire.{retire}
use Rattle.pipeline.specs.Tick.{bad_wait, fits_offer, fits_special, given_tests, ok_offer, raw_of, same, taken, tests}
use Rattle.pipeline.specs.Tick.{tick, wait_of, wanted_tests, word_in}
use Rattle.stages.specs.Advance.{advance_by, advance_stages}
use Rattle.stages.specs.Counting.{count_retired, counted, counter_full}
use Rattle.stages.specs.Loads.{want_load}
use Rattle.stages.specs.Refusals.{faulty, out_of_bounds}
use Rattle.stages.specs.Retire.{retire_stages}
use Rattle.accuracy.proofs.Instructions.{ok_in}
use Rattle.accuracy.proofs.Passed.{Passed, passed}
use Rattle.accuracy.specs.Names.{Given, Mode, Move, Normal, PipelineCpu, Place, RawInstr, RawNormal, RawShort, Short}
use Rattle.accuracy.specs.Names.{Taken}

-- what an accepted tick tells: no refusal holds, and the state is the next one
pub record Took (s : PipelineCpu) (t : Given) (s' : PipelineCpu) : Type 0 where
  pub bounds : out_of_bounds s.stages ≡ false
  pub sound : faulty s.stages ≡ false
  pub room : counter_full s.counts ≡ false
  pub fair : ok_offer t.offer ≡ true
  pub fetch : fits_offer (fetch_wanted s) t.offer ≡ true
  pub is_load : same (want_load s.stages) (is_some t.answer) ≡ true
  pub special : fits_special (want_special s) t.special ≡ true
  pub fetch_wait : bad_wait (is_some (fetch_wanted s)) t.fetch_wait ≡ false
  pub load_wait : bad_wait (want_load s.stages) t.load_wait ≡ false
  pub is : next s (taken t) ≡ s'

pub took : (s : PipelineCpu) (t : Given) (s' : PipelineCpu) → tick s t ≡ Ok s' → Took s t s'
unfolding tick tests state_tests and_then wanted_tests given_tests Passed
took s t s' e =
    let r = passed (tests s t) (next s (taken t)) s' e in
    let p = r.0 in
    let w = or_parts (bad_wait (is_some (fetch_wanted s)) t.fetch_wait) _ p.1.1.1.1.1.1.1.0 in
    record {
      bounds = p.0;
      sound = p.1.0;
      room = p.1.1.0;
      fair = not-false _ p.1.1.1.0;
      fetch = not-false _ p.1.1.1.1.0;
      is_load = not-false _ p.1.1.1.1.1.0;
      special = not-false _ p.1.1.1.1.1.1.0;
      fetch_wait = w.0;
      load_wait = w.1;
      is = r.1;
    }

-- a tick that no refusal holds of is accepted
pub takes : (s : PipelineCpu) (t : Given) (s' : PipelineCpu) → Took s t s' → tick s t ≡ Ok s'
unfolding tick tests state_tests and_then wanted_tests given_tests verdict
takes s t s' k =
    rw (k.bounds, k.sound, k.room, k.fair, k.fetch, k.is_load, k.special, k.fetch_wait, k.load_wait) (ap Ok k.is)

-- 24 never arises where no wait is told
pub none_fits : (b : Bool) → bad_wait b 0 ≡ false
unfolding bad_wait
none_fits true = refl
none_fits false = refl

-- no wait is told where nothing is wanted, and none is above 1,000
wait_none : (b : Bool) (n : ℕ) → b ≡ false → bad_wait b n ≡ false → n ≡ 0
unfolding bad_wait
wait_none b n f e = let h = ltb-false 0 n (or_parts (ltb 1000 n) _ (rw f at e)).1 in omega arith

wait_most : (b : Bool) (n : ℕ) → bad_wait b n ≡ false → n ≤ 1000
unfolding bad_wait
wait_most b n e = ltb-false 1000 n (or_parts (ltb 1000 n) _ e).0

-- so an accepted tick that wants nothing tells none, and no accepted tick tells more than 2,000 together
pub waits_none : (s : PipelineCpu) (t : Given) (s' : PipelineCpu) → Took s t s' → fetch_wanted s ≡ None
    → want_load s.stages ≡ false → wait_of t ≡ 0
unfolding wait_of
waits_none s t s' k a b =
    let f = wait_none (is_some (fetch_wanted s)) t.fetch_wait (ap is_some a) k.fetch_wait in
    let l = wait_none (want_load s.stages) t.load_wait b k.load_wait in
    omega arith

pub waits_told : (s : PipelineCpu) (t : Given) (s' : PipelineCpu) → Took s t s' → wait_of t ≤ 2000
unfolding wait_of
waits_told s t s' k =
    let f = wait_most (is_some (fetch_wanted s)) t.fetch_wait k.fetch_wait in
    let l = wait_most (want_load s.stages) t.load_wait k.load_wait in
    omega arith

-- what a fetch brings of its mode, with registers below 32
raw_in : (i : RawInstr) (m : Mode) → is_of m i ≡ true → ok_raw i ≡ true → ok_in (decoded_of i) m ≡ true
unfolding is_of ok_raw ok_instruction ok_in decoded_of
raw_in (RawNormal i) Normal e h = h
raw_in (RawNormal i) Short e h = cc
raw_in (RawShort i) Normal e h = cc
raw_in (RawShort i) Short e h = refl

-- an offer or an answer that is there
pub offer_is : (o : Option RawInstr) (p : Place) → fits_offer (Some p) o ≡ true → o ≡ Some (raw_of o)
unfolding fits_offer raw_of
offer_is None p e = cc
offer_is (Some i) p e = refl

pub offer_ok : (o : Option RawInstr) (p : Place) → fits_offer (Some p) o ≡ true → ok_offer o ≡ true
    → ok_in (decoded_of (raw_of o)) p.mode ≡ true
unfolding fits_offer ok_offer raw_of
offer_ok None p e h = cc
offer_ok (Some i) p e h = raw_in i p.mode e h

pub answer_is : (o : Option ℕ) (b : Bool) → same b (is_some o) ≡ true → b ≡ true → option_to_list o ≡ word_in o ∷ []
unfolding word_in same
answer_is None true e z = cc
answer_is None false e z = cc
answer_is (Some v) b e z = refl

pub answer_none : (o : Option ℕ) (b : Bool) → same b (is_some o) ≡ true → b ≡ false → option_to_list o ≡ []
unfolding same
answer_none None b e z = refl
answer_none (Some v) true e z = cc
answer_none (Some v) false e z = cc

pub retire_off : (s : PipelineCpu) → halts s.stages.mem_wb ≡ true → (retire s).stages.running ≡ false
unfolding retire retire_stages count_retired
retire_off s e = rw e

-- what every move leaves alone
pub advance_running : (m : Move) (s : PipelineCpu) (inp : Taken)
    → (advance m s inp).stages.running ≡ s.stages.running
unfolding advance advance_stages advance_by
advance_running m s inp = refl

pub advance_retired : (m : Move) (s : PipelineCpu) (inp : Taken) → (advance m s inp).counts.instructions_executed ≡
    s.counts.instructions_executed
unfolding advance counted
advance_retired m s inp = refl

pub advance_regs : (m : Move) (s : PipelineCpu) (inp : Taken) → (advance m s inp).reg ≡ s.reg
unfolding advance
advance_regs m s inp = refl

pub advance_retire_pc : (m : Move) (s : PipelineCpu) (inp : Taken)
    → (advance m s inp).stages.retire_at.pc ≡ s.stages.retire_at.pc
unfolding advance advance_stages advance_by
advance_retire_pc m s inp = refl

pub advance_retire_mode : (m : Move) (s : PipelineCpu) (inp : Taken) → (advance m s inp).stages.retire_at.mode ≡
    s.stages.retire_at.mode
unfolding advance advance_stages advance_by
advance_retire_mode m s inp = refl

-- and what every move sets: the ticks to wait for the memory are the waits told
pub advance_wait : (m : Move) (s : PipelineCpu) (inp : Taken) → (advance m s inp).stages.wait_left ≡ inp.wait
unfolding advance advance_stages advance_by
advance_wait m s inp = refl
