-- A fair program's tick is taken, and leaves a state in bounds. Assumes nothing.
use Prim.Native.Nat.{ℕ}
use mathlib.Core.Bool.{Bool, cond, false, true}
use mathlib.Core.Path.{◌≡◌, refl}
use Rattle.std.specs.Prelude.{Option, None, Some, Ok, is_some}
use Rattle.std.specs.Bool.{then_some}
use Rattle.accuracy.proofs.Bounds.{tick_in}
use Rattle.accuracy.proofs.Took.{none_fits, takes}
use Rattle.isa.specs.Inquiries.{look_up}
use Rattle.isa.specs.Machine.{Source}
use Rattle.isa.specs.Refusals.{is_of, ok_raw}
use Rattle.pipeline.specs.Advance.{next}
use Rattle.pipeline.specs.Ask.{fetch_at, fetch_wanted, want_fetch, want_special}
use Rattle.pipeline.specs.Tick.{fits_offer, fits_special, ok_offer, same, taken, tick}
use Rattle.pipeline.specs.Turn.{reply}
use Rattle.sheet.proofs.Fair.{Fair}
use Rattle.stages.specs.Counting.{counter_full}
use Rattle.stages.specs.Loads.{want_load}
use Rattle.stages.specs.Refusals.{faulty, out_of_bounds}
use Rattle.runs.specs.Names.{PipelineCpu, Place, RawInstr}

-- refusal 1 does not arise
ok_reply : (b : Bool) (i : RawInstr) → ok_raw i ≡ true → ok_offer (cond b (Some i) None) ≡ true
unfolding ok_offer
ok_reply true i e = e
ok_reply false i e = refl

-- refusal 3 does not arise
fit_offer : (b : Bool) (p : Place) (i : RawInstr) → is_of p.mode i ≡ true
    → fits_offer (then_some b p) (cond b (Some i) None) ≡ true
unfolding fits_offer
fit_offer true p i e = e
fit_offer false p i e = refl

-- refusal 4 does not arise
fit_answer : (b : Bool) (v : ℕ) → same b (is_some (cond b (Some v) None)) ≡ true
unfolding same
fit_answer true v = refl
fit_answer false v = refl

-- refusal 10 does not arise
fit_special : (t : ℕ → Option (Option ℕ)) (q : Option ℕ) → ((n : ℕ) → is_some (t n) ≡ true)
    → fits_special q (look_up t q) ≡ true
unfolding fits_special same look_up
fit_special t None h = refl
fit_special t (Some n) h = h n

-- a state in bounds, not at 12 and with room in its counters takes the tick that a fair program answers
pub goes_reply : (src : Source) → Fair src
    → (s : PipelineCpu) (v : ℕ) → out_of_bounds s.stages ≡ false → faulty s.stages ≡ false → counter_full
    s.counts ≡ false
    → tick s (reply src v s) ≡ Ok (next s (taken (reply src v s)))
unfolding reply fetch_wanted
goes_reply src f s v a b c = takes s (reply src v s) (next s (taken (reply src v s))) (record {
  bounds = a;
  sound = b;
  room = c;
  fair = ok_reply (want_fetch s) _ (f.bounds (fetch_at s).pc (fetch_at s).mode);
  fetch = fit_offer (want_fetch s) (fetch_at s) _ (f.kind (fetch_at s).pc (fetch_at s).mode);
  is_load = fit_answer (want_load s.stages) v;
  special = fit_special src.table (want_special s) f.said;
  fetch_wait = none_fits (is_some (fetch_wanted s));
  load_wait = none_fits (want_load s.stages);
  is = refl;
})

-- the state after that tick is in bounds too
pub stays_in : (src : Source) → Fair src
    → (s : PipelineCpu) (v : ℕ) → out_of_bounds s.stages ≡ false → faulty s.stages ≡ false → counter_full
    s.counts ≡ false
    → out_of_bounds (next s (taken (reply src v s))).stages ≡ false
stays_in src f s v a b c = tick_in s (reply src v s) _ (goes_reply src f s v a b c)
