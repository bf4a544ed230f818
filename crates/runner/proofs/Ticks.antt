-- A tick that is given what it asks for, by what the functions that it calls leave. Assumes nothing.
use Prim.Native.Nat.{ℕ}
use mathlib.Core.Bool.{Bool, cond, false, true}
use mathlib.Core.List.{List}
use mathlib.Core.Path.{◌∙◌, ◌≡◌, ap, refl}
use Rattle.std.specs.Bool.{then_some}
use Rattle.std.specs.Option.{option_map_or}
use Rattle.std.specs.Prelude.{None, Option, Some}
use Rattle.isa.specs.Inquiries.{look_up}
use Rattle.isa.specs.Machine.{Source}
use Rattle.latch.specs.Memory.{request_in, requests}
use Rattle.pipeline.proofs.Running.{plan_next, plan_wants, wait_next, wait_wants}
use Rattle.pipeline.specs.Advance.{next}
use Rattle.pipeline.specs.Ask.{fetch_at, fetch_wanted, origins_in, want_fetch, want_special, wanted}
use Rattle.pipeline.specs.Inner.{Retired}
use Rattle.pipeline.specs.Tick.{raw_of, taken, wait_of, word_in}
use Rattle.pipeline.specs.Turn.{reply}
use Rattle.stages.specs.Counting.{count_retired, counted, unless_full}
use Rattle.stages.specs.Loads.{want_load}
use Rattle.stages.specs.Move.{waits_on}
use Rattle.stages.specs.Plans.{advance_plan, plan_fetches, plan_of, waited}
use Rattle.runner.specs.Names.{Counters, Nop, PipelineCpu, Place, Plan, RawInstr, RawNormal, Stages, keep_waiting}

-- the answer, where it is taken in by a load only
word_is : (b : Bool) (v : ℕ) → cond b v 0 ≡ word_in (cond b (Some v) None)
unfolding word_in
word_is true v = refl
word_is false v = refl

-- the instruction offered, by the place that is fetched from
raw_is : (src : Source) (b : Bool) (p : Place) (g : Option Place) (i : RawInstr) → g ≡ then_some b p
    → i ≡ option_map_or (λ q. src.raw q.pc q.mode) g (RawNormal Nop)
    → i ≡ raw_of (cond b (Some (src.raw p.pc p.mode)) None)
unfolding raw_of
raw_is src true p g i e h = h ∙ rw e
raw_is src false p g i e h = h ∙ rw e

-- v: the answer at hand, w: the one taken in
module _ (src : Source) (s : PipelineCpu) (v w : ℕ) (ew : w ≡ cond (want_load s.stages) v 0) where
  -- what a tick takes in, by what it wants
  taken_is : (g : Option Place) (q : Option ℕ) (i : RawInstr) (x : Option (Option ℕ)) → g ≡ fetch_wanted s
      → q ≡ want_special s → i ≡ option_map_or (λ p. src.raw p.pc p.mode) g (RawNormal Nop)
      → x ≡ look_up src.table q → record { answer = w; raw = i; special = x; wait = 0 } ≡ taken (reply src v s)
  unfolding taken reply fetch_wanted wait_of
  taken_is g q i x eg eq h ex =
      rw (ex, eq, raw_is src (want_fetch s) (fetch_at s) g i eg h, ew ∙ word_is (want_load s.stages) v)

  -- l and rs: what retirement leaves of the state
  module _ (l : Stages) (rs : List ℕ) (b : Retired s l rs) (a : Stages) (c : Counters) where
    pub tick_waits : waits_on l ≡ true
        → a ≡ waited l (record { answer = w; raw = RawNormal Nop; special = None; wait = 0 })
        → c ≡ unless_full s.counts (counted keep_waiting (count_retired l.mem_wb.valid s.counts))
        → record { reg = rs; stages = a; counts = c } ≡ next s (taken (reply src v s))
    unfolding wanted look_up
    tick_waits y ea ec =
        let k = wait_wants s l rs b y (request_in (requests l.ex_mem)) refl in
        wait_next s l rs b y a c _ _ ea ec
        (taken_is None None (RawNormal Nop) None (ap (λ x. x.fetch) k) (ap (λ x. x.special) k) refl refl)

    pub tick_moves : waits_on l ≡ false → (p : Plan) (f : Bool) (g : Option Place) (i : RawInstr)
        (x : Option (Option ℕ)) → p ≡ plan_of l rs → f ≡ plan_fetches l p → g ≡ then_some f p.place
        → i ≡ option_map_or (λ q. src.raw q.pc q.mode) g (RawNormal Nop) → x ≡ look_up src.table p.inquiry
        → a ≡ advance_plan p l rs (record { answer = w; raw = i; special = x; wait = 0 })
        → c ≡ unless_full s.counts (counted p.step (count_retired l.mem_wb.valid s.counts))
        → record { reg = rs; stages = a; counts = c } ≡ next s (taken (reply src v s))
    unfolding wanted
    tick_moves y p f g i x ep ef eg h ex ea ec =
        let k = plan_wants s l rs b y p ep f g (request_in (requests l.ex_mem)) (origins_in p.step l) ef eg refl refl in
        plan_next s l rs b y p ep a c _ _ ea ec
        (taken_is g p.inquiry i x (ap (λ z. z.fetch) k) (ap (λ z. z.special) k) h ex)
