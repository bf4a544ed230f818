-- A tick that moves, by the stages and registers that retirement leaves. Assumes nothing.
use Prim.Native.Nat.{ℕ}
use mathlib.Core.Bool.{Bool, ◌&&◌, cond, false, true}
use mathlib.Core.List.{List}
use mathlib.Core.Path.{◌∙◌, ◌≡◌, refl, sym}
use Rattle.isa.proofs.Bools.{split}
use Rattle.isa.specs.Inquiries.{fill, mfsr_with}
use Rattle.std.specs.Bool.{then_some}
use Rattle.std.specs.Prelude.{None, Option, is_some}
use Rattle.isa.specs.Waits.{predict}
use Rattle.latch.specs.Decode.{decode_predicted, id_ex_of}
use Rattle.latch.specs.Execute.{ex_mem_of}
use Rattle.latch.specs.Latches.{empty_ex_mem}
use Rattle.latch.specs.Memory.{request_in, requests}
use Rattle.stages.specs.Advance.{advance_by, advance_stages, id_ex_after, if_id_after, place_after}
use Rattle.stages.specs.Counting.{count_retired, counted, stalls, unless_full}
use Rattle.stages.specs.Execute.{effect_for, executed, executed_by, inquiry_by, inquiry_of}
use Rattle.stages.specs.Fetch.{fetches, next_id_ex, predicted}
use Rattle.stages.specs.Loads.{loads_in, want_load}
use Rattle.stages.specs.Move.{free_move, inquiry_in, is_wait, move, next_ex_mem, waits_on}
use Rattle.stages.specs.Plans.{advance_plan, front_of, id_ex_from, open_ex_mem, plan_fetches, plan_of, said_ex_mem}
use Rattle.stages.specs.Plans.{waited}
use Rattle.stages.specs.Retire.{retire_stages}
use Rattle.pipeline.specs.Advance.{advance, move_of, next}
use Rattle.pipeline.specs.Ask.{asks, fetch_at, fetch_wanted, origins_in, want_fetch, want_origins, want_special}
use Rattle.pipeline.specs.Ask.{wanted}
use Rattle.pipeline.specs.Inner.{Retired}
use Rattle.pipeline.specs.Names.{Counters, Effect, Given, IdEx, Move, Origins, PipelineCpu, Place, Plan, Request}
use Rattle.pipeline.specs.Names.{Stages, Taken}
use Rattle.pipeline.specs.Names.{keep_waiting}
use Rattle.pipeline.specs.Retire.{retire}
use Rattle.pipeline.specs.Tick.{given_tests, wanted_tests}

id_ex_next : (l : Stages) → (rs : List ℕ) → id_ex_from l.if_id (front_of l.if_id) rs ≡ next_id_ex l rs
unfolding id_ex_from front_of next_id_ex decode_predicted id_ex_of predicted predict
id_ex_next l rs = split l.if_id.valid (λ e. rw e) (λ e. rw e)

-- the open EX/MEM with what is said; w: a wait, v: ID/EX is valid
fills_in : (b : Bool) (d : IdEx) (x y : Effect) → cond b (ex_mem_of d x) (ex_mem_of d y) ≡ ex_mem_of d (cond b x y)
fills_in true d x y = refl
fills_in false d x y = refl

fills_by : (w v : Bool) (d : IdEx) (e : Effect) (c : Option (Option ℕ))
    → cond (is_some (cond w None (cond v e.inquiry None))) (ex_mem_of d (mfsr_with c))
    (cond w empty_ex_mem (cond v (ex_mem_of d e) empty_ex_mem))
    ≡ cond w empty_ex_mem (cond v (ex_mem_of d (fill c e)) empty_ex_mem)
unfolding fill
fills_by true v d e c = refl
fills_by false true d e c = fills_in (is_some e.inquiry) d (mfsr_with c) e
fills_by false false d e c = refl

fills : (m : Move) (l : Stages) (rs : List ℕ) (c : Option (Option ℕ))
    → cond (is_some (inquiry_in m l rs)) (ex_mem_of l.id_ex (mfsr_with c)) (open_ex_mem m l rs) ≡ next_ex_mem m l rs c
unfolding inquiry_in open_ex_mem next_ex_mem executed executed_by inquiry_of inquiry_by
fills m l rs c = fills_by (is_wait m) l.id_ex.valid l.id_ex (effect_for l rs l.id_ex) c

planned : (l : Stages) (rs : List ℕ) (x : Taken)
    → advance_plan (plan_of l rs) l rs x ≡ advance_stages (free_move l rs) l rs x
unfolding advance_plan plan_of said_ex_mem advance_stages
planned l rs x = rw (id_ex_next l rs, fills (free_move l rs) l rs x.special)

-- a wait looks at neither the next ID/EX nor the place to fetch from
waits_so : (l : Stages) (rs : List ℕ) (x : Taken) → waited l x ≡ advance_stages keep_waiting l rs x
unfolding waited advance_stages advance_by id_ex_after if_id_after place_after next_ex_mem is_wait
waits_so l rs x = refl

module _ (s : PipelineCpu) (l : Stages) (rs : List ℕ) (b : Retired s l rs) where
  want_load_lem : loads_in l ≡ want_load s.stages
  unfolding want_load
  want_load_lem = rw (b.stages, b.awake)

  moves_by : (m : Move) → move l rs ≡ m → move_of (retire s) ≡ m
  unfolding retire
  moves_by m e = rw (sym b.stages, sym b.reg) e

  wants_by : (m : Move) → move l rs ≡ m → want_fetch s ≡ (l.running && fetches m)
  unfolding want_fetch retire
  wants_by m e = rw (sym b.stages, sym b.reg, e, b.awake)

  asks_by : (m : Move) → move l rs ≡ m → want_special s ≡ inquiry_in m l rs
  unfolding want_special retire
  asks_by m e = rw (sym b.stages, sym b.reg, e, b.awake)

  shows_by : (m : Move) → move l rs ≡ m → want_origins s ≡ origins_in m l
  unfolding want_origins retire
  shows_by m e = rw (sym b.stages, sym b.reg, e, b.awake)

  next_by : (m : Move) (a : Stages) (c : Counters) (x y : Taken) → move l rs ≡ m → a ≡ advance_stages m l rs x
      → c ≡ unless_full s.counts (counted m (count_retired l.mem_wb.valid s.counts)) → x ≡ y
      → record { reg = rs; stages = a; counts = c } ≡ next s y
  unfolding next advance retire retire_stages unless_full
  next_by m a c x y em ea ec ex = rw (moves_by m em, ea, ec, ex, b.room, b.stages, b.reg, b.awake)

  wants_of : (g : Option Place) (x : Option Request) (q : Option ℕ) (o : Option Origins) → g ≡ fetch_wanted s
      → x ≡ request_in (requests l.ex_mem) → q ≡ want_special s → o ≡ want_origins s
      → record { fetch = g; request = x; special = q; origins = o } ≡ wanted s
  unfolding wanted asks
  wants_of g x q o eg ex eq eo = rw (eg, ex, eq, eo, b.stages, b.awake)

  -- a wait goes on
  module _ (w : waits_on l ≡ true) where
    keeps : move l rs ≡ keep_waiting
    unfolding move
    keeps = rw w

    no_fetch : fetch_wanted s ≡ None
    unfolding fetch_wanted fetches stalls
    no_fetch = rw (wants_by keep_waiting keeps) (split l.running (λ e. rw e) (λ e. rw e))

    no_special : want_special s ≡ None
    unfolding inquiry_in is_wait
    no_special = asks_by keep_waiting keeps

    no_origins : want_origins s ≡ None
    unfolding origins_in is_wait
    no_origins = shows_by keep_waiting keeps

    pub wait_wants : (x : Option Request) → x ≡ request_in (requests l.ex_mem)
        → record { fetch = None; request = x; special = None; origins = None } ≡ wanted s
    wait_wants x ex = wants_of None x None None (sym no_fetch) ex (sym no_special) (sym no_origins)

    pub wait_given : (t : Given) (d : Bool) → d ≡ loads_in l
        → given_tests None d None t ≡ wanted_tests s t
    unfolding wanted_tests
    wait_given t d ed = rw (ed, want_load_lem, no_fetch, no_special)

    pub wait_next : (a : Stages) (c : Counters) (x y : Taken) → a ≡ waited l x
        → c ≡ unless_full s.counts (counted keep_waiting (count_retired l.mem_wb.valid s.counts)) → x ≡ y
        → record { reg = rs; stages = a; counts = c } ≡ next s y
    wait_next a c x y ea ec ex = next_by keep_waiting a c x y keeps (ea ∙ waits_so l rs x) ec ex

  -- none goes on; p: the plan
  module _ (w : waits_on l ≡ false) (p : Plan) (ep : p ≡ plan_of l rs) where
    frees : move l rs ≡ p.step
    unfolding move plan_of
    frees = rw (w, ep)

    want_fetch_lem : plan_fetches l p ≡ want_fetch s
    unfolding plan_fetches
    want_fetch_lem = sym (wants_by p.step frees)

    fetch_at_lem : p.place ≡ fetch_at s
    unfolding fetch_at plan_of retire
    fetch_at_lem = rw (moves_by p.step frees, ep, b.stages)

    want_special_lem : p.inquiry ≡ want_special s
    unfolding plan_of
    want_special_lem = rw (asks_by p.step frees, ep)

    fetches_lem : (f : Bool) → f ≡ plan_fetches l p → then_some f p.place ≡ fetch_wanted s
    unfolding fetch_wanted
    fetches_lem f ef = rw (ef, want_fetch_lem, fetch_at_lem)

    pub plan_wants : (f : Bool) (g : Option Place) (x : Option Request) (o : Option Origins) → f ≡ plan_fetches l p
        → g ≡ then_some f p.place → x ≡ request_in (requests l.ex_mem) → o ≡ origins_in p.step l
        → record { fetch = g; request = x; special = p.inquiry; origins = o } ≡ wanted s
    plan_wants f g x o ef eg ex eo =
        wants_of g x p.inquiry o (eg ∙ fetches_lem f ef) ex want_special_lem (eo ∙ sym (shows_by p.step frees))

    pub plan_given : (t : Given) (f d : Bool) (g : Option Place) → f ≡ plan_fetches l p → d ≡ loads_in l
        → g ≡ then_some f p.place
        → given_tests g d p.inquiry t ≡ wanted_tests s t
    unfolding wanted_tests
    plan_given t f d g ef ed eg = rw (eg, fetches_lem f ef, ed, want_load_lem, want_special_lem)

    pub plan_next : (a : Stages) (c : Counters) (x y : Taken) → a ≡ advance_plan p l rs x
        → c ≡ unless_full s.counts (counted p.step (count_retired l.mem_wb.valid s.counts)) → x ≡ y
        → record { reg = rs; stages = a; counts = c } ≡ next s y
    unfolding plan_of
    plan_next a c x y ea ec ex = next_by p.step a c x y frees (ea ∙ rw ep (planned l rs x)) ec ex
