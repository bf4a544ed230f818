-- RULES 15.6, proved. Assumes nothing.
use Prim.Native.Nat.{◌+◌, ◌-◌, ◌<◌, ◌≤◌, suc, ℕ}
use borrow.Author.Tests.{ltb-false, ltb-true}
use lib.Dec.{ltb}
use lib.ListN.{get_or, length, length-set}
use lib.Seq.{get_or-set_same}
use mathlib.Core.Bool.{Bool, ◌&&◌, cond, false, false≢true, not, true}
use mathlib.Core.List.{List, [], ◌++◌, ◌∷◌, append-nil}
use mathlib.Core.Path.{◌∙◌, ◌≡◌, ap, refl, subst, sym}
use native.Mathlib.Omega.{arith}
use Rattle.std.specs.Bool.{then_some}
use Rattle.std.specs.Prelude.{Err, Ok, Result, Some}
use Rattle.std.proofs.lemmas.Bool.{and_from}
use Rattle.isa.proofs.Bools.{split}
use Rattle.isa.proofs.Machine.{walk}
use Rattle.isa.specs.Machine.{Arch, Machine, Program, arch_with, first, is_empty, machine, rest, whole_program}
use Rattle.isa.specs.Short.{decoded_of}
use Rattle.latch.specs.Latches.{empty_if_id, empty_mem_wb}
use Rattle.latch.specs.Memory.{loads, requests}
use Rattle.latch.specs.Retire.{halts, is_faulty}
use Rattle.pipeline.proofs.Resting.{rest_asks, rest_fetch, rest_load, rest_next, rests, waits_rest}
use Rattle.pipeline.specs.Advance.{advance, move_of, next, resting, waiting}
use Rattle.pipeline.specs.Ask.{asks, fetch_at, fetch_wanted, want_fetch, want_special}
use Rattle.pipeline.specs.Retire.{retire}
use Rattle.pipeline.specs.Start.{fresh}
use Rattle.pipeline.specs.Tick.{fits_offer, raw_of, taken, tick, wait_of, word_in}
use Rattle.stages.proofs.Awake.{asleep_waits, awake_free, stopped_asleep}
use Rattle.stages.specs.Advance.{awake, wait_for_memory, waits_for_memory}
use Rattle.stages.specs.Counting.{count_retired, counted}
use Rattle.stages.specs.Execute.{inquiry_of}
use Rattle.stages.specs.Fetch.{fetch_place, fetches}
use Rattle.stages.specs.Loads.{loads_in, want_load}
use Rattle.stages.specs.Move.{inquiry_in, is_wait}
use Rattle.stages.specs.Refusals.{faulty}
use Rattle.stages.specs.Retire.{retire_stages}
use Rattle.word.specs.Words.{bit}
use Rattle.accuracy.proofs.Feeding.{Fed, Feeds, FeedsBy, fed_whole}
use Rattle.accuracy.proofs.Instructions.{ok_in}
use Rattle.accuracy.proofs.Inv.{Live, Mw, PlaceIs, Xm, count_mw, f0, isa_mw, next_live, place_mw, regs_mw}
use Rattle.accuracy.proofs.Inv.{retire_live}
use Rattle.accuracy.proofs.Offers.{AllMeet, Meets, all_meet}
use Rattle.accuracy.proofs.Path.{due}
use Rattle.accuracy.proofs.Timing.{bound, due_time, time_path}
use Rattle.accuracy.proofs.Took.{Took, advance_regs, advance_retire_mode, advance_retire_pc, advance_retired}
use Rattle.accuracy.proofs.Took.{advance_running, advance_wait, offer_is, offer_ok, retire_off, took, waits_none}
use Rattle.accuracy.specs.Accuracy.{Demand3, Demand3For, Retires, Run, after, answers, begin, first_offer, first_said}
use Rattle.accuracy.specs.Accuracy.{offered, one, one_by, said}
use Rattle.accuracy.specs.Names.{Given, MemWb, Move, PipelineCpu, RawInstr, Refusal, Request, Start, Taken}

module _ (prog : Program) (w₀ : Arch) (len : length w₀.reg ≡ 32) (nought : get_or w₀.reg 0 0 ≡ 0) where
  -- t: the accepted ticks that moved something; the others, and those still to wait, are the waits told
  pub data Inv (r : Run) (left : List ℕ) (k : ℕ) : Type 0 where
    live : (n₁ n₂ t : ℕ) → Live prog w₀ r.state t r.requests left k n₁ n₂
        → r.accepted + r.state.stages.wait_left ≡ t + r.waits → Inv r left k
    over : r.state.stages.running ≡ false → r.state.counts.instructions_executed ≡ k → Inv r left k

  -- a tick in which instruction k retires
  pub record Now (r r' : Run) (k : ℕ) : Type 0 where
    pub before : r.state.counts.instructions_executed ≡ k
    pub now : r'.state.counts.instructions_executed ≡ suc k
    pub at : r'.accepted ≡ due prog w₀ k + r.waits
    pub reg : r'.state.reg ≡ (machine prog w₀ (suc k)).arch.reg
    pub requests : r.requests ≡ (machine prog w₀ (suc k)).arch.requests
    pub runs : (machine prog w₀ k).runs ≡ true
    pub did : (machine prog w₀ (suc k)).done ≡ suc k
    pub place : PlaceIs prog w₀ r'.state (machine prog w₀ (suc k)).arch
    pub still : (machine prog w₀ (suc k)).runs ≡ r'.state.stages.running

  pub data Step (r r' : Run) (left : List ℕ) (k : ℕ) : Type 0 where
    quiet : Inv r' left k → (r.state.stages.running ≡ true → r'.state.stages.running ≡ true) → Step r r' left k
    committed : Now r r' k → Inv r' left (suc k) → Step r r' left k

  finish : (r r' : Run) (left : List ℕ) (l : MemWb) (t k n₁ : ℕ) → Mw prog w₀ t l k n₁
      → r.state.counts.instructions_executed ≡ k → r'.state.counts.instructions_executed ≡ n₁
      → r'.accepted ≡ suc (t + r.waits)
      → r'.state.reg ≡ (walk prog w₀ n₁).reg → PlaceIs prog w₀ r'.state (walk prog w₀ n₁)
      → r.requests ≡ (walk prog w₀ n₁).requests → (machine prog w₀ n₁).arch ≡ walk prog w₀ n₁
      → (machine prog w₀ n₁).done ≡ n₁ → (machine prog w₀ k).runs ≡ true
      → (machine prog w₀ n₁).runs ≡ r'.state.stages.running → (halts l ≡ false → r'.state.stages.running ≡ true)
      → Inv r' left n₁ → Step r r' left k
  unfolding halts empty_mem_wb
  finish r r' left l t k n₁ (Mw.gap e) p1 p2 p3 p4 pp p5 p6 p8 p7 p9 p10 i = quiet i (λ z. p10 (rw e))
  finish r r' left l t k n₁ (Mw.full e d o g) p1 p2 p3 p4 pp p5 p6 p8 p7 p9 p10 i = committed (record {
    before = p1;
    now = p2;
    at = omega arith;
    reg = p4 ∙ sym (ap (λ (x : Arch). x.reg) p6);
    requests = p5 ∙ sym (ap (λ (x : Arch). x.requests) p6);
    runs = p7;
    did = p8;
    place = (pp.0 ∙ sym (ap (λ (x : Arch). x.pc) p6), pp.1 ∙ sym (ap (λ (x : Arch). x.mode) p6));
    still = p9;
  }) i

  to_live : (s s' : PipelineCpu) (t : ℕ) (left left' : List ℕ) (k n₁ n₂ : ℕ) (xs ys zs : List Request) → s ≡ s' → ys
      ≡ zs → left ≡ left'
      → Live prog w₀ s t (xs ++ zs) left k n₁ n₂ → Live prog w₀ s' t (xs ++ ys) left' k n₁ n₂
  to_live s s' t left left' k n₁ n₂ xs ys zs e q l h =
      subst (λ (x : List ℕ). Live prog w₀ s' t (xs ++ ys) x k n₁ n₂) l
      (subst (λ (y : List Request). Live prog w₀ s' t (xs ++ y) left k n₁ n₂) (sym q)
      (subst (λ (z : PipelineCpu). Live prog w₀ z t (xs ++ zs) left k n₁ n₂) e h))

  -- an accepted tick of a running machine
  module _ (r : Run) (t : Given) (s' : PipelineCpu) (left left' : List ℕ) (k n₁ n₂ t₀ : ℕ)
      (lv : Live prog w₀ r.state t₀ r.requests left k n₁ n₂)
      (clock : r.accepted + r.state.stages.wait_left ≡ t₀ + r.waits)
      (aw : awake r.state.stages ≡ true) (tk : Took r.state t s')
      (off : Meets prog r.state t)
      (lft : Feeds prog r.state t left left') where
    abbrev s₁ : PipelineCpu
    s₁ = retire r.state

    abbrev v₁ : ℕ
    v₁ = word_in t.answer

    abbrev i₁ : RawInstr
    i₁ = raw_of t.offer

    abbrev x₁ : Taken
    x₁ = taken t

    abbrev r₁ : Run
    r₁ = one_by (Ok s') t r

    -- such a tick is in no wait for the memory
    no_wait : r.state.stages.wait_left ≡ 0
    unfolding waits_for_memory
    no_wait =
        let h = ltb-false 0 r.state.stages.wait_left (awake_free r.state.stages aw) in omega arith

    no_fault : is_faulty r.state.stages.mem_wb ≡ false
    unfolding faulty
    no_fault = sym (ap (λ (b : Bool). b && is_faulty r.state.stages.mem_wb) aw) ∙ tk.sound

    went : advance (move_of s₁) s₁ x₁ ≡ s'
    unfolding next
    went = sym (ap (λ (b : Bool). cond b (advance (move_of s₁) s₁ x₁) (resting r.state)) aw) ∙ tk.is

    count₁ : s₁.counts.instructions_executed ≡ n₁
    unfolding retire retire_stages count_retired
    count₁ = ap (λ (x : ℕ). x + bit r.state.stages.mem_wb.valid) lv.count ∙ count_mw prog w₀ len nought
        r.state.stages.mem_wb t₀ k n₁ lv.mem_wb

    regs₁ : s₁.reg ≡ (walk prog w₀ n₁).reg
    unfolding retire retire_stages count_retired
    regs₁ = rw (lv.features, lv.reg)
        (regs_mw prog w₀ len nought r.state.stages.mem_wb t₀ k n₁ lv.mem_wb)

    isa₁ : machine prog w₀ n₁ ≡ record {
      arch = walk prog w₀ n₁;
      runs = not (halts r.state.stages.mem_wb);
      done =
          n₁;
    }
    isa₁ = isa_mw prog w₀ len nought r.state.stages.mem_wb t₀ k n₁ lv.mem_wb no_fault lv.runs

    place₁ : PlaceIs prog w₀ s₁ (walk prog w₀ n₁)
    unfolding retire retire_stages count_retired
    place₁ = (
      rw lv.place.0 (place_mw prog w₀ len nought r.state.stages.mem_wb t₀ k n₁ lv.mem_wb).0,
      rw lv.place.1 (place_mw prog w₀ len nought r.state.stages.mem_wb t₀ k n₁ lv.mem_wb).1,
    )

    run₁ : s'.stages.running ≡ not (halts r.state.stages.mem_wb)
    unfolding retire retire_stages count_retired
    run₁ = ap (λ (x : PipelineCpu). x.stages.running) (sym went) ∙ advance_running (move_of s₁) s₁ x₁
        ∙ split (halts r.state.stages.mem_wb) (λ h. rw h) (λ h. rw h lv.running)

    done : Inv r₁ left' n₁ → Step r r₁ left' k
    unfolding one_by
    done i = finish r r₁ left' r.state.stages.mem_wb t₀ k n₁ lv.mem_wb lv.count
        (ap (λ (x : PipelineCpu). x.counts.instructions_executed) (sym went) ∙ advance_retired (move_of s₁) s₁ x₁
        ∙ count₁)
        (let z = no_wait in omega arith)
        (ap (λ (x : PipelineCpu). x.reg) (sym went) ∙ advance_regs (move_of s₁) s₁ x₁ ∙ regs₁) (
          ap (λ (x : PipelineCpu). x.stages.retire_at.pc) (sym went) ∙ advance_retire_pc (move_of s₁) s₁ x₁
              ∙ place₁.0,
          ap (λ (x : PipelineCpu). x.stages.retire_at.mode) (sym went) ∙ advance_retire_mode (move_of s₁) s₁ x₁
              ∙ place₁.1,
        )
        lv.asks (ap (λ (x : Machine). x.arch) isa₁) (ap (λ (x : Machine). x.done) isa₁)
        (ap (λ (x : Machine). x.runs) lv.runs)
        (ap (λ (x : Machine). x.runs) isa₁ ∙ sym run₁) (λ h. run₁ ∙ rw h) i

    want_load_lem : (b : Bool) → (s₁.stages.ex_mem.valid && loads s₁.stages.ex_mem) ≡ b
        → want_load r.state.stages ≡ b
    unfolding want_load loads_in retire
    want_load_lem b e = ap (λ (c : Bool). c && (s₁.stages.ex_mem.valid && loads s₁.stages.ex_mem)) aw ∙ e

    hv : (s₁.stages.ex_mem.valid && loads s₁.stages.ex_mem) ≡ true
        → (is_empty left ≡ false) × (prog.take s₁.stages.ex_mem.mem_size (first left) ≡ v₁)
    hv e = lft.asked (want_load_lem true e)

    left_on : cond (s₁.stages.ex_mem.valid && loads s₁.stages.ex_mem) (rest left) left ≡ left'
    left_on = sym (lft.next ∙ ap (λ (b : Bool). cond b (rest left) left)
        (want_load_lem (s₁.stages.ex_mem.valid && loads s₁.stages.ex_mem) refl))

    fits : want_fetch r.state ≡ true → fits_offer (Some (fetch_at r.state)) t.offer ≡ true
    unfolding fetch_wanted
    fits e = ap (λ (b : Bool). fits_offer (then_some b (fetch_at r.state)) t.offer) (sym e) ∙ tk.fetch

    hi : s₁.stages.running ≡ true → (m : Move) → move_of s₁ ≡ m → fetches m ≡ true →
        (decoded_of i₁ ≡ prog.instruction (fetch_place m s₁.stages).pc (fetch_place m s₁.stages).mode) ×
        (ok_in (decoded_of i₁) (fetch_place m s₁.stages).mode ≡ true)
    unfolding want_fetch fetch_at taken
    hi ru m e w =
        let fit = fits (and_from _ _ aw (and_from _ _ ru (ap fetches e ∙ w))) in
        let o = offer_is t.offer (fetch_at r.state) fit in (
          off.offer i₁ o ∙ ap (λ (x : Move). prog.instruction (fetch_place x s₁.stages).pc
              (fetch_place x s₁.stages).mode) e,
          ap (λ (x : Move). ok_in (decoded_of i₁) (fetch_place x s₁.stages).mode) (sym e)
              ∙ offer_ok t.offer (fetch_at r.state) fit tk.fair,
        )

    hc : is_wait (move_of s₁) ≡ false → (n : ℕ) → inquiry_of s₁.stages s₁.reg ≡ Some n
        → t.special ≡ prog.table n
    unfolding want_special inquiry_in
    hc w n e = off.special n (rw (aw, w) e)

    asks₁ : asks r.state.stages ≡ requests s₁.stages.ex_mem
    unfolding asks retire
    asks₁ = ap (λ (b : Bool). cond b (requests s₁.stages.ex_mem) []) aw

    clock₁ : r₁.accepted + s'.stages.wait_left ≡ suc t₀ + r₁.waits
    unfolding one_by taken
    clock₁ =
        let p : s'.stages.wait_left ≡ wait_of t = ap (λ (x : PipelineCpu). x.stages.wait_left) (sym went)
        ∙ advance_wait (move_of s₁) s₁ x₁ in
        let z = no_wait in omega arith

    accepted : Step r r₁ left' k
    unfolding one_by taken
    accepted = split (halts r.state.stages.mem_wb)
        (λ h. done (over (ap (λ (x : PipelineCpu). x.stages.running) (sym went) ∙ advance_running (move_of s₁) s₁ x₁ ∙
        retire_off r.state h)
        (ap (λ (x : PipelineCpu). x.counts.instructions_executed) (sym went) ∙ advance_retired (move_of s₁) s₁ x₁ ∙
        count₁)))
        (λ h.
        let mid = retire_live prog w₀ len nought r.state t₀ r.requests left k n₁ n₂ lv no_fault h in
        let x = next_live prog w₀ len nought s₁ t₀ r.requests left n₁ n₂ mid x₁ hv (hi mid.running) hc in
        done (live n₂ x.0 (suc t₀) (to_live _ _ _ _ _ _ _ _ r.requests _ _ went asks₁ left_on x.1)
        clock₁))

  -- an accepted tick of a machine that has stopped
  idle_over : (r : Run) (t : Given) (s' : PipelineCpu) (left : List ℕ) (k : ℕ) → r.state.stages.running ≡ false →
      r.state.counts.instructions_executed ≡ k → Took r.state t s'
      → Inv (one_by (Ok s') t r) left k
  unfolding one_by
  idle_over r t s' left k e c tk =
      let h : resting r.state ≡ s' =
      rest_next r.state (stopped_asleep r.state.stages e) (taken t) ∙ tk.is in
      over (ap (λ (x : PipelineCpu). x.stages.running) (sym h) ∙ (rests r.state).running ∙ e)
      (ap (λ (x : PipelineCpu). x.counts.instructions_executed) (sym h) ∙ (rests r.state).retired ∙ c)

  -- one in a wait for the memory: nothing that the invariant speaks of is touched
  waiting_live : (s : PipelineCpu) (t : ℕ) (asked : List Request) (left : List ℕ) (k n₁ n₂ : ℕ)
      → Live prog w₀ s t asked left k n₁ n₂ → Live prog w₀ (waiting s) t asked left k n₁ n₂
  unfolding waiting wait_for_memory counted
  waiting_live s t asked left k n₁ n₂ l = record {
    running = l.running;
    features = l.features;
    user = l.user;
    count = l.count;
    reg = l.reg;
    place = l.place;
    mem_wb = l.mem_wb;
    ex_mem = l.ex_mem;
    front = l.front;
    asks = l.asks;
    answers = l.answers;
    runs = l.runs;
  }

  waited : (r : Run) (t : Given) (s' : PipelineCpu) (left left' : List ℕ) (k n₁ n₂ t₀ : ℕ)
      → Live prog w₀ r.state t₀ r.requests left k n₁ n₂
      → r.accepted + r.state.stages.wait_left ≡ t₀ + r.waits → awake r.state.stages ≡ false → Took r.state t s'
      → Feeds prog r.state t left left' → Step r (one_by (Ok s') t r) left' k
  unfolding waiting wait_for_memory waits_for_memory one_by
  waited r t s' left left' k n₁ n₂ t₀ lv clock f tk lft =
      let z = asleep_waits r.state.stages lv.running f in
      let h : waiting r.state ≡ s' = waits_rest r.state z ∙ rest_next r.state f (taken t) ∙ tk.is in
      let p : s'.stages.wait_left ≡ r.state.stages.wait_left - 1 =
      ap (λ (x : PipelineCpu). x.stages.wait_left) (sym h) in
      let c = ltb-true 0 r.state.stages.wait_left z in
      let w = waits_none r.state t s' tk (rest_fetch r.state f) (rest_load r.state f) in
      quiet (live n₁ n₂ t₀ (to_live _ _ _ left left' _ _ _ r.requests (asks r.state.stages) [] h
      (rest_asks r.state f)
      (sym (lft.next ∙ ap (λ (b : Bool). cond b (rest left) left) (rest_load r.state f)))
      (subst (λ (x : List Request). Live prog w₀ (waiting r.state) t₀ x left k n₁ n₂)
      (sym (append-nil r.requests)) (waiting_live r.state t₀ r.requests left k n₁ n₂ lv)))
      (omega arith))
      (λ e. ap (λ (x : PipelineCpu). x.stages.running) (sym h) ∙ e)

  -- a tick
  pub step_by : (r : Run) (t : Given) (o : Result PipelineCpu Refusal) → tick r.state t ≡ o → (left left' : List ℕ)
      (k : ℕ) → Inv r left k
      → ((s : PipelineCpu) → o ≡ Ok s → Meets prog r.state t)
      → FeedsBy prog o r.state t left left' → Step r (one_by o t r) left' k
  unfolding FeedsBy one_by
  step_by r t (Err c) e left left' k i off lft = quiet (subst (λ (x : List ℕ). Inv r x k) lft i) (λ z. z)
  step_by r t (Ok s') e left left' k (live n₁ n₂ t₀ lv clock) off lft =
      split (awake r.state.stages)
      (λ f. accepted r t s' left left' k n₁ n₂ t₀ lv clock f (took r.state t s' e) (off s' refl) lft)
      (λ f. waited r t s' left left' k n₁ n₂ t₀ lv clock f (took r.state t s' e) lft)
  step_by r t (Ok s') e left left' k (over ru c) off lft =
      quiet (idle_over r t s' left' k ru c (took r.state t s' e)) (λ z. absurd (false≢true (sym ru ∙ z)))

  -- the list
  pub put_before : (r : Run) (t : Given) (ts : List Given) (N : ℕ) → Retires prog w₀ (one r t) ts N → Retires prog
      w₀ r (t ∷ ts) N
  unfolding after
  put_before r t ts N x = record {
    pre = t ∷ x.pre;
    here = x.here;
    post = x.post;
    split = ap (λ (l : List Given). t ∷ l) x.split;
    before = x.before;
    now = x.now;
    due = x.due;
    soon = x.soon;
    reg = x.reg;
    did = x.did;
    requests =
        x.requests;
    place = x.place;
  }

  pub here_now : (r : Run) (t : Given) (ts : List Given) (k N : ℕ) → suc k ≡ N → Now r (one r t) k → Retires prog w₀
      r (t ∷ ts) N
  unfolding after
  here_now r t ts k N e x = subst (λ (n : ℕ). Retires prog w₀ r (t ∷ ts) n) e (record {
    pre = [];
    here = t;
    post = ts;
    split = refl;
    before = ap suc x.before;
    now = x.now;
    due = x.at ∙ ap (λ (d : ℕ). d + r.waits) (due_time prog w₀ k ∙ sym (time_path prog w₀ k x.did));
    soon = let b = bound prog w₀ k in let a = x.at in omega arith;
    reg = x.reg;
    did = x.did;
    requests = x.requests;
    place = x.place;
  })

  pub inv_count : (r : Run) (left : List ℕ) (k : ℕ) → Inv r left k → r.state.counts.instructions_executed ≡ k
  inv_count r left k (live n₁ n₂ t lv c) = lv.count
  inv_count r left k (over a b) = b

  pub all : (ts : List Given) (r : Run) (k : ℕ) (left : List ℕ) → Inv r left k → AllMeet prog r ts → Fed prog r left
      ts
      → (N : ℕ) → k < N → N ≤ (after r ts).state.counts.instructions_executed → Retires prog w₀ r ts N
  unfolding after AllMeet one Fed
  all [] r k left i off fe N l h = let c = inv_count r _ k i in absurd (omega arith)
  all (t ∷ ts) r k left i off fe N l h =
      by (step_by r t (tick r.state t) refl left fe.0 k i off.0 fe.1) (λ j z. all ts (one r t) j fe.0
      z
      off.1 fe.2)
    where
      by : Step r (one r t) fe.0 k
          → ((j : ℕ) → Inv (one r t) fe.0 j → (M : ℕ) → j < M → M ≤
          (after (one r t) ts).state.counts.instructions_executed → Retires prog w₀ (one r t) ts M)
          → Retires prog w₀ r (t ∷ ts) N
      by (quiet j z) ih = put_before r t ts N (ih k j N l h)
      by (committed x j) ih = split (ltb (suc k) N)
          (λ e. put_before r t ts N (ih (suc k) j N (ltb-true (suc k) N e) h))
          (λ e. let q = ltb-false (suc k) N e in here_now r t ts k N (omega arith) x)

-- the start, with any list of answers
pub start_live : (prog : Program) (v : Start) → v.user ≡ prog.user → v.features ≡ prog.features → (l : List ℕ)
    → Live prog (arch_with v l) (fresh v) 0 [] l 0 0 0
unfolding fresh arch_with walk machine due empty_if_id
start_live prog v eu ef l = record {
  running = refl;
  features = ef;
  user = eu;
  count = refl;
  reg = refl;
  place = (refl, refl);
  mem_wb = Mw.gap
      refl;
  ex_mem = Xm.gap refl;
  front = f0 refl refl refl refl refl (omega arith);
  asks = refl;
  answers = refl;
  runs =
      refl;
}

-- the machine fed any list that the ticks feed it, whatever it makes of an answer
pub demand3_fed : (prog : Program) (v : Start) → v.user ≡ prog.user → v.features ≡ prog.features
    → length v.reg ≡ 32 → (ts : List Given) (l : List ℕ)
    → AllMeet prog (begin v) ts
    → Fed prog (begin v) l ts
    → (N : ℕ) → 1 ≤ N → N ≤ (after (begin v) ts).state.counts.instructions_executed
    → Retires prog (arch_with v l) (begin v) ts N
unfolding begin arch_with fresh
demand3_fed prog v eu ef len ts l off fe N one≤ le =
    all prog (arch_with v l) (length-set v.reg 0 0 ∙ len) (get_or-set_same v.reg 0 0 0 (omega arith)) ts
    (begin v) 0 l
    (live 0 0 0 (start_live prog v eu ef l) refl) off fe N one≤ le

-- the machine that takes the list's answers whole
pub demand3_for_lem : Demand3For
demand3_for_lem f g v ts len a b N one≤ le =
    let prog = whole_program v f g in
    let r = begin v in
    subst (λ (l : List ℕ). Retires prog (arch_with v l) r ts N) (append-nil _)
    (demand3_fed prog v refl refl len ts (answers r ts ++ []) (all_meet prog ts r a b)
    (fed_whole prog (λ w x. refl) ts r [])
    N one≤ le)

pub demand3 : Demand3
demand3 v ts len a b N one≤ le =
    demand3_for_lem (first_offer (offered (begin v) ts)) (first_said (said (begin v) ts)) v ts len a b N one≤ le
