-- Demand 3 of what stands on the card: the N-th 80 entry, the entries before it and the registers up to it are the
-- machine's. Assumes nothing.
use Prim.Native.Nat.{◌≤◌, ℕ, pred}
use lib.ListN.{get_or, length, length-set, set}
use lib.Seq.{get_or-set_same, set-set}
use mathlib.Core.List.{List, [], ◌++◌, ◌∷◌, append-nil, append_assoc}
use mathlib.Core.Path.{◌∙◌, ◌≡◌, ap, refl, subst, sym}
use native.Mathlib.Omega.{arith}
use Rattle.std.specs.Prelude.{Option}
use Rattle.isa.specs.Machine.{Arch, Program, arch_with, whole_program}
use Rattle.isa.specs.Registers.{read_reg}
use Rattle.logging.specs.Logging.{tick_events}
use Rattle.pipeline.specs.Start.{fresh}
use Rattle.pipeline.specs.Tick.{tick, word_in}
use Rattle.accuracy.proofs.Accuracy.{Inv, demand3_for_lem, inv_count, start_live}
use Rattle.accuracy.proofs.Feeding.{Fed, fed_whole}
use Rattle.accuracy.proofs.Offers.{AllMeet, all_meet}
use Rattle.accuracy.specs.Accuracy.{Agree, AgreeSaid, Retires, Run, after, answers, begin, offered, one, said}
use Rattle.logs.proofs.Along.{along, along_front, events_along}
use Rattle.logs.proofs.Here.{Here, here, inv_after}
use Rattle.logs.proofs.Lists.{adds, adds_one}
use Rattle.logs.proofs.Registers.{Same, access_none, laid_append, laid_same, same_along, same_one, same_read}
use Rattle.logs.proofs.Taken.{taken_along, taken_by}
use Rattle.logs.proofs.Ticks.{accesses, only_writes, writes_of}
use Rattle.logs.specs.Claims.{OnCard}
use Rattle.logs.specs.Entries.{Entered, laid_over, loaded, retirements}
use Rattle.logs.specs.Logs.{done, happened, unless_refused}
use Rattle.logs.specs.Names.{Decoded, Event, Given, Mode, Start}

along_append : (a b : List Given) (r : Run) → events_along r (a ++ b) ≡ events_along r a ++ events_along (after r a) b
unfolding events_along after
along_append [] b r = refl
along_append (t ∷ a) b r = rw (along_append a b (one r t)) (simp append_assoc)

-- the N-th retirement of the list ts from a fresh state, in the tick x.here
module _ (prog : Program) (v : Start) (w : Arch) (ts : List Given) (N : ℕ) (x : Retires prog w (begin v) ts N) where
  abbrev r : Run
  r = begin v

  -- the run before that tick, its events
  abbrev p : Run
  p = after r x.pre

  abbrev es : List Event
  es = unless_refused (tick p.state x.here) (tick_events p.state x.here)

  -- it retires one instruction
  retires_one : retirements es ≡ 1
  retires_one = let a = (adds_one p x.here).count in let b = x.before in let c = x.now in omega arith

  module _ (h : Here prog w p.state.stages (word_in x.here.answer) es (pred N)) where
    abbrev before : List Event
    before = events_along r x.pre

    abbrev writes : List Event
    writes = writes_of p.state.stages.mem_wb p.state.stages.features

    abbrev access : List Event
    access = accesses p.state.stages (word_in x.here.answer)

    split_lem : events_along r ts ≡ before ++ (es ++ events_along (one p x.here) x.post)
    unfolding events_along
    split_lem = ap (λ (l : List Given). events_along r l) x.split ∙ along_append x.pre (x.here ∷ x.post) r

    same_before : Same (laid_over before v.reg) p.state.reg
    unfolding begin fresh
    same_before = laid_same before v.reg (set v.reg 0 0) (taken_along x.pre r) (sym (set-set v.reg 0 0 0))
        ∙ same_along x.pre r

    laid_here : (a : List ℕ) → laid_over es a ≡ laid_over writes a
    unfolding laid_over accesses
    laid_here a = ap (λ (l : List Event). laid_over l a) h.is ∙ laid_append writes access a ∙ access_none _ _ _

    same_here : Same (laid_over (before ++ writes) v.reg) (one p x.here).state.reg
    same_here = rw (laid_append before writes v.reg, ← laid_here (laid_over before v.reg))
        (laid_same es _ _ (taken_by (tick p.state x.here) p.state x.here refl) same_before ∙ same_one p x.here)

    entered : Entered prog w v.reg (events_along r ts) before N
    unfolding begin fresh
    entered = record {
      writes = writes;
      behind = access ++ events_along (one p x.here) x.post;
      split = split_lem ∙ rw h.is (simp append_assoc);
      nth = let c = (adds x.pre r).count in let b = x.before in omega arith;
      only_writes = let o = only_writes p.state.stages.mem_wb p.state.stages.features in (o.retired, o.requests);
      requests = sym (adds x.pre r).requests ∙ x.requests;
      reg = λ q. same_read _ _ q same_here ∙ ap (λ (l : List ℕ). read_reg l q) x.reg;
    }

-- the invariant gives that tick's events
entered_by : (prog : Program) (v : Start) (left : List ℕ) (ts : List Given) (N : ℕ) → v.user ≡ prog.user
    → v.features ≡ prog.features → length v.reg ≡ 32 → AllMeet prog (begin v) ts → Fed prog (begin v) left ts
    → (x : Retires prog (arch_with v left) (begin v) ts N)
    → Entered prog (arch_with v left) v.reg (events_along (begin v) ts) (events_along (begin v) x.pre) N
unfolding begin arch_with fresh
entered_by prog v left ts N eu ef len m fe x =
    let w = arch_with v left in
    let n : length w.reg ≡ 32 = length-set v.reg 0 0 ∙ len in
    let z : get_or w.reg 0 0 ≡ 0 = get_or-set_same v.reg 0 0 0 (omega arith) in
    let i = inv_after prog w n z x.pre (x.here ∷ x.post) (begin v) left 0
    (Inv.live 0 0 0 (start_live prog v eu ef left) refl)
    (subst (λ (l : List Given). AllMeet prog (begin v) l) x.split m)
    (subst (λ (l : List Given). Fed prog (begin v) left l) x.split fe) in
    let p = after (begin v) x.pre in
    let es = unless_refused (tick p.state x.here) (tick_events p.state x.here) in
    let h = here prog w n z p x.here i.0 i.1 i.2 (retires_one prog v w ts N x) in
    let e : i.1 ≡ pred N = sym (inv_count prog w n z p i.0 i.1 i.2) ∙ ap pred x.before in
    entered prog v w ts N x
    (subst (λ (k : ℕ). Here prog w p.state.stages (word_in x.here.answer) es k) e h)

-- a list that agrees with instructions f and special registers g, fed its own answers
both : (f : ℕ → Mode → Decoded) (g : ℕ → Option (Option ℕ)) (v : Start) (ts : List Given) → length v.reg ≡ 32
    → Agree f (offered (begin v) ts) → AgreeSaid g (said (begin v) ts) → (N : ℕ) → 1 ≤ N
    → N ≤ (after (begin v) ts).state.counts.instructions_executed
    → let prog = whole_program v f g in
    let w = arch_with v (answers (begin v) ts) in
    (x : Retires prog w (begin v) ts N)
    × Entered prog w v.reg (events_along (begin v) ts) (events_along (begin v) x.pre) N
both f g v ts len a b N one le =
    let prog = whole_program v f g in
    let x = demand3_for_lem f g v ts len a b N one le in (
      x,
      entered_by prog v (answers (begin v) ts) ts N refl refl len (all_meet prog ts (begin v) a b)
          (subst (λ (l : List ℕ). Fed prog (begin v) l ts) (append-nil (answers (begin v) ts))
          (fed_whole prog (λ u y. refl) ts (begin v) [])) x,
    )

pub on_card : OnCard
unfolding begin fresh
on_card f g k v ts len q a b N one le =
    let r = begin v in
    let prog = whole_program v f g in
    let ds = done k ts in
    let x = along ts k r (sym q) in
    let y = adds ds r in
    let c = y.count in
    let t : retirements (events_along r ds) ≡ retirements (happened k ts) = ap retirements x.0 in
    let l : answers r ds ≡ loaded (happened k ts) = y.answers ∙ ap loaded x.0 in
    let z = both f g v ds len a b N one (omega arith) in
    let h : happened k z.0.pre ≡ events_along r z.0.pre
    = along_front ts k r z.0.pre (z.0.here ∷ z.0.post) (sym q) z.0.split in
    let w = arch_with v (answers r ds) in
    let e : Entered prog w v.reg (happened k ts) (happened k z.0.pre) N
    = subst (λ (bs : List Event). Entered prog w v.reg (happened k ts) bs N) (sym h)
    (subst (λ (es : List Event). Entered prog w v.reg es (events_along r z.0.pre) N) x.0 z.1) in
    subst (λ (vs : List ℕ). (x : Retires prog (arch_with v vs) r ds N)
    × Entered prog (arch_with v vs) v.reg (happened k ts) (happened k x.pre) N) l (z.0, e)
