-- One turn of the player's loop. Assumes nothing.
use Prim.Native.Nat.{◌+◌, ◌-◌, ◌<◌, suc, ℕ}
use borrow.Author.Tests.{leb-false, lt-ltb}
use lib.Dec.{leb}
use lib.ListN.{drop, get_or, length}
use mathlib.Core.Bool.{Bool, ◌&&◌, cond, false, true}
use mathlib.Core.List.{List, []}
use mathlib.Core.Path.{◌∙◌, ◌≡◌, ap, refl, sym}
use native.Mathlib.Omega.{arith}
use Rattle.std.specs.Prelude.{All, None, Some}
use Rattle.isa.proofs.Bools.{split}
use Rattle.isa.specs.Effect.{fall}
use Rattle.isa.specs.Machine.{Arch, Program, arch_with, dest_of, effect_at, instruction_at, is_barred, is_empty, open_at}
use Rattle.isa.specs.Machine.{program_of, rest, step_by, stops_at, value_at}
use Rattle.isa.specs.Operands.{operands_of}
use Rattle.isa.specs.Redirects.{mode_or, target_or}
use Rattle.isa.specs.Registers.{write_cpuid, write_reg}
use Rattle.isa.specs.Short.{decoded_of}
use Rattle.sheet.proofs.Left.{left_after_lem, left_empty, left_first, used_within}
use Rattle.sheet.specs.Sheet.{offer_at, sheet_source}
use Rattle.sheet.specs.Turns.{used_after}
use Rattle.word.specs.Words.{bit}
use Rattle.player.proofs.Plays.{play_halted}
use Rattle.player.specs.Inner.{Holds, IsOwn, arch_of, effect_in, later, next_of, open_in, slot_at, slot_of, stop_of}
use Rattle.player.specs.Inner.{values_at, written}
use Rattle.player.specs.Names.{Decoded, Effect, PlayHalted, PlayLoads, PlaySpent, PlayStopped, Played}
use Rattle.player.specs.Names.{Place, PlayerEnd, Request, Slot, Start}
use Rattle.player.specs.Player.{Play, ended, loads_in, more, play, play_by, reported, unrefused_play, values_of}

-- one instruction more, counted before or behind
later_more : (v : Start) (d u : ℕ) (i : Decoded) (q : Play)
    → later v d u (more i q) ≡ later v (d + 1) (u + bit (operands_of i).is_load) q
unfolding later more loads_in
later_more v d u i q =
    let b = bit (operands_of i).is_load in
    let x : d + suc (length q.did) ≡ d + 1 + length q.did = omega arith in
    let y : u + (b + loads_in q.did) ≡ u + b + loads_in q.did = omega arith in
    λ j. record { end = q.end; values = values_of v q.arch; done = x j; used = y j }

-- the report of a play that ends here
abbrev pub ending : PlayerEnd → Start → List ℕ → Place → ℕ → ℕ → Played
ending e v rs at done used = record { end = e; values = values_at v rs at; done = done; used = used }

later_ended : (v : Start) (d u : ℕ) (e : PlayerEnd) (rs : List ℕ) (at : Place) (l : List ℕ) (asked : List Request)
    → ending e v rs at d u ≡ later v d u (ended e (arch_of rs at l asked))
unfolding later ended values_at values_of arch_of loads_in
later_ended v d u e rs at l asked =
    let x : d ≡ d + 0 = omega arith in
    let y : u ≡ u + 0 = omega arith in
    λ j. ending e v rs at (x j) (y j)

-- the answers used, as a sum
used_is : (b : Bool) (k n : ℕ) → (b ≡ true → k < n) → used_after b k n ≡ k + bit b
unfolding used_after bit
used_is true k n h = rw (lt-ltb k n (h refl))
used_is false k n h = let z : k ≡ k + 0 = omega arith in z

-- a turn, where the loop holds what it holds
module _ {sheet l table : List ℕ} {limit : ℕ} {v : Start} {rs : List ℕ} {at : Place} {slots : List Slot}
    {used done : ℕ} (h : Holds sheet l table limit v rs at slots used done) where
  abbrev G : Program
  G = program_of (sheet_source sheet table) v

  -- the whole play's report
  abbrev Q : Played
  Q = unrefused_play v sheet l table limit

  abbrev I : Decoded
  I = decoded_of (offer_at sheet at.pc at.mode)

  abbrev W : Arch
  W = arch_of rs at (drop used l) h.asked

  -- the limit used up
  pub spent_is : done ≡ limit → ending PlaySpent v rs at limit used ≡ Q
  unfolding play
  spent_is e =
      let y : limit - done ≡ 0 = omega arith in
      ap (λ (n : ℕ). ending PlaySpent v rs at n used) (sym e)
      ∙ later_ended v done used PlaySpent rs at (drop used l) h.asked
      ∙ sym (h.same ∙ ap (λ (n : ℕ). later v done used (play G n false W)) y)

  module _ (below : done < limit) where
    turn_is : Q ≡ later v done used (play_by G I W (λ halt w. play G (limit - (done + 1)) halt w))
    unfolding play instruction_at arch_of program_of
    turn_is =
        let y : limit - done ≡ suc (limit - (done + 1)) = omega arith in
        h.same ∙ ap (λ (n : ℕ). later v done used (play G n false W)) y

    module _ {s : Slot} (es : s ≡ slot_at sheet at.pc at.mode) {e : Effect}
        (ee : e ≡ effect_in v.user table s rs) where
      effect_is : e ≡ effect_at G I W
      unfolding effect_in open_in slot_at slot_of effect_at open_at arch_of program_of
      effect_is = ee ∙ ap (λ (x : Slot). effect_in v.user table x rs) es

      load_is : s.is_load ≡ (operands_of I).is_load
      unfolding slot_at slot_of
      load_is = ap (λ (x : Slot). x.is_load) es

      -- how it ends the play, by the code's tests
      stop_is : stop_of e s.is_load (leb (length l) used)
          ≡ stop_of (effect_at G I W) (operands_of I).is_load (is_empty W.answers)
      unfolding arch_of
      stop_is = λ j. stop_of (effect_is j) (load_is j) (sym (left_empty l used) j)

      -- an instruction that stops the play
      pub stops_is : {x : PlayerEnd} → stop_of e s.is_load (leb (length l) used) ≡ Some x
          → ending x v rs at done used ≡ Q
      unfolding play_by stop_of stops_at
      stops_is {x} c =
          let f = effect_at G I W in
          let b = (operands_of I).is_load && is_empty W.answers in
          let z : stop_of f (operands_of I).is_load (is_empty W.answers) ≡ Some x = sym stop_is ∙ c in
          later_ended v done used x rs at (drop used l) h.asked
          ∙ sym (turn_is ∙ split (is_barred f)
          (λ p. let y : PlayStopped ≡ x = let q = rw p at z in cc in rw (p, y))
          (λ p. split b
          (λ q. let y : PlayLoads ≡ x = let r = rw (p, q) at z in cc in rw (p, q, y))
          (λ q. absurd (let r = rw (p, q) at z in cc))))

      -- an instruction that does not is done: x is the word that its destination gets, then come the registers, the place
      -- and the answers used
      module _ (c : stop_of e s.is_load (leb (length l) used) ≡ None) {x : ℕ}
          (ex : x ≡ cond s.is_load (get_or l used 0) e.alu.value) {rs' : List ℕ}
          (ers : rs' ≡ written e s.dest x v.features rs) {at' : Place} (ea : at' ≡ next_of e at) {u' : ℕ}
          (eu : u' ≡ used_after s.is_load used (length l)) where
        fine : stops_at G I W ≡ false
        unfolding stops_at stop_of
        fine =
            let z : stop_of (effect_at G I W) (operands_of I).is_load (is_empty W.answers) ≡ None = sym stop_is ∙ c in
            split (is_barred (effect_at G I W))
            (λ p. absurd (let q = rw p at z in cc))
            (λ p. split ((operands_of I).is_load && is_empty W.answers)
            (λ q. absurd (let r = rw (p, q) at z in cc))
            (λ q. rw (p, q)))

        answered : s.is_load ≡ true → used < length l
        unfolding stop_of
        answered a = split (leb (length l) used)
            (λ z. absurd (split (is_barred e)
            (λ p. let q = rw p at c in cc)
            (λ p. let q = rw (p, a, z) at c in cc)))
            (λ z. leb-false (length l) used z)

        value_is : x ≡ value_at G I W
        unfolding value_at program_of arch_of
        value_is = ex ∙ (λ j. cond (load_is j) (sym (left_first l used) j) (effect_is j).alu.value)

        left_is : drop u' l ≡ (step_by G I W).answers
        unfolding step_by arch_of
        left_is = ap (λ (n : ℕ). drop n l) eu ∙ sym (left_after_lem s.is_load l used answered)
            ∙ (λ j. cond (load_is j) (rest (drop used l)) (drop used l))

        step_is : step_by G I W ≡ arch_of rs' at' (drop u' l) (step_by G I W).requests
        unfolding step_by written next_of slot_at slot_of program_of arch_of
        step_is = sym ((λ j. arch_of (ers j) (ea j) (drop u' l) (step_by G I W).requests) ∙ (λ j. record {
          reg = write_reg (dest_of (effect_is j) (es j).dest) (value_is j)
              (write_cpuid (effect_is j).marks.cpuid v.features rs);
          pc = target_or (effect_is j).redirect (fall at.pc at.mode);
          mode = mode_or (effect_is j).redirect at.mode;
          answers = left_is j;
          requests = (step_by G I W).requests;
        }))

        -- the rest of the play
        done_is : Q ≡ later v (done + 1) u'
            (play G (limit - (done + 1)) e.marks.halt (arch_of rs' at' (drop u' l) (step_by G I W).requests))
        unfolding play_by
        done_is =
            let y : used + bit (operands_of I).is_load ≡ u' =
            ap (λ (b : Bool). used + bit b) (sym load_is)
            ∙ sym (used_is s.is_load used (length l) answered) ∙ sym eu in
            let q = play G (limit - (done + 1)) (effect_at G I W).marks.halt (step_by G I W) in
            let x : Q ≡ later v done used (more I q) = turn_is ∙ rw fine in
            x ∙ later_more v done used I q
            ∙ (λ j. later v (done + 1) (y j)
            (play G (limit - (done + 1)) (sym effect_is j).marks.halt (step_is j)))

        -- HALT
        pub halted_is : e.marks.halt ≡ true → ending PlayHalted v rs' at' (done + 1) u' ≡ Q
        halted_is b = later_ended v (done + 1) u' PlayHalted rs' at' (drop u' l) (step_by G I W).requests
            ∙ sym (done_is ∙ ap (λ (q : Bool). later v (done + 1) u' (play G (limit - (done + 1)) q
            (arch_of rs' at' (drop u' l) (step_by G I W).requests))) b
            ∙ ap (λ (q : Play). later v (done + 1) u' q) (play_halted G (limit - (done + 1)) _))

        -- any other
        pub goes : e.marks.halt ≡ false → {slots' : List Slot} → All (IsOwn sheet) slots'
            → Holds sheet l table limit v rs' at' slots' u' (done + 1)
        goes b {slots'} kept = record {
          asked = (step_by G I W).requests;
          few = rw eu (used_within s.is_load l used h.few answered);
          kept = kept;
          same = done_is ∙ ap (λ (q : Bool). later v (done + 1) u' (play G (limit - (done + 1)) q
              (arch_of rs' at' (drop u' l) (step_by G I W).requests))) b;
        }

-- before the first turn
pub begins : (sheet l table : List ℕ) (limit : ℕ) (v : Start) (rs : List ℕ) (slots : List Slot)
    → rs ≡ (arch_with v l).reg → All (IsOwn sheet) slots
    → Holds sheet l table limit v rs v.at slots 0 0
unfolding unrefused_play reported later arch_with arch_of
begins sheet l table limit v rs slots e k =
    let g = program_of (sheet_source sheet table) v in
    let y : limit ≡ limit - 0 = omega arith in
    let q = play g limit false (arch_with v l) in
    let a : length q.did ≡ 0 + length q.did = omega arith in
    let b : loads_in q.did ≡ 0 + loads_in q.did = omega arith in
    record {
      asked = [];
      few = omega arith;
      kept = k;
      same = (λ j. record { end = q.end; values = values_of v q.arch; done = a j; used = b j })
          ∙ ap (λ (x : Play). later v 0 0 x) (λ j. play g (y j) false
          (record { reg = sym e j; pc = v.at.pc; mode = v.at.mode; answers = l; requests = [] }));
    }
