-- A play is the one-at-a-time machine. Assumes nothing.
use Prim.Native.Nat.{◌+◌, ◌≤◌, suc, zero, ℕ}
use lib.ListN.{drop, length}
use mathlib.Core.Bool.{Bool, ◌&&◌, ◌||◌, cond, false, false≢true, not, not-not, true}
use mathlib.Core.List.{List, [], ◌∷◌}
use mathlib.Core.Path.{◌∙◌, ◌≡◌, ap, refl, subst, sym}
use native.Mathlib.Omega.{arith}
use Rattle.std.proofs.lemmas.Bool.{or_parts}
use Rattle.isa.proofs.Bools.{split}
use Rattle.isa.proofs.Machine.{did_next, isa_goes, step}
use Rattle.isa.specs.Machine.{Arch, Machine, Program, effect_at, instruction_at, is_barred, is_empty, machine}
use Rattle.isa.specs.Machine.{rest, step_by, stops_at}
use Rattle.isa.specs.Operands.{operands_of}
use Rattle.word.specs.Words.{bit}
use Rattle.player.specs.Claims.{PlayIs}
use Rattle.player.specs.Names.{Decoded, PlayHalted, PlayLoads, PlaySpent, PlayStopped, PlayerEnd}
use Rattle.player.specs.Player.{Play, ended, loads_in, more, play, play_by}

-- a play by its first turn
pub play_halted : (g : Program) (n : ℕ) (w : Arch) → play g n true w ≡ ended PlayHalted w
unfolding play
play_halted g zero w = refl
play_halted g (suc n) w = refl

-- what stops a play; the edits loads_before_stopped and stopping_one_done are refused here
play_stops : (g : Program) (n : ℕ) (w : Arch) → stops_at g (instruction_at g w) w ≡ true
    → play g (suc n) false w ≡ ended (cond (is_barred (effect_at g (instruction_at g w) w)) PlayStopped PlayLoads) w
unfolding play play_by
play_stops g n w b = rw b

play_does : (g : Program) (n : ℕ) (w : Arch) → stops_at g (instruction_at g w) w ≡ false
    → play g (suc n) false w
    ≡ more (instruction_at g w) (play g n (effect_at g (instruction_at g w) w).marks.halt
    (step_by g (instruction_at g w) w))
unfolding play play_by
play_does g n w b = rw b

-- the answers behind the first
rest_length : (l : List ℕ) → is_empty l ≡ false → length l ≡ suc (length (rest l))
unfolding is_empty rest
rest_length [] e = absurd (false≢true (sym e))
rest_length (x ∷ l) e = refl

rest_drop : (l : List ℕ) (u : ℕ) → drop u (rest l) ≡ drop (suc u) l
unfolding rest
rest_drop [] zero = refl
rest_drop [] (suc u) = refl
rest_drop (x ∷ l) u = refl

-- what stops the machine and is not barred is a load with no answer left
dry : (a b c : Bool) → (a || (b && c)) ≡ true → a ≡ false → (b ≡ true) × (c ≡ true)
dry true b c e z = absurd (false≢true (sym z))
dry false true true e z = (refl, refl)
dry false true false e z = absurd (false≢true e)
dry false false c e z = absurd (false≢true e)

module _ (g : Program) (w₀ : Arch) where
  -- a play from the machine that has done k instructions, up to the one that has done N
  record On (n k N : ℕ) (p : Play) (l : List ℕ) : Type 0 where
    count : N ≡ k + length p.did
    arch : (machine g w₀ N).arch ≡ p.arch
    did : (machine g w₀ N).done ≡ N
    within : length p.did ≤ n
    used : loads_in p.did ≤ length l
    left : p.arch.answers ≡ drop (loads_in p.did) l
    halted : p.end ≡ PlayHalted → (machine g w₀ N).runs ≡ false
    spent : p.end ≡ PlaySpent → ((machine g w₀ N).runs ≡ true) × (length p.did ≡ n)
    stopped : p.end ≡ PlayStopped → ((machine g w₀ N).runs ≡ true)
        × (is_barred (effect_at g (instruction_at g p.arch) p.arch) ≡ true)
    loads : p.end ≡ PlayLoads → ((machine g w₀ N).runs ≡ true)
        × (is_barred (effect_at g (instruction_at g p.arch) p.arch) ≡ false)
        × ((operands_of (instruction_at g p.arch)).is_load ≡ true) × (is_empty p.arch.answers ≡ true)

  -- a play that ends at once
  ends_here : (n k : ℕ) (e : PlayerEnd) → (machine g w₀ k).done ≡ k
      → (e ≡ PlayHalted → (machine g w₀ k).runs ≡ false)
      → (e ≡ PlaySpent → ((machine g w₀ k).runs ≡ true) × (0 ≡ n))
      → (e ≡ PlayStopped → ((machine g w₀ k).runs ≡ true)
      × (is_barred (effect_at g (instruction_at g (machine g w₀ k).arch) (machine g w₀ k).arch) ≡ true))
      → (e ≡ PlayLoads → ((machine g w₀ k).runs ≡ true)
      × (is_barred (effect_at g (instruction_at g (machine g w₀ k).arch) (machine g w₀ k).arch) ≡ false)
      × ((operands_of (instruction_at g (machine g w₀ k).arch)).is_load ≡ true)
      × (is_empty (machine g w₀ k).arch.answers ≡ true))
      → On n k k (ended e (machine g w₀ k).arch) (machine g w₀ k).arch.answers
  unfolding ended loads_in
  ends_here n k e d a b c f = record {
    count = omega arith;
    arch = refl;
    did = d;
    within = omega arith;
    used = omega arith;
    left = refl;
    halted = a;
    spent = b;
    stopped = c;
    loads = f;
  }

  -- an instruction done before a play
  add_more : (n k N : ℕ) (i : Decoded) (p : Play) (l : List ℕ)
      → ((operands_of i).is_load && is_empty l) ≡ false
      → On n (suc k) N p (cond (operands_of i).is_load (rest l) l) → On (suc n) k N (more i p) l
  unfolding more loads_in bit
  add_more n k N i p l a h = record {
    count = omega (arith, h.count);
    arch = h.arch;
    did = h.did;
    within = omega (arith, h.within);
    used = split (operands_of i).is_load
        (λ e. let z = rest_length l (rw e at a) in rw e (omega (arith, rw e at h.used)))
        (λ e. rw e (omega (arith, rw e at h.used)));
    left = split (operands_of i).is_load
        (λ e.
        let z : suc (loads_in p.did) ≡ 1 + loads_in p.did = omega arith in
        rw e ((rw e at h.left) ∙ rest_drop l (loads_in p.did) ∙ ap (λ (u : ℕ). drop u l) z))
        (λ e.
        let z : loads_in p.did ≡ 0 + loads_in p.did = omega arith in
        rw e ((rw e at h.left) ∙ ap (λ (u : ℕ). drop u l) z));
    halted = h.halted;
    spent = λ e. ((h.spent e).0, ap suc (h.spent e).1);
    stopped = h.stopped;
    loads = h.loads;
  }

  -- an instruction that stops the machine
  stops_here : (n k : ℕ) → (machine g w₀ k).done ≡ k → (machine g w₀ k).runs ≡ true
      → stops_at g (instruction_at g (machine g w₀ k).arch) (machine g w₀ k).arch ≡ true
      → (N : ℕ) × On (suc n) k N (ended (cond (is_barred (effect_at g (instruction_at g (machine g w₀ k).arch)
      (machine g w₀ k).arch)) PlayStopped PlayLoads) (machine g w₀ k).arch) (machine g w₀ k).arch.answers
  unfolding stops_at
  stops_here n k d u b =
      split (is_barred (effect_at g (instruction_at g (machine g w₀ k).arch) (machine g w₀ k).arch))
      (λ e. rw e (
        k,
        ends_here (suc n) k PlayStopped d (λ z. cc) (λ z. cc) (λ z. (u, e)) (λ z. cc),
      ))
      (λ e.
      let z = dry _ _ _ b e in
      rw e (
        k,
        ends_here (suc n) k PlayLoads d (λ z. cc) (λ z. cc) (λ z. cc)
            (λ y. (u, e, z.0, z.1)),
      ))

  -- an instruction that is done
  goes_on : (n k : ℕ) → (machine g w₀ k).done ≡ k → (machine g w₀ k).runs ≡ true
      → stops_at g (instruction_at g (machine g w₀ k).arch) (machine g w₀ k).arch ≡ false
      → ((machine g w₀ (suc k)).done ≡ suc k → (N : ℕ) × On n (suc k) N
      (play g n (not (machine g w₀ (suc k)).runs) (machine g w₀ (suc k)).arch)
      (machine g w₀ (suc k)).arch.answers)
      → let i = instruction_at g (machine g w₀ k).arch in
      (N : ℕ) × On (suc n) k N (more i (play g n (effect_at g i (machine g w₀ k).arch).marks.halt
      (step_by g i (machine g w₀ k).arch))) (machine g w₀ k).arch.answers
  unfolding machine stops_at step step_by
  goes_on n k d u b h =
      let m = machine g w₀ k in
      let i = instruction_at g m.arch in
      let q = isa_goes g m u b in
      let y = h (ap (λ (x : Machine). x.done) q ∙ ap suc d) in
      let z = subst (λ (x : Machine). (N : ℕ) × On n (suc k) N (play g n (not x.runs) x.arch) x.arch.answers)
      q y in (
        z.0,
        add_more n k z.0 i _ m.arch.answers
            (or_parts (is_barred (effect_at g i m.arch)) _ b).1
            (subst (λ (c : Bool). On n (suc k) z.0 (play g n c (step_by g i m.arch))
            (step_by g i m.arch).answers) (not-not (effect_at g i m.arch).marks.halt) z.1),
      )

  -- the play from the machine that has done k instructions
  on : (n k : ℕ) → (machine g w₀ k).done ≡ k
      → (N : ℕ)
      × On n k N (play g n (not (machine g w₀ k).runs) (machine g w₀ k).arch) (machine g w₀ k).arch.answers
  unfolding play play_by
  on zero k d = split (machine g w₀ k).runs
      (λ u. rw u (k, ends_here zero k PlaySpent d (λ e. cc) (λ e. (u, refl)) (λ e. cc) (λ e. cc)))
      (λ u. rw u (k, ends_here zero k PlayHalted d (λ e. u) (λ e. cc) (λ e. cc) (λ e. cc)))
  on (suc n) k d = split (machine g w₀ k).runs
      (λ u. split (stops_at g (instruction_at g (machine g w₀ k).arch) (machine g w₀ k).arch)
      (λ b. rw (u, b) (stops_here n k d u b))
      (λ b. rw (u, b) (goes_on n k d u b (on n (suc k)))))
      (λ u. rw u (k, ends_here (suc n) k PlayHalted d (λ e. u) (λ e. cc) (λ e. cc) (λ e. cc)))

-- every play
pub play_is : PlayIs
unfolding machine
play_is g w n =
    let x = on g w n 0 refl in
    let h = x.1 in
    let z : x.0 ≡ length (play g n false w).did = omega (arith, h.count) in
    let at : (A : Machine → Type 0) → A (machine g w x.0) → A (machine g w (length (play g n false w).did)) =
    λ A. subst (λ (k : ℕ). A (machine g w k)) z in
    record {
      arch = at (λ m. m.arch ≡ (play g n false w).arch) h.arch;
      did = ap (λ (k : ℕ). (machine g w k).done) (sym z) ∙ h.did ∙ z;
      within = h.within;
      used = h.used;
      left = h.left;
      halted = λ e. at (λ m. m.runs ≡ false) (h.halted e);
      spent = λ e. (at (λ m. m.runs ≡ true) (h.spent e).0, (h.spent e).1);
      stopped = λ e. (at (λ m. m.runs ≡ true) (h.stopped e).0, (h.stopped e).1);
      loads = λ e. let y = h.loads e in (at (λ m. m.runs ≡ true) y.0, y.1, y.2, y.3);
    }

-- the machine that has done N instructions lies on the way of every play with so many allowed: what is left of the play
-- there, with m more allowed
pub record Passes (g : Program) (w : Arch) (N m j : ℕ) (p : Play) : Type 0 where
  pub end : p.end ≡ (play g m (not (machine g w N).runs) (machine g w N).arch).end
  pub arch : p.arch ≡ (play g m (not (machine g w N).runs) (machine g w N).arch).arch
  pub did : length p.did ≡ j + length (play g m (not (machine g w N).runs) (machine g w N).arch).did

pass_more : (g : Program) (w : Arch) (N m j : ℕ) (i : Decoded) (p : Play) → Passes g w N m j p
    → Passes g w N m (suc j) (more i p)
unfolding more
pass_more g w N m j i p h = record { end = h.end; arch = h.arch; did = omega (arith, h.did) }

pub passes : (g : Program) (w : Arch) (N : ℕ) → (machine g w N).done ≡ N → (m j k : ℕ) → k + j ≡ N
    → Passes g w N m j (play g (j + m) (not (machine g w k).runs) (machine g w k).arch)
unfolding step
passes g w N d m zero k e =
    let z : k ≡ N = omega arith in
    let y : 0 + m ≡ m = omega arith in
    let q : play g (0 + m) (not (machine g w k).runs) (machine g w k).arch
    ≡ play g m (not (machine g w N).runs) (machine g w N).arch =
    λ i. play g (y i) (not (machine g w (z i)).runs) (machine g w (z i)).arch in
    record {
      end = ap (λ (x : Play). x.end) q;
      arch = ap (λ (x : Play). x.arch) q;
      did = ap (λ (x : Play). length x.did) q ∙ omega arith;
    }
passes g w N d m (suc j) k e =
    let x = did_next g w N d k (omega arith) in
    let a = (machine g w k).arch in
    let y : suc j + m ≡ suc (j + m) = omega arith in
    let h = (effect_at g (instruction_at g a) a).marks.halt in
    let q : play g (suc j + m) (not (machine g w k).runs) a
    ≡ more (instruction_at g a) (play g (j + m) (not (machine g w (suc k)).runs) (machine g w (suc k)).arch) =
    (λ i. play g (y i) (not (x.runs i)) a) ∙ play_does g (j + m) a x.fine
    ∙ (λ i. more (instruction_at g a) (play g (j + m) (sym (ap not x.on ∙ not-not h) i) (sym x.to i))) in
    subst (λ (p : Play). Passes g w N m (suc j) p) (sym q)
    (pass_more g w N m j (instruction_at g a) _ (passes g w N d m j (suc k) (omega arith)))
