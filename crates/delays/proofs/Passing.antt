-- Two programs with two neighbouring records in either order, and alike elsewhere: the machine of one beside that of
-- the other. Assumes nothing.
use Prim.Native.Nat.{◌*◌, ◌+◌, ◌<◌, ◌≤◌, suc, zero, ℕ}
use mathlib.Core.Bool.{false, true}
use mathlib.Core.Path.{◌∙◌, ◌≡◌, ap, refl, sym}
use native.Mathlib.Omega.{arith}
use Rattle.accuracy.specs.Count.{path}
use Rattle.isa.proofs.Bools.{split}
use Rattle.isa.proofs.Machine.{did_next}
use Rattle.isa.specs.Effect.{fall}
use Rattle.isa.specs.Machine.{Arch, Machine, Program, effect_at, instruction_at, machine, machine_by, machine_step}
use Rattle.isa.specs.Machine.{open_at, step_by, stops_at, value_at}
use Rattle.isa.specs.Operands.{operands_n}
use Rattle.trades.proofs.Computing.{Computes}
use Rattle.trades.proofs.Orders.{done_is, either, next}
use Rattle.trades.proofs.Trading.{next_address}
use Rattle.trades.specs.Trades.{touches}
use Rattle.delays.proofs.Standing.{stands_at, stands_next, stands_once}
use Rattle.delays.specs.Passages.{Passes, stands}
use Rattle.delays.specs.Names.{DecNormal, Decoded, Instruction, Mode, Normal}

-- a program with other instructions
unfoldable pub with_instructions : Program → (ℕ → Mode → Decoded) → Program
with_instructions g f = record { instruction = f; user = g.user; features = g.features; take = g.take; table = g.table }

-- records k and k + 1 of g are i and j, f has them in the other order, and the rest as in g
pub record Swapped (g : Program) (f : ℕ → Mode → Decoded) (k : ℕ) (i j : Instruction) : Type 0 where
  pub few : k < 4096
  pub computes_i : Computes i
  pub computes_j : Computes j
  pub i_beside_j : touches (operands_n i).dest (operands_n j) ≡ false
  pub j_beside_i : touches (operands_n j).dest (operands_n i) ≡ false
  pub first : (p : ℕ) (m : Mode) → p ≡ k * 4 → m ≡ Normal → g.instruction p m ≡ DecNormal i
  pub second : (p : ℕ) (m : Mode) → p ≡ (k + 1) * 4 → m ≡ Normal → g.instruction p m ≡ DecNormal j
  pub swapped_first : (p : ℕ) (m : Mode) → p ≡ k * 4 → m ≡ Normal → f p m ≡ DecNormal j
  pub swapped_second : (p : ℕ) (m : Mode) → p ≡ (k + 1) * 4 → m ≡ Normal → f p m ≡ DecNormal i
  pub rest : (w : Arch) → stands w k ≡ false → stands w (k + 1) ≡ false → f w.pc w.mode ≡ g.instruction w.pc w.mode

-- one step is alike where the instruction is
same_step : (g : Program) (f : ℕ → Mode → Decoded) (m : Machine)
    → f m.arch.pc m.arch.mode ≡ g.instruction m.arch.pc m.arch.mode
    → machine_step (with_instructions g f) m ≡ machine_step g m
unfolding machine_step machine_by instruction_at with_instructions step_by stops_at effect_at open_at value_at
same_step g f m e = ap (λ (d : Decoded). machine_by g d m) e

module _ (g : Program) (f : ℕ → Mode → Decoded) (k : ℕ) (i j : Instruction) (s : Swapped g f k i j) (w : Arch) (N : ℕ)
    (p : Passes g w k N) where
  abbrev H : Program
  H = with_instructions g f

  -- the machine that has done n and goes on
  runs_at : (n : ℕ) → n < N → machine g w n ≡ record { arch = path g w n; runs = true; done = n }
  unfolding path
  runs_at n l =
      let d = did_next g w N p.did n l in
      λ t. record { arch = (machine g w n).arch; runs = d.runs t; done = d.did t }

  -- from record k it goes on to record k + 1
  first_step : (n : ℕ) → n < N → stands (path g w n) k ≡ true
      → machine g w (suc n) ≡ record { arch = next i (path g w n); runs = true; done = suc n }
  unfolding machine machine_step instruction_at
  first_step n l e =
      let h = stands_at (path g w n) k e in
      let m : Machine = record { arch = path g w n; runs = true; done = n } in
      ap (λ (x : Machine). machine_step g x) (runs_at n l)
      ∙ ap (λ (d : Decoded). machine_by g d m) (s.first (path g w n).pc (path g w n).mode h.0 h.1)
      ∙ done_is g i s.computes_i (path g w n) n

  pub arrives : (n : ℕ) → n < N → stands (path g w n) k ≡ true → stands (path g w (suc n)) (k + 1) ≡ true
  unfolding path
  arrives n l e = ap (λ (m : Machine). stands m.arch (k + 1)) (first_step n l e)
      ∙ stands_next i (path g w n) k s.few e

  begins : stands (path g w 0) (k + 1) ≡ false
  unfolding path machine
  begins = p.begins

  -- what holds at the beginning, and on from anywhere but between the two records: one step, or two from record k
  pub pairs_by : (P : ℕ → Type 0) → P 0
      → ((n : ℕ) → n < N → stands (path g w n) k ≡ false → stands (path g w n) (k + 1) ≡ false → P n → P (suc n))
      → ((n : ℕ) → suc n < N → stands (path g w n) k ≡ true → P n → P (suc (suc n)))
      → (n : ℕ) → (n ≤ N → stands (path g w n) (k + 1) ≡ false → P n)
      × (suc n ≤ N → stands (path g w (suc n)) (k + 1) ≡ false → P (suc n))
  pairs_by P z a b zero = (
    λ l e. z,
    λ l e. split (stands (path g w 0) k)
        (λ t. absurd (let c = arrives 0 l t in cc))
        (λ t. a 0 l t begins z),
  )
  pairs_by P z a b (suc n) =
      let h = pairs_by P z a b n in (
        h.1,
        λ l e. split (stands (path g w (suc n)) (k + 1))
            (λ u. let v = p.enters n (omega arith) u in
            b n l v (h.0 (omega arith) (stands_once (path g w n) k (k + 1) (omega arith) v)))
            (λ u. split (stands (path g w (suc n)) k)
            (λ t. absurd (let c = arrives (suc n) l t in cc))
            (λ t. a (suc n) l t u (h.1 (omega arith) u))),
      )

  -- one step on, and two
  one_on : (n : ℕ) → n < N → stands (path g w n) k ≡ false → stands (path g w n) (k + 1) ≡ false
      → machine H w n ≡ machine g w n → machine H w (suc n) ≡ machine g w (suc n)
  unfolding machine path
  one_on n l a b e = ap (λ (m : Machine). machine_step H m) e ∙ same_step g f (machine g w n) (s.rest (path g w n) a b)

  two_on : (n : ℕ) → suc n < N → stands (path g w n) k ≡ true
      → machine H w n ≡ machine g w n → machine H w (suc (suc n)) ≡ machine g w (suc (suc n))
  unfolding machine with_instructions
  two_on n l t e =
      let x = path g w n in
      let h = stands_at x k t in
      let q = runs_at n (omega arith) in
      let r = next_address x.pc k x.mode h.0 s.few h.1 in
      ap (λ (m : Machine). machine_step H (machine_step H m)) (e ∙ q)
      ∙ either g H i j s.computes_i s.computes_j s.i_beside_j s.j_beside_i x (s.first x.pc x.mode h.0 h.1)
      (s.second (fall x.pc x.mode) x.mode r h.1) (s.swapped_first x.pc x.mode h.0 h.1)
      (s.swapped_second (fall x.pc x.mode) x.mode r h.1) n
      ∙ sym (ap (λ (m : Machine). machine_step g (machine_step g m)) q)

  -- the same machine wherever it is not between the two
  pub meets : (n : ℕ) → n ≤ N → stands (path g w n) (k + 1) ≡ false → machine H w n ≡ machine g w n
  unfolding machine
  meets n = (pairs_by (λ m. machine H w m ≡ machine g w m) refl one_on two_on n).0

  -- the instructions at record k, and at record k + 1
  pub at_first : (n : ℕ) → n ≤ N → stands (path g w n) k ≡ true
      → (instruction_at g (path g w n) ≡ DecNormal i) × (instruction_at H (path H w n) ≡ DecNormal j)
  unfolding instruction_at path with_instructions
  at_first n l t =
      let x = path g w n in
      let h = stands_at x k t in
      let e = meets n l (stands_once x k (k + 1) (omega arith) t) in (
        s.first x.pc x.mode h.0 h.1,
        ap (λ (m : Machine). f m.arch.pc m.arch.mode) e ∙ s.swapped_first x.pc x.mode h.0 h.1,
      )

  -- the other machine goes on to record k + 1 too
  between : (n : ℕ) → n < N → stands (path g w n) k ≡ true → stands (path H w (suc n)) (k + 1) ≡ true
  unfolding path machine machine_step instruction_at with_instructions
  between n l t =
      let x = path g w n in
      let h = stands_at x k t in
      let e = meets n (omega arith) (stands_once x k (k + 1) (omega arith) t) in
      let m : Machine = record { arch = x; runs = true; done = n } in
      ap (λ (y : Machine). stands (machine_step H y).arch (k + 1)) (e ∙ runs_at n l)
      ∙ ap (λ (d : Decoded). stands (machine_by H d m).arch (k + 1)) (s.swapped_first x.pc x.mode h.0 h.1)
      ∙ ap (λ (y : Machine). stands y.arch (k + 1)) (done_is H j s.computes_j x n)
      ∙ stands_next j x k s.few t

  pub at_second : (n : ℕ) → n ≤ N → stands (path g w n) (k + 1) ≡ true
      → (instruction_at g (path g w n) ≡ DecNormal j) × (instruction_at H (path H w n) ≡ DecNormal i)
  unfolding instruction_at with_instructions
  at_second zero l t = absurd (let b = begins in cc)
  at_second (suc n) l t =
      let x = path g w (suc n) in
      let y = path H w (suc n) in
      let h = stands_at x (k + 1) t in
      let q = stands_at y (k + 1) (between n l (p.enters n l t)) in
      (s.second x.pc x.mode h.0 h.1, s.swapped_second y.pc y.mode q.0 q.1)

  -- and elsewhere
  pub at_rest : (n : ℕ) → n ≤ N → stands (path g w n) k ≡ false → stands (path g w n) (k + 1) ≡ false
      → (path H w n ≡ path g w n) × (instruction_at H (path g w n) ≡ instruction_at g (path g w n))
  unfolding instruction_at path with_instructions
  at_rest n l a b = (ap (λ (m : Machine). m.arch) (meets n l b), s.rest (path g w n) a b)
