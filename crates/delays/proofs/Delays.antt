-- What the exchange does to the ticks. Assumes nothing.
use Prim.Native.Nat.{◌*◌, ◌+◌, ◌<◌, ◌≤◌, pred, suc, zero, ℕ}
use mathlib.Core.Bool.{Bool, ◌&&◌, false, true}
use mathlib.Core.Path.{◌≡◌, refl}
use native.Mathlib.Omega.{arith}
use Rattle.accuracy.proofs.Timing.{count_same}
use Rattle.accuracy.specs.Count.{count, divides, is_redirect, multiplies, path, redirects, retire_tick, used_loads}
use Rattle.isa.proofs.Bools.{split}
use Rattle.isa.specs.Machine.{Arch, Program, instruction_at, program_of}
use Rattle.isa.specs.Short.{decoded_of}
use Rattle.isa.specs.Waits.{is_div, is_mul, is_used_load}
use Rattle.sheet.specs.Sheet.{offer_at, sheet_source}
use Rattle.trades.proofs.Trading.{line_at, listed_place, neighbours}
use Rattle.trades.specs.Claims.{exchanged}
use Rattle.word.specs.Words.{bit}
use Rattle.delays.proofs.Counts.{count_below, count_none, count_sums}
use Rattle.delays.proofs.Passing.{Swapped, meets, with_instructions}
use Rattle.delays.proofs.Sheets.{swapped}
use Rattle.delays.proofs.Turns.{tally, turns, unloaded, uses}
use Rattle.delays.specs.Claims.{Delay, Delayed}
use Rattle.delays.specs.Passages.{NoLoad, Passes, fed, instruction_of, passages, stands}
use Rattle.delays.specs.Names.{DecNormal, Decoded, Instruction, Mode, Normal}

-- a test passes where it and another do
bit_of_both : (a b : Bool) → bit (a && b) ≤ bit a
unfolding bit
bit_of_both true true = omega arith
bit_of_both true false = omega arith
bit_of_both false b = omega arith

-- no more are fed than come to the record
fed_le : (g : Program) (at : ℕ → Arch) (k : ℕ) (i : Decoded) (n : ℕ) → fed g at k i n ≤ passages at k n
unfolding fed passages count
fed_le g at k i zero = omega arith
fed_le g at k i (suc n) = count_below
    (λ m. stands (at (suc m)) k && is_used_load (instruction_at g (at m)) i)
    (λ m. stands (at m) k) n
    (λ m. bit_of_both (stands (at (suc m)) k) (is_used_load (instruction_at g (at m)) i))

-- a number is below one less than another
below : (m n : ℕ) → n < pred m → suc n < m
below zero n l = omega arith
below (suc m) n l = omega arith

-- none, where no load is directly before
unfed : (g : Program) (w : Arch) (k : ℕ) (i : Decoded) (N : ℕ) → NoLoad g w k N → fed g (path g w) k i N ≡ 0
unfolding fed
unfed g w k i N h =
    count_none (λ m. stands (path g w (suc m)) k && is_used_load (instruction_at g (path g w m)) i) (pred N)
    (λ n l. split (stands (path g w (suc n)) k)
    (λ t. rw (t, unloaded (instruction_at g (path g w n)) i (h n (below N n l) t)) refl)
    (λ t. rw t refl))

module _ (g : Program) (f : ℕ → Mode → Decoded) (k : ℕ) (i j : Instruction) (s : Swapped g f k i j) (w : Arch) (N : ℕ)
    (p : Passes g w k N) where
  abbrev H : Program
  H = with_instructions g f

  -- multiplies, divides and redirects are as many, and used loads differ by those that feed i or j
  law : retire_tick H (path H w) N + fed g (path g w) k (DecNormal i) N
      ≡ retire_tick g (path g w) N + fed g (path g w) k (DecNormal j) N
  unfolding retire_tick multiplies divides used_loads redirects fed
  law =
      let m = tally g f k i j s w N p is_mul N (omega arith) p.ends in
      let d = tally g f k i j s w N p is_div N (omega arith) p.ends in
      let u = count_sums
      (λ n. is_used_load (instruction_at H (path H w n)) (instruction_at H (path H w (suc n))))
      (λ n. stands (path g w (suc n)) k && is_used_load (instruction_at g (path g w n)) (DecNormal i))
      (λ n. is_used_load (instruction_at g (path g w n)) (instruction_at g (path g w (suc n))))
      (λ n. stands (path g w (suc n)) k && is_used_load (instruction_at g (path g w n)) (DecNormal j))
      (pred N) (λ n l. uses g f k i j s w N p n (let h = below N n l in omega arith)) in
      let r = count_same (λ n. is_redirect H (path H w n)) (λ n. is_redirect g (path g w n)) (pred N)
      (λ n l. turns g f k i j s w N p n (let h = below N n l in omega arith)) in
      omega (arith, m, d, u, r)

  delay : Delay g H w k (DecNormal i) (DecNormal j) N
  delay =
      let a = fed_le g (path g w) k (DecNormal i) N in
      let b = fed_le g (path g w) k (DecNormal j) N in
      record {
        same = meets g f k i j s w N p N (omega arith) p.ends;
        ticks = law;
        later = (let e = law in omega (arith, e, b));
        earlier = (let e = law in omega (arith, e, a));
        alike = λ h. (let e = law in
            let x = unfed g w k (DecNormal i) N h in
            let y = unfed g w k (DecNormal j) N h in
            omega (arith, e, x, y));
      }

-- a listed place of a sheet
pub delayed : Delayed
unfolding program_of with_instructions instruction_of
delayed l k valid e v t w N p =
    let c = listed_place l k e in
    let x = neighbours l k valid c.0 c.1 in
    let i = line_at l k (k * 4) Normal x.i refl refl x.first in
    let j = line_at l (k + 1) ((k + 1) * 4) Normal x.j refl refl x.second in
    rw (i, j) (delay (program_of (sheet_source l t) v) (λ q m. decoded_of (offer_at (exchanged l k) q m)) k x.i x.j
    (swapped l k valid c.0 x v t) w N p)
