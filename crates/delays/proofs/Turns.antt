-- What each of two such programs waits for at its n-th instruction. Assumes nothing.
use Prim.Native.Nat.{◌+◌, ◌≤◌, suc, ℕ}
use mathlib.Core.Bool.{Bool, ◌&&◌, false, true}
use mathlib.Core.Path.{◌∙◌, ◌≡◌, ap, refl, sym}
use native.Mathlib.Omega.{arith}
use Rattle.accuracy.specs.Count.{count, is_redirect, path, predict_at}
use Rattle.isa.proofs.Bools.{split}
use Rattle.isa.specs.Machine.{Arch, Program, effect_at, instruction_at, open_at}
use Rattle.isa.specs.Operands.{operands_of}
use Rattle.isa.specs.Waits.{back_to, is_used_load, predict, predict_by}
use Rattle.word.specs.Words.{bit}
use Rattle.trades.proofs.Computing.{Computes}
use Rattle.trades.proofs.Orders.{no_redirect}
use Rattle.delays.proofs.Passing.{Swapped, arrives, at_first, at_rest, at_second, pairs_by, with_instructions}
use Rattle.delays.specs.Passages.{Passes, stands}
use Rattle.delays.specs.Names.{DecNormal, Decoded, Instruction, Mode}

-- what is no load is no used load
pub unloaded : (x y : Decoded) → (operands_of x).is_load ≡ false → is_used_load x y ≡ false
unfolding is_used_load
unloaded x y e = rw e refl

computing : (i : Instruction) (x y : Decoded) → Computes i → x ≡ DecNormal i → is_used_load x y ≡ false
unfolding operands_of
computing i x y c e = unloaded x y (rw e c.loads)

-- an instruction that only computes redirects nothing
straight : (g : Program) (i : Instruction) (w : Arch) → Computes i → instruction_at g w ≡ DecNormal i
    → is_redirect g w ≡ false
unfolding is_redirect predict_at predict predict_by back_to operands_of
straight g i w c e = rw (e, c.branch, no_redirect g i c w) refl

same_redirect : (g : Program) (f : ℕ → Mode → Decoded) (w : Arch)
    → instruction_at (with_instructions g f) w ≡ instruction_at g w
    → is_redirect (with_instructions g f) w ≡ is_redirect g w
unfolding is_redirect predict_at effect_at open_at with_instructions
same_redirect g f w e = rw e refl

-- two sums that are 0
none : (a b c d s : Bool) → a ≡ false → b ≡ false → c ≡ false → d ≡ false
    → bit a + bit (s && b) ≡ bit c + bit (s && d)
none a b c d false p q r t = rw (p, r) refl
none a b c d true p q r t = rw (p, q, r, t) refl

module _ (g : Program) (f : ℕ → Mode → Decoded) (k : ℕ) (i j : Instruction) (s : Swapped g f k i j) (w : Arch) (N : ℕ)
    (p : Passes g w k N) where
  abbrev H : Program
  H = with_instructions g f

  -- the n-th instruction of each
  abbrev A : ℕ → Decoded
  A n = instruction_at g (path g w n)

  abbrev B : ℕ → Decoded
  B n = instruction_at H (path H w n)

  -- the same where neither record is done
  alike : (n : ℕ) → n ≤ N → stands (path g w n) k ≡ false → stands (path g w n) (k + 1) ≡ false → B n ≡ A n
  alike n l a b =
      let h = at_rest g f k i j s w N p n l a b in ap (λ (x : Arch). instruction_at H x) h.0 ∙ h.1

  -- a used load, and one that would be used by i or by j at record k
  pub uses : (n : ℕ) → suc n ≤ N
      → bit (is_used_load (B n) (B (suc n))) + bit (stands (path g w (suc n)) k && is_used_load (A n) (DecNormal i))
      ≡ bit (is_used_load (A n) (A (suc n))) + bit (stands (path g w (suc n)) k && is_used_load (A n) (DecNormal j))
  uses n l = split (stands (path g w n) k)
      (λ t. let h = at_first g f k i j s w N p n (omega arith) t in
      none _ _ _ _ _ (computing j _ _ s.computes_j h.1) (computing i _ _ s.computes_i h.0)
      (computing i _ _ s.computes_i h.0) (computing i _ _ s.computes_i h.0))
      (λ a. split (stands (path g w n) (k + 1))
      (λ t. let h = at_second g f k i j s w N p n (omega arith) t in
      none _ _ _ _ _ (computing i _ _ s.computes_i h.1) (computing j _ _ s.computes_j h.0)
      (computing j _ _ s.computes_j h.0) (computing j _ _ s.computes_j h.0))
      (λ b. let e = alike n (omega arith) a b in
      split (stands (path g w (suc n)) k)
      (λ t. let h = at_first g f k i j s w N p (suc n) l t in
      rw (e, h.1, h.0, t) (omega arith))
      (λ t. split (stands (path g w (suc n)) (k + 1))
      (λ u. absurd (let z = p.enters n l u in cc))
      (λ u. rw (e, alike (suc n) l t u, t) refl))))

  -- whether it is redirected
  pub turns : (n : ℕ) → n ≤ N → is_redirect H (path H w n) ≡ is_redirect g (path g w n)
  turns n l = split (stands (path g w n) k)
      (λ t. let h = at_first g f k i j s w N p n l t in
      straight H j (path H w n) s.computes_j h.1 ∙ sym (straight g i (path g w n) s.computes_i h.0))
      (λ a. split (stands (path g w n) (k + 1))
      (λ t. let h = at_second g f k i j s w N p n l t in
      straight H i (path H w n) s.computes_i h.1 ∙ sym (straight g j (path g w n) s.computes_j h.0))
      (λ b. let h = at_rest g f k i j s w N p n l a b in
      ap (λ (x : Arch). is_redirect H x) h.0 ∙ same_redirect g f (path g w n) h.1))

  -- how many of the first n pass a test
  pub tally : (t : Decoded → Bool) (n : ℕ) → n ≤ N → stands (path g w n) (k + 1) ≡ false
      → count (λ m. t (B m)) n ≡ count (λ m. t (A m)) n
  unfolding count
  tally t n = (pairs_by g f k i j s w N p (λ m. count (λ c. t (B c)) m ≡ count (λ c. t (A c)) m) refl
      (λ m l a b e. rw (alike m (omega arith) a b) (ap (λ x. x + bit (t (A m))) e))
      (λ m l a e.
      let h = at_first g f k i j s w N p m (omega arith) a in
      let q = at_second g f k i j s w N p (suc m) (omega arith) (arrives g f k i j s w N p m (omega arith) a) in
      rw (h.0, h.1, q.0, q.1) (omega arith))
      n).0
