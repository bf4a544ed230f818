-- Instructions that only compute: NOP, 10 to 1F, ADDI, LDIL and LDIH. Assumes nothing.
use Prim.Native.Nat.{ℕ}
use borrow.Author.Tests.{eqb-true}
use lib.Dec.{eqb}
use lib.IntN.{ℤ}
use mathlib.Core.Bool.{Bool, false, true}
use mathlib.Core.Path.{◌≡◌, refl}
use native.Mathlib.Omega.{arith}
use Rattle.std.specs.Prelude.{None, Some}
use Rattle.isa.proofs.Bools.{split}
use Rattle.isa.specs.Effect.{effect_n, gives, goes_on, no_access, nothing, marked}
use Rattle.isa.specs.Short.{low_bits}
use Rattle.isa.specs.Operands.{bare, binary, operands_n, plain, unary}
use Rattle.trades.specs.Names.{Addi, Instruction, Ldih, Ldil, Line, Nop, Record}
use Rattle.sheet.specs.Records.{both, half_of, line_if, offset_of, plain_of, record_of, three_of, within, zeros}
use Rattle.trades.specs.Trades.{may_move}

-- what it does is a word for its destination, or none, by the operand values alone
pub record Computes (i : Instruction) : Type 0 where
  pub effect : (u : Bool) (n x y : ℕ) → effect_n u i n x y ≡ goes_on (effect_n false i 0 x y).alu no_access
  pub loads : (operands_n i).is_load ≡ false
  pub stores : (operands_n i).is_store ≡ false
  pub branch : (operands_n i).branch ≡ None

nop_computes : Computes Nop
unfolding effect_n nothing marked goes_on operands_n bare plain
nop_computes = record { effect = λ u n x y. refl; loads = refl; stores = refl; branch = refl }

three_effect : (c a b d : ℕ) (u : Bool) (n x y : ℕ)
    → effect_n u (three_of c a b d) n x y ≡ goes_on (effect_n false (three_of c a b d) 0 x y).alu no_access
unfolding three_of effect_n gives goes_on
three_effect c a b d u n x y = grind arith

three_loads : (c a b d : ℕ) → (operands_n (three_of c a b d)).is_load ≡ false
unfolding three_of operands_n binary plain
three_loads c a b d = grind arith

three_stores : (c a b d : ℕ) → (operands_n (three_of c a b d)).is_store ≡ false
unfolding three_of operands_n binary plain
three_stores c a b d = grind arith

three_branch : (c a b d : ℕ) → (operands_n (three_of c a b d)).branch ≡ None
unfolding three_of operands_n binary plain
three_branch c a b d = grind arith

three_computes : (c a b d : ℕ) → Computes (three_of c a b d)
three_computes c a b d = record {
  effect = three_effect c a b d;
  loads = three_loads c a b d;
  stores = three_stores c a b d;
  branch = three_branch c a b d;
}

addi_computes : (a b : ℕ) (z : ℤ) → Computes (Addi a b z)
unfolding effect_n gives goes_on operands_n unary plain
addi_computes a b z = record { effect = λ u n x y. refl; loads = refl; stores = refl; branch = refl }

ldil_computes : (a n : ℕ) → Computes (Ldil a n)
unfolding effect_n gives goes_on operands_n unary plain
ldil_computes a n = record { effect = λ u n x y. refl; loads = refl; stores = refl; branch = refl }

ldih_computes : (a n : ℕ) → Computes (Ldih a n)
unfolding effect_n gives goes_on operands_n unary plain
ldih_computes a n = record { effect = λ u n x y. refl; loads = refl; stores = refl; branch = refl }

-- such an instruction is the record's
pub data ComputesIn : Record → Type 0 where
  line : {i : Instruction} → Computes i → ComputesIn (Line i)

-- a record whose unused bytes are zero
line_computes : (z : Bool) (i : Instruction) (r : Record) → Computes i → line_if z i ≡ Some r → ComputesIn r
unfolding line_if
line_computes true i r c h = let q : Line i ≡ r = cc in rw (← q) (line c)
line_computes false i r c h = cc

-- each group of records
nop_record : (a b d e : ℕ) (r : Record) → record_of 0x00 a b d e ≡ Some r → ComputesIn r
unfolding record_of within plain_of
nop_record a b d e r h = line_computes (zeros a b d e) Nop r nop_computes h

not_plain : (c : ℕ) → within c 0x10 0x1F ≡ true → within c 0x00 0x03 ≡ false
unfolding within
not_plain c t = grind (arith, t)

three_record : (c a b d e : ℕ) (r : Record) → within c 0x10 0x1F ≡ true → record_of c a b d e ≡ Some r
    → ComputesIn r
unfolding record_of
three_record c a b d e r t h =
    line_computes (eqb e 0) (three_of c a b d) r (three_computes c a b d) (rw (not_plain c t, t) at h)

addi_record : (a b d e : ℕ) (r : Record) → record_of 0x20 a b d e ≡ Some r → ComputesIn r
unfolding record_of within offset_of line_if
addi_record a b d e r h = line_computes true _ r (addi_computes a b (low_bits 15 (both d e))) h

ldil_record : (a b d e : ℕ) (r : Record) → record_of 0x30 a b d e ≡ Some r → ComputesIn r
unfolding record_of within half_of
ldil_record a b d e r h = line_computes (eqb b 0) _ r (ldil_computes a (both d e)) h

ldih_record : (a b d e : ℕ) (r : Record) → record_of 0x31 a b d e ≡ Some r → ComputesIn r
unfolding record_of within half_of
ldih_record a b d e r h = line_computes (eqb b 0) _ r (ldih_computes a (both d e)) h

-- a command that may move, group by group
pub record_computes : (c a b d e : ℕ) (r : Record) → may_move (Some c) ≡ true → record_of c a b d e ≡ Some r
    → ComputesIn r
unfolding may_move
record_computes c a b d e r m h = split (eqb c 0x00)
    (λ t. nop_record a b d e r (rw (eqb-true c 0x00 t) at h))
    (λ p. split (within c 0x10 0x1F)
    (λ t. three_record c a b d e r t h)
    (λ q. split (eqb c 0x20)
    (λ t. addi_record a b d e r (rw (eqb-true c 0x20 t) at h))
    (λ s. split (eqb c 0x30)
    (λ t. ldil_record a b d e r (rw (eqb-true c 0x30 t) at h))
    (λ u. let t : eqb c 0x31 ≡ true = rw (p, q, s, u) at m in
    ldih_record a b d e r (rw (eqb-true c 0x31 t) at h)))))
