-- Two writes that touch nothing of each other's instruction. Assumes nothing.
use Prim.Native.Nat.{ℕ}
use borrow.Author.Tests.{eqb-false, eqb-true}
use lib.Dec.{eqb}
use lib.Seq.{get_or-set_other, set_comm}
use mathlib.Core.Bool.{Bool, ◌||◌, cond, false, true}
use mathlib.Core.List.{List}
use mathlib.Core.Path.{◌≡◌, ap, refl, sym}
use Rattle.std.specs.Prelude.{Option, None, Some}
use Rattle.isa.proofs.Bools.{split}
use Rattle.isa.specs.Registers.{is_dest, is_reg, put_reg, read_reg, write_reg}
use Rattle.trades.specs.Names.{Operands}
use Rattle.trades.specs.Trades.{touches}

-- a register that can be written is not R0
not_zero : (d : ℕ) → is_reg d ≡ true → eqb d 0 ≡ false
unfolding is_reg
not_zero d e = split (eqb d 0) (λ z. absurd (let h = rw (eqb-true d 0 z) at e in cc)) (λ z. z)

-- an or of three that fails
none_of : (x y z : Bool) → (x || (y || z)) ≡ false → (x ≡ false) × (y ≡ false) × (z ≡ false)
none_of true y z e = (cc, cc, cc)
none_of false true z e = (cc, cc, cc)
none_of false false z e = (refl, refl, e)

-- it is none of those that an untouched instruction names
apart : (d : ℕ) (o : Operands) → touches (Some d) o ≡ false → is_reg d ≡ true
    → (eqb d o.src_a ≡ false) × (eqb d o.src_b ≡ false) × (is_dest o.dest d ≡ false)
unfolding touches
apart d o e r = none_of (eqb d o.src_a) (eqb d o.src_b) (is_dest o.dest d) (rw (not_zero d r) at e)

-- another register reads as before
kept : (d v r : ℕ) (rs : List ℕ) → (is_reg d ≡ true → eqb d r ≡ false)
    → read_reg (put_reg d v rs) r ≡ read_reg rs r
unfolding put_reg read_reg
kept d v r rs h = split (is_reg d)
    (λ t. rw t (ap (λ (x : ℕ). cond (is_reg r) x 0)
    (get_or-set_other rs d r v 0 (λ q. eqb-false d r (h t) (sym q)))))
    (λ t. rw t refl)

-- and so do the sources of an untouched instruction
pub sources : (d : Option ℕ) (v : ℕ) (o : Operands) (rs : List ℕ) → touches d o ≡ false
    → (read_reg (write_reg d v rs) o.src_a ≡ read_reg rs o.src_a)
    × (read_reg (write_reg d v rs) o.src_b ≡ read_reg rs o.src_b)
unfolding write_reg
sources None v o rs e = (refl, refl)
sources (Some d) v o rs e = (kept d v o.src_a rs (λ t. (apart d o e t).0), kept d v o.src_b rs (λ t. (apart d o e t).1))

-- two writes in either order, where the first does not touch the second's instruction
pub either_order : (d e : Option ℕ) (x y : ℕ) (o : Operands) (rs : List ℕ) → touches d o ≡ false → o.dest ≡ e
    → write_reg e y (write_reg d x rs) ≡ write_reg d x (write_reg e y rs)
unfolding write_reg put_reg is_dest
either_order None None x y o rs h q = refl
either_order None (Some b) x y o rs h q = refl
either_order (Some a) None x y o rs h q = refl
either_order (Some a) (Some b) x y o rs h q = split (is_reg a)
    (λ t. split (is_reg b)
    (λ u. let n : eqb b a ≡ false = rw q at ((apart a o h t).2) in
    rw (t, u) (set_comm rs a b x y (λ z. eqb-false b a n (sym z))))
    (λ u. rw (t, u) refl))
    (λ t. rw t refl)
