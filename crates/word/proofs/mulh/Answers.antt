-- The product of two signed words fits 64 bits, so its high word loses nothing.
use Rattle.std.proofs.Common.{rules, ◌≡◌, ℕ, arith, w32, w64, ℤ, ◌*ℤ◌, FitsSigned, to_z, of_z}
use Rattle.std.proofs.lemmas.Int.{to_z-of_z, of_z-to_z, ints}
use Rattle.std.specs.Int.Signed.{shr_z, mag_shr}
use Rattle.word.proofs.mulh.Goals as goal
use Rattle.word.specs.Words.{mulh32}

high : (a b x y : ℤ) (k : ℕ) → x ≡ a → y ≡ b → FitsSigned w64 (a *ℤ b) →
    to_z w64 (of_z w64 (shr_z (to_z w64 (of_z w64 (x *ℤ y))) k)) ≡ shr_z (a *ℤ b) k
high a b x y k p q f = grind (arith, to_z-of_z, mag_shr)

pub returns : goal.returns
unfolding mulh32
returns c =
    let x : to_z w64 (of_z w64 c.from.result) ≡ to_z w32 c.args.a = omega (arith, ints) in
    let y : to_z w64 (of_z w64 c.from-2.result) ≡ to_z w32 c.args.b = omega (arith, ints) in
    let f : FitsSigned w64 (to_z w32 c.args.a *ℤ to_z w32 c.args.b) = search rules in
    let h = high _ _ _ _ 4294967296 x y f in
    grind (arith, of_z-to_z)
