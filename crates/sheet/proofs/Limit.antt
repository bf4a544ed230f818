-- A sheet and a limit that are not refused. Assumes nothing.
use Prim.Native.Nat.{◌≤◌, ℕ}
use borrow.Author.Tests.{ltb-false}
use lib.Dec.{ltb}
use mathlib.Core.List.{List}
use mathlib.Core.Path.{◌≡◌, refl}
use Rattle.isa.proofs.Bools.{split}
use Rattle.std.specs.Prelude.{Result, Ok, Err, ⊤}
use Rattle.sheet.specs.Names.{Refusal}
use Rattle.sheet.specs.Sheet.{limited_check, max_limit, sheet_check}

-- a check by cases, with its equation
pub by_check : {C : Type 0} (r : Result ⊤ Refusal) → (r ≡ Ok tt → C) → ((e : Refusal) → r ≡ Err e → C) → C
by_check (Ok x) p q = p refl
by_check (Err e) p q = q e refl

pub limited : (l : List ℕ) (limit : ℕ) → limited_check l limit ≡ Ok tt → (sheet_check l ≡ Ok tt) × (limit ≤ max_limit)
unfolding limited_check
limited l limit e = by_check (sheet_check l)
    (λ a. split (ltb max_limit limit)
    (λ b. absurd (let z = rw (a, b) at e in cc))
    (λ b. (a, ltb-false max_limit limit b)))
    (λ d a. absurd (let z = rw a at e in cc))
