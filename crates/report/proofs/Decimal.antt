-- Decimal digits are those that the digits' function puts. Assumes nothing.
use Rattle.std.proofs.Common.{◌≡◌, ℕ, ◌%◌, ◌/◌, ◌-◌, ◌<◌, ◌∙◌, zero, suc, List, length, take, drop, refl, arith, length-drop}
use Rattle.std.proofs.lemmas.List.{take_all}
use borrow.Author.Tests.{lt-ltb}
use Rattle.digits.specs.Digits.{digit, digits_in as put_in, digits_of, radix}
use Rattle.digits.specs.declared.Base.TheVariants.{Decimal}
use Rattle.report.specs.Ascii.{decimal, digits_in}

put_in_ten : (k n : ℕ) → put_in 10 k n ≡ digits_in k n
unfolding put_in digits_in digit
put_in_ten zero n = refl
put_in_ten (suc k) n =
    let h : n % 10 < 10 = omega arith in
    rw (put_in_ten k (n / 10), lt-ltb (n % 10) 10 h)

decimal_is : (n : ℕ) → digits_of Decimal n ≡ decimal n
unfolding digits_of decimal radix
decimal_is n = put_in_ten 20 n

-- all that stands behind a place in the array
pub decimal_from : (n from : ℕ) (xs : List ℕ) → length xs ≡ 20 → drop from xs ≡ digits_of Decimal n
    → take (20 - from) (drop from xs) ≡ decimal n
decimal_from n from xs long e = take_all _ _ (omega (arith, length-drop from xs)) ∙ e ∙ decimal_is n
