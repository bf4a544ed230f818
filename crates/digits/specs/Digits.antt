-- A number's digits in a base, as bytes.
use Rattle.std.specs.Prelude.{◌%◌, ◌+◌, ◌/◌, suc, zero, ℕ, nat_lt, cond, List, [], ◌++◌, ◌∷◌}
use Rattle.digits.specs.declared.Base.TheVariants.{Decimal, Hexadecimal}
use Rattle.digits.specs.declared.Base.{Base}

-- how many digits a base has
unfoldable pub radix : Base → ℕ
radix Decimal = 10
radix Hexadecimal = 16

-- the digit of d, 0 to 9 and a to f; 48 is the byte of 0, 97 that of a
unfoldable pub digit : ℕ → ℕ
digit d = cond (nat_lt d 10) (48 + d) (87 + d)

-- the digits of n in base b, a number of at most k digits, without leading zeros
unfoldable pub digits_in : ℕ → ℕ → ℕ → List ℕ
digits_in b zero n = []
digits_in b (suc k) n = cond (nat_lt n b) [] (digits_in b k (n / b)) ++ (digit (n % b) ∷ [])

-- the digits of a number of 64 bits, at most 20
unfoldable pub digits_of : Base → ℕ → List ℕ
digits_of b n = digits_in (radix b) 20 n
