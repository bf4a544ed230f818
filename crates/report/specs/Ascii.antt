-- Text as a list of bytes: decimal numbers and lines. The bytes of a quoted text are the library's `codes`.
use Rattle.std.specs.Prelude.{◌%◌, ◌+◌, ◌/◌, suc, zero, ℕ, nat_lt, codes, cond, List, [], ◌++◌, ◌∷◌}

-- the decimal digits of n, a number of at most k digits, without leading zeros; 48 is the byte of 0
unfoldable pub digits_in : ℕ → ℕ → List ℕ
digits_in zero n = []
digits_in (suc k) n = cond (nat_lt n 10) [] (digits_in k (n / 10)) ++ ((48 + n % 10) ∷ [])

-- a number in decimal; one of 64 bits has at most 20 digits
unfoldable pub decimal : ℕ → List ℕ
decimal n = digits_in 20 n

-- what follows a line's name: a space, a number, the line's end
unfoldable pub value : ℕ → List ℕ
value n = codes " " ++ (decimal n ++ codes "\n")

-- a line
unfoldable pub line : List ℕ → ℕ → List ℕ
line name n = name ++ value n
