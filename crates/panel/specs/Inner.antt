-- Definitions that only the contracts of inner functions cite. No claim and no public promise rests on them.
use Rattle.std.specs.Prelude.{ℕ, nat_lt, length, cond, List, Result, Ok, Err, ⊤}
use Rattle.std.specs.Result.{result_and}
use Rattle.sheet.specs.Sheet.{bad_length, limited_check}
use Rattle.panel.specs.Names.{BadLength, HighPreview, LongPreview, Refusal}

-- of so many bytes, which are more than 1,280
unfoldable pub long_check : ℕ → Result ⊤ Refusal
long_check n = cond (bad_length n) (Err BadLength) (Err LongPreview)

-- with a limit above 10,000
unfoldable pub high_check : List ℕ → ℕ → Result ⊤ Refusal
high_check sheet limit = result_and (limited_check sheet limit) (Err HighPreview)

-- accepted where neither is above the panel's
unfoldable pub over_check : List ℕ → ℕ → Result ⊤ Refusal
over_check sheet limit =
    cond (nat_lt 1280 (length sheet)) (long_check (length sheet))
    (cond (nat_lt 10000 limit) (high_check sheet limit) (Ok tt))
