-- Writing events into a lent log.
use Rattle.std.specs.Prelude.{◌+◌, ℕ, drop, length, nat_le, take, Bool, cond, List, ◌++◌, Result, Ok, Err}
use Rattle.cardlog.specs.Names.{LogFull, Refusal}

-- bytes laid into a log from a place on: no other byte changes
unfoldable pub laid : List ℕ → ℕ → List ℕ → List ℕ
laid bs at l = take at l ++ bs ++ drop (at + length bs) l

-- bytes fit behind the first free place; where that is past the end, not even none do
unfoldable pub fits : List ℕ → ℕ → List ℕ → Bool
fits bs at l = nat_le (at + length bs) (length l)

-- 14, or the next free place
unfoldable pub next_free : List ℕ → ℕ → List ℕ → Result ℕ Refusal
next_free bs at l = cond (fits bs at l) (Ok (at + length bs)) (Err LogFull)

-- the log then: refused, it is as it was
unfoldable pub log_written : List ℕ → ℕ → List ℕ → List ℕ
log_written bs at l = cond (fits bs at l) (laid bs at l) l
