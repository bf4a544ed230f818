-- The rows of RULES 24.5: one table, one claim.
use Rattle.std.specs.Prelude.{ℕ, length, true, List, [], ◌∷◌, ◌≡◌}
use Rattle.runs.specs.Rows.{halt_sheet}
use Rattle.runs.specs.Run.{ran, refused_run}
use Rattle.stages.specs.Refusals.{out_of_bounds}
use Rattle.panel.specs.Names.{BadCommand, BadLength, BadLimit, HighPreview, LongPreview, OutOfBounds, PipelineCpu}
use Rattle.panel.specs.Names.{Refusal}
use Rattle.panel.specs.Panel.{previewed}

-- the runner's result, whatever the state, the load answers and the table of special registers
abbrev pub Runs : List ℕ → ℕ → Type 0
Runs sheet limit = (s : PipelineCpu) (l t : List ℕ) → previewed s sheet l t limit ≡ ran s sheet l t limit

-- refused so, whatever these are
abbrev pub Refuses : List ℕ → ℕ → Refusal → Type 0
Refuses sheet limit r = (s : PipelineCpu) (l t : List ℕ) → previewed s sheet l t limit ≡ refused_run r s

-- so for every sheet of k bytes, whatever its records
abbrev pub RefusesLength : ℕ → ℕ → Refusal → Type 0
RefusesLength k limit r = (sheet : List ℕ) → length sheet ≡ k → Refuses sheet limit r

unfoldable pub unknown_sheet : List ℕ
unknown_sheet = 0x04 ∷ 0x00 ∷ 0x00 ∷ 0x00 ∷ 0x00 ∷ []  -- no such command

-- the table
pub record Rows : Type 0 where
  -- lengths: 256 records, and others
  pub longest : (sheet : List ℕ) → length sheet ≡ 1280 → Runs sheet 10000
  pub longer : RefusesLength 1285 10000 LongPreview
  pub odd : RefusesLength 1283 10000 BadLength
  pub runners_longest : RefusesLength 20480 10000 LongPreview
  pub runners_longer : RefusesLength 20485 10000 BadLength
  -- limits
  pub highest : Runs halt_sheet 10000
  pub higher : Refuses halt_sheet 10001 HighPreview
  pub runners_highest : Refuses halt_sheet 1000000 HighPreview
  pub runners_higher : Refuses halt_sheet 1000001 BadLimit
  -- 8 before the records and 7, a record before 9, 9 before 11
  pub both_over : RefusesLength 1285 1000001 LongPreview
  pub unknown : Refuses unknown_sheet 10001 BadCommand
  pub outside : (s : PipelineCpu) (l t : List ℕ) → out_of_bounds s.stages ≡ true
      → previewed s halt_sheet l t 10000 ≡ refused_run OutOfBounds s
