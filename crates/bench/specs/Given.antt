-- What a program of the bench is given by the bytes that it reads and the load answers that it has.
use Rattle.std.specs.Prelude.{◌≡◌, ℕ, drop, List, []}
use Rattle.bench.specs.Number.{number_at}
use Rattle.bench.specs.declared.Given.{Given}

-- rounds, then a limit, then the sheet; no special register
pub record IsGiven (input lent : List ℕ) (g : Given) : Type 0 where
  pub rounds : g.rounds ≡ number_at input 0
  pub limit : g.inputs.limit ≡ number_at input 4
  pub sheet : g.inputs.sheet.now ≡ drop 8 input
  pub answers : g.inputs.answers.now ≡ lent
  pub table : g.inputs.table.now ≡ []
