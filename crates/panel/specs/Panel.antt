-- The front panel's call: the runner, with two more tests.
use Rattle.std.specs.Prelude.{ℕ, nat_lt, length, cond, List, Result, Ok, Err, ⊤}
use Rattle.std.specs.Result.{result_and}
use Rattle.runs.specs.Run.{checked_run, ran}
use Rattle.sheet.specs.Sheet.{bad_length, limited_check}
use Rattle.panel.specs.Names.{BadLength, HighPreview, LongPreview, PipelineCpu, Ran, Refusal}

-- the check of a sheet and a limit: 6; 8: above 1,280 bytes; per record 5, 1; 7; 9: a limit above 10,000
unfoldable pub panel_check : List ℕ → ℕ → Result ⊤ Refusal
panel_check sheet limit =
    cond (bad_length (length sheet)) (Err BadLength)
    (cond (nat_lt 1280 (length sheet)) (Err LongPreview)
    (result_and (limited_check sheet limit)
    (cond (nat_lt 10000 limit) (Err HighPreview) (Ok tt))))

-- the panel's call: refused so, else the runner's run, which tests for 11
unfoldable pub previewed : PipelineCpu → List ℕ → List ℕ → List ℕ → ℕ → Ran
previewed s sheet answers table limit = checked_run (panel_check sheet limit) s (ran s sheet answers table limit)
