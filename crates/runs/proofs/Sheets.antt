-- The claims said of the runner on a sheet's bytes. Assumes nothing.
use Prim.Native.Nat.{◌≤◌, ℕ}
use borrow.Author.Tests.{le-ltb}
use mathlib.Core.Bool.{false}
use mathlib.Core.List.{List}
use mathlib.Core.Path.{◌≡◌}
use Rattle.std.specs.Prelude.{Ok}
use Rattle.accuracy.proofs.Bounds.{fresh_in}
use Rattle.pipeline.specs.Start.{fresh}
use Rattle.sheet.proofs.Fair.{sheet_fair}
use Rattle.sheet.proofs.Limit.{by_check}
use Rattle.sheet.specs.Sheet.{limited_check, sheet_check, sheet_source}
use Rattle.stages.specs.Refusals.{out_of_bounds}
use Rattle.runs.proofs.Halted.{run_halted}
use Rattle.runs.proofs.Halts.{run_halts}
use Rattle.runs.specs.Claims.{SheetHalted, SheetHalts}
use Rattle.runs.specs.Names.{PipelineCpu}
use Rattle.runs.specs.Run.{checked_run, play, ran, refused_run, reported, run_check}

-- the report of a run that is not refused before its first turn
ran_is : (s : PipelineCpu) (sheet l table : List ℕ) (limit : ℕ) → sheet_check sheet ≡ Ok tt → limit ≤ 1000000
    → out_of_bounds s.stages ≡ false
    → ran s sheet l table limit ≡ reported (play (sheet_source sheet table) limit l s)
unfolding ran run_check limited_check checked_run
ran_is s sheet l table limit e h b = rw (e, le-ltb 1000000 limit h, b)

pub sheet_halts_lem : SheetHalts
unfolding reported
sheet_halts_lem sheet table e v len limit l h N d r t =
    let k = run_halts (sheet_source sheet table) (sheet_fair sheet table e) v len limit l h N d r t in
    rw (ran_is (fresh v) sheet l table limit e h (fresh_in v))
    (k.end, k.retired)

pub sheet_halted_lem : SheetHalted
unfolding ran checked_run refused_run reported
sheet_halted_lem sheet table v len limit l =
    by_check (run_check (fresh v) sheet limit)
    (λ a. rw a (λ e. run_halted (sheet_source sheet table) v len limit l e))
    (λ d a. rw a (λ e. cc))
