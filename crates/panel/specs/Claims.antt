-- Read this first: what the panel's call and the runner have in common. Here: Panel (the call), Rows. Elsewhere: runs
-- has the runner and its claims, sheet the refusals of a sheet and a limit.
use Rattle.std.specs.Prelude.{◌≤◌, ℕ, length, List, ◌≡◌, Ok}
use Rattle.isa.specs.Machine.{arch_with, program_of}
use Rattle.pipeline.specs.Start.{fresh}
use Rattle.runs.specs.Claims.{HaltedReport}
use Rattle.runs.specs.Run.{ran}
use Rattle.sheet.specs.Sheet.{limited_check, sheet_source}
use Rattle.panel.specs.Names.{EndRefused, Halted, HighPreview, LongPreview, PipelineCpu, Start}
use Rattle.panel.specs.Panel.{panel_check, previewed}
use Rattle.panel.specs.Rows.{Rows}

-- Wherever the panel gives neither 8 nor 9, its result is the runner's, refusals too.
abbrev pub NeitherEightNorNine : Type 0
NeitherEightNorNine =
    (s : PipelineCpu) (sheet l t : List ℕ) (limit : ℕ)
    → let r = previewed s sheet l t limit in
    (r.end ≡ EndRefused LongPreview → ⊥) → (r.end ≡ EndRefused HighPreview → ⊥) → r ≡ ran s sheet l t limit

-- What the panel accepts of sheets and limits, the runner accepts;
abbrev pub AcceptedToo : Type 0
AcceptedToo = (sheet : List ℕ) (limit : ℕ) → panel_check sheet limit ≡ Ok tt → limited_check sheet limit ≡ Ok tt

-- and what the runner accepts, within its own two bounds the panel accepts.
abbrev pub AcceptedWithin : Type 0
AcceptedWithin =
    (sheet : List ℕ) (limit : ℕ)
    → limited_check sheet limit ≡ Ok tt → length sheet ≤ 1280 → limit ≤ 10000 → panel_check sheet limit ≡ Ok tt

-- A sheet and a limit that both accept, with the same state, load answers and table of special registers, give both the
-- same result. So every claim about runs holds of the panel's.
abbrev pub SameResult : Type 0
SameResult =
    (s : PipelineCpu) (sheet l t : List ℕ) (limit : ℕ)
    → panel_check sheet limit ≡ Ok tt → previewed s sheet l t limit ≡ ran s sheet l t limit

-- For one: a preview from a fresh state that ends halted has the formula's ticks and the machine's registers.
abbrev pub PreviewHalted : Type 0
PreviewHalted =
    (sheet t : List ℕ) (v : Start) → length v.reg ≡ 32 → (limit : ℕ) (l : List ℕ)
    → let r = previewed (fresh v) sheet l t limit in
    r.end ≡ Halted
    → HaltedReport (program_of (sheet_source sheet t) v) (arch_with v l) r.state.counts.instructions_executed r

-- Everything claimed; proved in proofs/Claims.antt.
pub record Claims : Type 0 where
  pub neither : NeitherEightNorNine
  pub accepted : AcceptedToo
  pub within : AcceptedWithin
  pub same : SameResult
  pub halted : PreviewHalted
  pub rows : Rows
