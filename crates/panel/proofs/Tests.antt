-- The panel's call beside the runner. Assumes nothing.
use Prim.Native.Nat.{◌<◌, ◌≤◌, ℕ}
use borrow.Author.Tests.{le-ltb, lt-ltb, ltb-false, ltb-true}
use lib.Dec.{ltb}
use lib.ListN.{length}
use mathlib.Core.Bool.{cond, true}
use mathlib.Core.List.{List}
use mathlib.Core.Path.{◌∙◌, ◌≡◌, ap, sym}
use Rattle.std.specs.Prelude.{Err, Ok, Result, ⊤}
use Rattle.std.specs.Result.{result_and}
use Rattle.isa.proofs.Bools.{split}
use Rattle.pipeline.specs.Start.{fresh}
use Rattle.runs.proofs.Sheets.{sheet_halted_lem}
use Rattle.runs.specs.Run.{checked_run, ran, refused_run, run_check}
use Rattle.sheet.proofs.Limit.{by_check}
use Rattle.sheet.specs.Sheet.{bad_length, limited_check, sheet_check}
use Rattle.panel.specs.Claims.{AcceptedToo, AcceptedWithin, NeitherEightNorNine, PreviewHalted, SameResult}
use Rattle.panel.specs.Inner.{high_check, long_check, over_check}
use Rattle.panel.specs.Names.{BadLength, EndRefused, HighPreview, LongPreview, PipelineCpu, Ran, Refusal}
use Rattle.panel.specs.Panel.{panel_check, previewed}

-- a length that is refused
bad_limited : (sheet : List ℕ) (limit : ℕ) → bad_length (length sheet) ≡ true → limited_check sheet limit ≡ Err BadLength
unfolding limited_check sheet_check
bad_limited sheet limit e = rw e

-- the panel's check is 8, 9, or the runner's of the sheet and the limit
data Tested (sheet : List ℕ) (limit : ℕ) : Type 0 where
  eight : panel_check sheet limit ≡ Err LongPreview → Tested sheet limit
  nine : panel_check sheet limit ≡ Err HighPreview → Tested sheet limit
  runners : panel_check sheet limit ≡ limited_check sheet limit → Tested sheet limit

-- where the length is not passed, 9 comes behind the runner's
short : (sheet : List ℕ) (limit : ℕ) → length sheet ≤ 1280 → panel_check sheet limit
    ≡ result_and (limited_check sheet limit) (cond (ltb 10000 limit) (Err HighPreview) (Ok tt))
unfolding panel_check
short sheet limit h = split (bad_length (length sheet))
    (λ a. rw (a, bad_limited sheet limit a))
    (λ a. rw (a, le-ltb 1280 (length sheet) h))

-- the runner's refusal
runners_refused : (sheet : List ℕ) (limit : ℕ) (r : Refusal) → length sheet ≤ 1280
    → limited_check sheet limit ≡ Err r → panel_check sheet limit ≡ Err r
runners_refused sheet limit r h e = short sheet limit h ∙ rw e

-- 9, where the runner accepts
high : (sheet : List ℕ) (limit : ℕ) → length sheet ≤ 1280 → 10000 < limit → limited_check sheet limit ≡ Ok tt
    → panel_check sheet limit ≡ Err HighPreview
high sheet limit h g e = short sheet limit h ∙ rw (e, lt-ltb 10000 limit g)

-- neither bound is passed
pub within : (sheet : List ℕ) (limit : ℕ) → length sheet ≤ 1280 → limit ≤ 10000
    → panel_check sheet limit ≡ limited_check sheet limit
within sheet limit h g = by_check (limited_check sheet limit)
    (λ e. short sheet limit h ∙ rw (e, le-ltb 10000 limit g))
    (λ r e. runners_refused sheet limit r h e ∙ sym e)

tested : (sheet : List ℕ) (limit : ℕ) → Tested sheet limit
unfolding panel_check
tested sheet limit = split (bad_length (length sheet))
    (λ a. runners (rw (a, bad_limited sheet limit a)))
    (λ a. split (ltb 1280 (length sheet))
    (λ b. eight (rw (a, b)))
    (λ b. let h = ltb-false 1280 (length sheet) b in
    by_check (limited_check sheet limit)
    (λ e. split (ltb 10000 limit)
    (λ d. nine (high sheet limit h (ltb-true 10000 limit d) e))
    (λ d. runners (within sheet limit h (ltb-false 10000 limit d))))
    (λ r e. runners (runners_refused sheet limit r h e ∙ sym e))))

-- refused
pub refused_is : (s : PipelineCpu) (sheet l t : List ℕ) (limit : ℕ) (r : Refusal) → panel_check sheet limit ≡ Err r
    → previewed s sheet l t limit ≡ refused_run r s
unfolding previewed checked_run
refused_is s sheet l t limit r e = rw e

-- as the runner
pub runners_is : (s : PipelineCpu) (sheet l t : List ℕ) (limit : ℕ) → panel_check sheet limit ≡ limited_check sheet limit
    → previewed s sheet l t limit ≡ ran s sheet l t limit
unfolding previewed ran run_check checked_run
runners_is s sheet l t limit e = by_check (limited_check sheet limit)
    (λ a. rw (e, a))
    (λ r a. rw (e, a))

refused_end : (s : PipelineCpu) (sheet l t : List ℕ) (limit : ℕ) (r : Refusal) → panel_check sheet limit ≡ Err r
    → (previewed s sheet l t limit).end ≡ EndRefused r
unfolding refused_run
refused_end s sheet l t limit r e = ap (λ (x : Ran). x.end) (refused_is s sheet l t limit r e)

-- by what the tests gave
neither_by : (s : PipelineCpu) (sheet l t : List ℕ) (limit : ℕ) → Tested sheet limit
    → ((previewed s sheet l t limit).end ≡ EndRefused LongPreview → ⊥)
    → ((previewed s sheet l t limit).end ≡ EndRefused HighPreview → ⊥)
    → previewed s sheet l t limit ≡ ran s sheet l t limit
neither_by s sheet l t limit (eight e) p q = absurd (p (refused_end s sheet l t limit LongPreview e))
neither_by s sheet l t limit (nine e) p q = absurd (q (refused_end s sheet l t limit HighPreview e))
neither_by s sheet l t limit (runners e) p q = runners_is s sheet l t limit e

pub neither : NeitherEightNorNine
neither s sheet l t limit p q = neither_by s sheet l t limit (tested sheet limit) p q

pub same_result : SameResult
unfolding previewed checked_run
same_result s sheet l t limit e = rw e

accepted_by : (sheet : List ℕ) (limit : ℕ) → Tested sheet limit → panel_check sheet limit ≡ Ok tt
    → limited_check sheet limit ≡ Ok tt
accepted_by sheet limit (eight e) z = cc
accepted_by sheet limit (nine e) z = cc
accepted_by sheet limit (runners e) z = sym e ∙ z

pub accepted_too : AcceptedToo
accepted_too sheet limit e = accepted_by sheet limit (tested sheet limit) e

pub accepted_within : AcceptedWithin
accepted_within sheet limit e h g = within sheet limit h g ∙ e

-- a halted preview is the runner's
pub preview_halted : PreviewHalted
preview_halted sheet t v len limit l e =
    let z = neither (fresh v) sheet l t limit (λ q. cc) (λ q. cc) in
    rw z (sheet_halted_lem sheet t v len limit l (sym (ap (λ (r : Ran). r.end) z) ∙ e))

-- what the code tests first: where it refuses, the panel's check refuses so
pub over_is : (sheet : List ℕ) (limit : ℕ) (r : Refusal) → over_check sheet limit ≡ Err r
    → panel_check sheet limit ≡ Err r
unfolding over_check long_check high_check panel_check
over_is sheet limit r h = split (ltb 1280 (length sheet))
    (λ a. split (bad_length (length sheet))
    (λ b. rw (a, b) (rw (a, b) at h))
    (λ b. rw (a, b) (rw (a, b) at h)))
    (λ a. split (ltb 10000 limit)
    (λ b. split (bad_length (length sheet))
    (λ d. rw d (rw (a, b, bad_limited sheet limit d) at h))
    (λ d. rw (a, b, d) (rw (a, b) at h)))
    (λ b. let z : ◌≡◌ {A = Result ⊤ Refusal} (Ok tt) (Err r) = rw (a, b) at h in cc))

-- and so of the whole call
pub over_refused : (s : PipelineCpu) (sheet l t : List ℕ) (limit : ℕ) (r : Refusal) → over_check sheet limit ≡ Err r
    → previewed s sheet l t limit ≡ refused_run r s
over_refused s sheet l t limit r e = refused_is s sheet l t limit r (over_is sheet limit r e)

-- where it accepts, neither bound is passed, and the code leaves every test to the runner
pub not_over : (s : PipelineCpu) (sheet l t : List ℕ) (limit : ℕ) → over_check sheet limit ≡ Ok tt
    → previewed s sheet l t limit ≡ ran s sheet l t limit
unfolding over_check long_check high_check
not_over s sheet l t limit e = split (ltb 1280 (length sheet))
    (λ a. split (bad_length (length sheet))
    (λ b. let z : ◌≡◌ {A = Result ⊤ Refusal} (Err BadLength) (Ok tt) = rw (a, b) at e in cc)
    (λ b. let z : ◌≡◌ {A = Result ⊤ Refusal} (Err LongPreview) (Ok tt) = rw (a, b) at e in cc))
    (λ a. split (ltb 10000 limit)
    (λ b. by_check (limited_check sheet limit)
    (λ d. let z : ◌≡◌ {A = Result ⊤ Refusal} (Err HighPreview) (Ok tt) = rw (a, b, d) at e in cc)
    (λ r d. let z : ◌≡◌ {A = Result ⊤ Refusal} (Err r) (Ok tt) = rw (a, b, d) at e in cc))
    (λ b. runners_is s sheet l t limit
    (within sheet limit (ltb-false 1280 (length sheet) a) (ltb-false 10000 limit b))))
