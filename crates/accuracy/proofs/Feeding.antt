-- The answers that a list of ticks feeds the one-at-a-time machine, whatever it makes of one. Assumes nothing.
use Prim.Native.Nat.{ℕ}
use mathlib.Core.Bool.{Bool, cond, false, true}
use mathlib.Core.List.{List, [], ◌++◌, ◌∷◌, append_assoc}
use mathlib.Core.Path.{◌∙◌, ◌≡◌, ap, refl, sym}
use Rattle.std.specs.Prelude.{Err, Ok, Result, ⊤}
use Rattle.isa.specs.Machine.{Program, first, is_empty, rest}
use Rattle.pipeline.specs.Retire.{retire}
use Rattle.pipeline.specs.Tick.{tick, word_in}
use Rattle.stages.specs.Loads.{want_load}
use Rattle.accuracy.proofs.Took.{answer_is, answer_none, took}
use Rattle.accuracy.specs.Accuracy.{Run, answers, fed, one}
use Rattle.accuracy.specs.Names.{Given, PipelineCpu, Refusal}

-- the answer that an accepted tick gives is what the machine makes of the next one left
pub record Feeds (g : Program) (s : PipelineCpu) (t : Given) (left left' : List ℕ) : Type 0 where
  pub asked : want_load s.stages ≡ true
      → (is_empty left ≡ false) × (g.take (retire s).stages.ex_mem.mem_size (first left) ≡ word_in t.answer)
  pub next : left' ≡ cond (want_load s.stages) (rest left) left

unfoldable pub FeedsBy : Program → Result PipelineCpu Refusal → PipelineCpu → Given → List ℕ → List ℕ → Type 0
FeedsBy g (Err c) s t left left' = left ≡ left'
FeedsBy g (Ok x) s t left left' = Feeds g s t left left'

-- a list of ticks that feeds the machine the answers `left`
unfoldable pub Fed : Program → Run → List ℕ → List Given → Type 0
Fed g r left [] = ⊤
Fed g r left (t ∷ ts) =
    (left' : List ℕ) × FeedsBy g (tick r.state t) r.state t left left' × Fed g (one r t) left' ts

-- a list's ticks feed the machine that takes its answers whole
pub feeds_whole : (g : Program) (s : PipelineCpu) (t : Given) (o : Result PipelineCpu Refusal) (left left' : List ℕ)
    → ((w v : ℕ) → g.take w v ≡ v)
    → tick s t ≡ o → left ≡ fed o t ++ left' → FeedsBy g o s t left left'
unfolding FeedsBy fed is_empty first rest
feeds_whole g s t (Err c) left left' h e q = q
feeds_whole g s t (Ok x) left left' h e q =
    let k = took s t x e in
    let by : (b : Bool) → want_load s.stages ≡ b → left' ≡ cond b (rest left) left =
    λ b. elim b as (λ b. want_load s.stages ≡ b → left' ≡ cond b (rest left) left) [
      | true ↦ λ z. sym
          (ap (λ (y : List ℕ). rest y)
          (q ∙ ap (λ (y : List ℕ). y ++ left') (answer_is t.answer (want_load s.stages) k.is_load z)))
      | false ↦ λ z. sym
          (q ∙ ap (λ (y : List ℕ). y ++ left') (answer_none t.answer (want_load s.stages) k.is_load z))
    ] in
    record {
      asked = λ z. let y = q ∙ ap (λ (x : List ℕ). x ++ left')
          (answer_is t.answer (want_load s.stages) k.is_load z)
          in
          (ap (λ (x : List ℕ). is_empty x) y, h _ _ ∙ ap (λ (x : List ℕ). first x) y);
      next = by (want_load s.stages) refl;
    }

pub fed_whole : (g : Program) → ((w v : ℕ) → g.take w v ≡ v) → (ts : List Given) (r : Run) (more : List ℕ) → Fed g r
    (answers r ts ++ more) ts
unfolding Fed answers
fed_whole g h [] r more = tt
fed_whole g h (t ∷ ts) r more = (
  answers (one r t) ts ++ more,
  feeds_whole g r.state t (tick r.state t) _ _ h refl
      (append_assoc (fed (tick r.state t) t) (answers (one r t) ts) more),
  fed_whole g h ts (one r t) more,
)
