-- The first ticks of a list. Assumes nothing.
use Prim.Native.Nat.{◌+◌, ◌≤◌, suc, ℕ}
use lib.ListN.{length}
use mathlib.Core.List.{List, [], ◌++◌, ◌∷◌}
use mathlib.Core.Path.{◌≡◌, refl}
use native.Mathlib.Omega.{arith}
use Rattle.std.specs.Prelude.{Result, Ok, Err}
use Rattle.accuracy.proofs.Feeding.{Fed}
use Rattle.accuracy.proofs.Offers.{AllMeet}
use Rattle.accuracy.specs.Accuracy.{Run, after, one, one_by}
use Rattle.isa.specs.Machine.{Program}
use Rattle.pipeline.specs.Tick.{tick}
use Rattle.agreement.specs.Names.{Given, PipelineCpu, Refusal}

pub meet_part : (g : Program) (pre post : List Given) (r : Run) → AllMeet g r (pre ++ post) → AllMeet g r pre
unfolding AllMeet
meet_part g [] post r h = tt
meet_part g (t ∷ pre) post r h = (h.0, meet_part g pre post (one r t) h.1)

pub fed_part : (g : Program) (pre post : List Given) (r : Run) (l : List ℕ) → Fed g r l (pre ++ post) → Fed g r l pre
unfolding Fed
fed_part g [] post r l h = tt
fed_part g (t ∷ pre) post r l h = (h.0, h.1, fed_part g pre post (one r t) h.0 h.2)

-- no more ticks are accepted than there are
one_le : (o : Result PipelineCpu Refusal) (t : Given) (r : Run) → (one_by o t r).accepted ≤ suc r.accepted
unfolding one_by
one_le (Err c) t r = omega arith
one_le (Ok s) t r = omega arith

pub accepted_le : (ts : List Given) (r : Run) → (after r ts).accepted ≤ r.accepted + length ts
unfolding after one
accepted_le [] r = omega arith
accepted_le (t ∷ ts) r =
    let a = accepted_le ts (one r t) in let b = one_le (tick r.state t) t r in omega arith

pub part_length : (pre post : List Given) → length pre ≤ length (pre ++ post)
part_length [] post = omega arith
part_length (t ∷ pre) post = let a = part_length pre post in omega arith

-- one tick behind a list
pub after_last : (pre : List Given) (t : Given) (r : Run) → after r (pre ++ t ∷ []) ≡ one (after r pre) t
unfolding after
after_last [] t r = refl
after_last (x ∷ pre) t r = after_last pre t (one r x)
