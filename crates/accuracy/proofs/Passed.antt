-- A verdict that refuses nothing has passed every test. Assumes nothing.
use mathlib.Core.Bool.{false, false≢true, true}
use mathlib.Core.Path.{◌≡◌, ap, refl}
use Rattle.std.specs.Prelude.{Ok, is_ok, ⊤}
use Rattle.pipeline.specs.Refusals.{Tests, pass, test, verdict}

unfoldable pub Passed : Tests → Type 0
Passed pass = ⊤
Passed (test b c d) = (b ≡ false) × Passed d

pub passed : {A : Type 0} (d : Tests) (x y : A) → verdict d x ≡ Ok y → Passed d × (x ≡ y)
unfolding verdict Passed
passed pass x y e = (tt, cc)
passed (test true c d) x y e = absurd (false≢true (ap is_ok e))
passed (test false c d) x y e = let r = passed d x y e in ((refl, r.0), r.1)
