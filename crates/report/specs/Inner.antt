-- Facts that only the contracts of inner functions cite. No public promise rests on them.
use Rattle.std.specs.Prelude.{◌≡◌, ℕ, List, ◌++◌}
use Rattle.report.specs.Written.{written, written_count}
use Rattle.report.specs.declared.Text.{Text}

-- of a buffer that held l, what stands there now is a text that was written into it
pub record Holds (l text : List ℕ) (b : Text) : Type 0 where
  pub buffer : b.out.now ≡ written text l
  pub len : b.len ≡ written_count text l

-- putting text t behind what b holds gives c, in the same buffer
pub record Puts (b : Text) (t : List ℕ) (c : Text) : Type 0 where
  pub same_reference : c.out.ghost_name ≡ b.out.ghost_name
  pub behind : (l text : List ℕ) → Holds l text b → Holds l (text ++ t) c
