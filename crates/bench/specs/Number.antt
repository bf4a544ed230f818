-- A number of four bytes.
use Rattle.std.specs.Prelude.{◌*◌, ◌+◌, ℕ, slice_index, List}

-- four bytes as a number, high byte first
unfoldable pub joined : ℕ → ℕ → ℕ → ℕ → ℕ
joined a b c d = ((a * 256 + b) * 256 + c) * 256 + d

-- the number of the four bytes from k on; bytes past the end are 0
unfoldable pub number_at : List ℕ → ℕ → ℕ
number_at l k = joined (slice_index l k) (slice_index l (k + 1)) (slice_index l (k + 2)) (slice_index l (k + 3))
