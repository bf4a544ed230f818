-- What a lent buffer holds after a text was written into it.
use Rattle.std.specs.Prelude.{min, ℕ, drop, length, take, List, ◌++◌}

-- the text, then what the buffer held behind it; a text that is longer than the buffer is cut off at the buffer's end
unfoldable pub written : List ℕ → List ℕ → List ℕ
written text buffer = take (length buffer) (text ++ drop (length text) buffer)

-- how many bytes of it stand in the buffer: all where they fit
unfoldable pub written_count : List ℕ → List ℕ → ℕ
written_count text buffer = min (length text) (length buffer)
