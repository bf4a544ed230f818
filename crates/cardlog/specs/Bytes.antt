-- The bytes of events.
use Rattle.std.specs.Prelude.{◌%◌, ◌/◌, ℕ, List, [], ◌++◌, ◌∷◌}
use Rattle.cardlog.specs.Names.{Event, Loaded, Retired, Stored, Written}

-- a word's four bytes, high byte first
unfoldable pub four : ℕ → List ℕ
four n = n / 16777216 ∷ n / 65536 % 256 ∷ n / 256 % 256 ∷ n % 256 ∷ []

-- 82 or 83: address, width, word
unfoldable pub access_bytes : ℕ → ℕ → ℕ → ℕ → List ℕ
access_bytes command addr width word = command ∷ four addr ++ (width ∷ four word)

-- an event's command, and what it says
unfoldable pub bytes_of : Event → List ℕ
bytes_of (Retired pc) = 0x80 ∷ four pc
bytes_of (Written register word) = 0x81 ∷ register ∷ four word
bytes_of (Loaded addr width word) = access_bytes 0x82 addr width word
bytes_of (Stored addr width word) = access_bytes 0x83 addr width word

-- those of events in a row
unfoldable pub bytes : List Event → List ℕ
bytes [] = []
bytes (e ∷ es) = bytes_of e ++ bytes es
