-- A sheet with MFSR and its table, which the rows of several crates play (RULES 25.5).
use Rattle.std.specs.Prelude.{ℕ, List, [], ◌∷◌}

unfoldable pub mfsr_sheet : List ℕ
mfsr_sheet =
    0x33 ∷ 0x01 ∷ 0x00 ∷ 0x00 ∷ 0x03 ∷  -- MFSR R1,3
    0x10 ∷ 0x03 ∷ 0x01 ∷ 0x01 ∷ 0x00 ∷  -- ADD R3,R1,R1
    0x02 ∷ 0x00 ∷ 0x00 ∷ 0x00 ∷ 0x00 ∷  -- HALT
    []

-- registers 0 to 3, of which 3 is 7
unfoldable pub mfsr_table : List ℕ
mfsr_table = 0 ∷ 0 ∷ 0 ∷ 7 ∷ []
