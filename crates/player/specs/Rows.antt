-- The rows of RULES 23.7 and 25.5, played from their sheets' bytes: one table, one claim.
use Rattle.std.specs.Prelude.{ℕ, slice_index, replicate, true, List, [], ◌∷◌, ◌≡◌}
use Rattle.isa.specs.Machine.{zero_start}
use Rattle.sheet.specs.Samples.{mfsr_sheet, mfsr_table}
use Rattle.player.specs.Names.{BadCommand, BadLength, BadLimit, BadRegister, PlayHalted, PlayLoads, PlayRefused}
use Rattle.player.specs.Names.{PlaySpent, PlayStopped, Played, PlayerEnd, Start}
use Rattle.player.specs.Player.{played}

-- the end; instructions done, answers used, the address, R0 and register r
unfoldable pub seen : ℕ → Played → PlayerEnd × List ℕ
seen r p = (
  p.end,
  p.done ∷ p.used ∷ p.values.at.pc ∷ slice_index p.values.reg 0 ∷ slice_index p.values.reg r ∷ [],
)

-- a sheet's play with a limit, load answers and no special register, from the start with zeros
unfoldable pub row : List ℕ → ℕ → List ℕ → ℕ → PlayerEnd × List ℕ
row sheet limit answers r = seen r (played zero_start sheet answers [] limit)

-- the same in user mode
unfoldable pub user_start : Start
user_start =
    record { reg = zero_start.reg; at = zero_start.at; user = true; features = 0 }

-- the same with 9 in R0 and 5 in R1
unfoldable pub nine_start : Start
nine_start = record {
  reg = 9 ∷ 5 ∷ replicate 30 0;
  at = zero_start.at;
  user = zero_start.user;
  features = 0;
}

unfoldable pub halt_sheet : List ℕ
halt_sheet = 0x02 ∷ 0x00 ∷ 0x00 ∷ 0x00 ∷ 0x00 ∷ []

unfoldable pub load_sheet : List ℕ
load_sheet =
    0x21 ∷ 0x05 ∷ 0x00 ∷ 0x00 ∷ 0x08 ∷  -- LD R5,R0+8
    halt_sheet

-- ADDI R1,R0,7, then one record
unfoldable pub behind : List ℕ → List ℕ
behind l = 0x20 ∷ 0x01 ∷ 0x00 ∷ 0x00 ∷ 0x07 ∷ l

-- the table
pub record Rows : Type 0 where
  pub none : row halt_sheet 0 [] 0 ≡ (PlaySpent, 0 ∷ 0 ∷ 0 ∷ 0 ∷ 0 ∷ [])
  pub halt : row halt_sheet 1 [] 0 ≡ (PlayHalted, 1 ∷ 0 ∷ 4 ∷ 0 ∷ 0 ∷ [])
  -- the empty sheet offers Unknown 0 everywhere
  pub empty_none : row [] 0 [] 0 ≡ (PlaySpent, 0 ∷ 0 ∷ 0 ∷ 0 ∷ 0 ∷ [])
  pub empty : row [] 1 [] 0 ≡ (PlayStopped, 0 ∷ 0 ∷ 0 ∷ 0 ∷ 0 ∷ [])
  pub unanswered : row load_sheet 1000000 [] 5 ≡ (PlayLoads, 0 ∷ 0 ∷ 0 ∷ 0 ∷ 0 ∷ [])
  pub answered : row load_sheet 1000000 (21 ∷ []) 5 ≡ (PlayHalted, 2 ∷ 1 ∷ 8 ∷ 0 ∷ 21 ∷ [])
  -- one instruction allowed, and a load with no answer behind it: spent, not loads
  pub spent_first : row (behind load_sheet) 1 [] 1 ≡ (PlaySpent, 1 ∷ 0 ∷ 4 ∷ 0 ∷ 7 ∷ [])
  pub user : seen 0 (played user_start halt_sheet [] [] 1) ≡ (PlayStopped, 0 ∷ 0 ∷ 0 ∷ 0 ∷ 0 ∷ [])
  pub mtsr : row (behind (0x32 ∷ 0x01 ∷ 0x00 ∷ 0x00 ∷ 0x02 ∷ [])) 9 [] 1 ≡ (PlayStopped, 1 ∷ 0 ∷ 4 ∷ 0 ∷ 7 ∷ [])
  pub iret : row (behind (0x03 ∷ 0x00 ∷ 0x00 ∷ 0x00 ∷ 0x00 ∷ [])) 9 [] 1 ≡ (PlayStopped, 1 ∷ 0 ∷ 4 ∷ 0 ∷ 7 ∷ [])
  pub syscall : row (behind (0x54 ∷ 0x00 ∷ 0x00 ∷ 0x00 ∷ 0x01 ∷ [])) 9 [] 1 ≡ (PlayStopped, 1 ∷ 0 ∷ 4 ∷ 0 ∷ 7 ∷ [])
  pub unknown : row (behind (0x60 ∷ 0x00 ∷ 0x00 ∷ 0x00 ∷ 0x00 ∷ [])) 9 [] 1 ≡ (PlayStopped, 1 ∷ 0 ∷ 4 ∷ 0 ∷ 7 ∷ [])
  -- the limit, behind the length and the records
  pub most : row halt_sheet 1000000 [] 0 ≡ (PlayHalted, 1 ∷ 0 ∷ 4 ∷ 0 ∷ 0 ∷ [])
  pub over : row halt_sheet 1000001 [] 0 ≡ (PlayRefused BadLimit, 0 ∷ 0 ∷ 0 ∷ 0 ∷ 0 ∷ [])
  pub length : row (0x02 ∷ []) 1000001 [] 0 ≡ (PlayRefused BadLength, 0 ∷ 0 ∷ 0 ∷ 0 ∷ 0 ∷ [])
  pub record5 : row (behind (0x04 ∷ 0x00 ∷ 0x00 ∷ 0x00 ∷ 0x00 ∷ [])) 1000001 [] 0
      ≡ (PlayRefused BadCommand, 0 ∷ 0 ∷ 0 ∷ 0 ∷ 0 ∷ [])
  pub record1 : row (behind (0x20 ∷ 0x20 ∷ 0x00 ∷ 0x00 ∷ 0x00 ∷ [])) 1000001 [] 0
      ≡ (PlayRefused BadRegister, 0 ∷ 0 ∷ 0 ∷ 0 ∷ 0 ∷ [])
  -- R0's field comes back where the play is refused, and is 0 where it is played
  pub nine_refused : seen 1 (played nine_start halt_sheet [] [] 1000001) ≡ (PlayRefused BadLimit, 0 ∷ 0 ∷ 0 ∷ 9 ∷ 5 ∷ [])
  pub nine_played : seen 1 (played nine_start halt_sheet [] [] 1) ≡ (PlayHalted, 1 ∷ 0 ∷ 4 ∷ 0 ∷ 5 ∷ [])
  -- an answer is used once: LD R5,R0+8; LD R6,R0+8; HALT
  pub twice : row (0x21 ∷ 0x05 ∷ 0x00 ∷ 0x00 ∷ 0x08 ∷ 0x21 ∷ 0x06 ∷ 0x00 ∷ 0x00 ∷ 0x08 ∷ halt_sheet) 9 (21 ∷ 22 ∷ []) 6
      ≡ (PlayHalted, 3 ∷ 2 ∷ 12 ∷ 0 ∷ 22 ∷ [])
  -- MFSR, in a table of 4 words and of 3, in user mode, and into R0
  pub mfsr : seen 3 (played zero_start mfsr_sheet [] mfsr_table 9) ≡ (PlayHalted, 3 ∷ 0 ∷ 12 ∷ 0 ∷ 14 ∷ [])
  pub mfsr_outside : seen 3 (played zero_start mfsr_sheet [] (0 ∷ 0 ∷ 0 ∷ []) 9) ≡ (PlayStopped, 0 ∷ 0 ∷ 0 ∷ 0 ∷ 0 ∷ [])
  pub mfsr_user : seen 3 (played user_start mfsr_sheet [] mfsr_table 9) ≡ (PlayStopped, 0 ∷ 0 ∷ 0 ∷ 0 ∷ 0 ∷ [])
  pub mfsr_into_zero : seen 1 (played zero_start (0x33 ∷ 0x00 ∷ 0x00 ∷ 0x00 ∷ 0x03 ∷ halt_sheet) [] mfsr_table 9)
      ≡ (PlayHalted, 2 ∷ 0 ∷ 8 ∷ 0 ∷ 0 ∷ [])
