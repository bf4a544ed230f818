-- The rows of RULES 22.1 and 25.5, run from their sheets' bytes: one table, one claim.
use Rattle.std.specs.Prelude.{ℕ, slice_index, replicate, Bool, false, true, List, [], ◌∷◌, map, ◌≡◌, Option, None, Some}
use Rattle.isa.specs.Machine.{zero_start}
use Rattle.latch.specs.Bounds.{bad_width}
use Rattle.pipeline.specs.Start.{fresh}
use Rattle.sheet.specs.Samples.{mfsr_sheet, mfsr_table}
use Rattle.sheet.specs.Sheet.{sheet_source}
use Rattle.word.specs.Rows.{Rows as Arithmetic}
use Rattle.runs.specs.Names.{End, EndRefused, Faulty, Halted, Loads, Normal, Ran, Spent, Start}
use Rattle.runs.specs.Run.{play, ran}

-- the end; ticks used, retired, stalls, flushes, and register r
unfoldable pub seen : ℕ → Ran → End × List ℕ
seen r p = (
  p.end,
  p.ticks ∷ p.state.counts.instructions_executed ∷ p.state.counts.stall_cycles
      ∷ p.state.counts.flush_events ∷ slice_index p.state.reg r ∷ [],
)

-- a sheet's run with a tick limit, load answers and no special register, from address 0, Normal, supervisor, registers
-- and feature word 0
unfoldable pub row : List ℕ → ℕ → List ℕ → ℕ → End × List ℕ
row sheet limit answers r = seen r (ran (fresh zero_start) sheet answers [] limit)

-- a sheet's run with a table, from a start's values; and what each of its ticks said of a special register
unfoldable pub table_row : Start → List ℕ → List ℕ → List ℕ → ℕ → (End × List ℕ) × List (Option (Option ℕ))
table_row v sheet table answers r = (
  seen r (ran (fresh v) sheet answers table 1000000),
  map (λ t. t.special) (play (sheet_source sheet table) 1000000 answers (fresh v)).ticks,
)

-- a sheet's run with a tick limit from a fresh state, running or not, with ticks left of a wait for the memory; and the
-- ticks left then
unfoldable pub wait_row : List ℕ → Bool → ℕ → ℕ → (End × List ℕ) × ℕ
wait_row sheet running left limit =
    let s = fresh zero_start in
    let r = ran (record s { stages = record s.stages { running = running; wait_left = left } }) sheet [] [] limit in
    (seen 0 r, r.state.stages.wait_left)

-- the start with zeros, but in user mode
unfoldable pub user_start : Start
user_start = record { reg = replicate 32 0; at = record { pc = 0; mode = Normal }; user = true; features = 0 }

unfoldable pub halt_sheet : List ℕ
halt_sheet = 0x02 ∷ 0x00 ∷ 0x00 ∷ 0x00 ∷ 0x00 ∷ []

unfoldable pub load_sheet : List ℕ
load_sheet =
    0x21 ∷ 0x05 ∷ 0x00 ∷ 0x00 ∷ 0x08 ∷  -- LD R5,R0+8
    0x10 ∷ 0x06 ∷ 0x05 ∷ 0x05 ∷ 0x00 ∷  -- ADD R6,R5,R5
    halt_sheet

-- the table
pub record Rows : Type 0 where
  pub halt : row halt_sheet 1000000 [] 0 ≡ (Halted, 5 ∷ 1 ∷ 0 ∷ 0 ∷ 0 ∷ [])
  pub four : row halt_sheet 4 [] 0 ≡ (Spent, 4 ∷ 0 ∷ 0 ∷ 0 ∷ 0 ∷ [])
  pub nought : row halt_sheet 0 [] 0 ≡ (Spent, 0 ∷ 0 ∷ 0 ∷ 0 ∷ 0 ∷ [])
  pub multiply : row (
      0x20 ∷ 0x03 ∷ 0x00 ∷ 0x00 ∷ 0x07 ∷  -- ADDI R3,R0,7
      0x1B ∷ 0x04 ∷ 0x03 ∷ 0x03 ∷ 0x00 ∷  -- MUL R4,R3,R3
      halt_sheet) 1000000 [] 4 ≡ (Halted, 9 ∷ 3 ∷ 2 ∷ 0 ∷ 49 ∷ [])
  pub load : row load_sheet 1000000 (21 ∷ []) 6 ≡ (Halted, 8 ∷ 3 ∷ 1 ∷ 0 ∷ 42 ∷ [])
  -- without an answer
  pub unanswered : row load_sheet 1000000 [] 6 ≡ (Loads, 3 ∷ 0 ∷ 1 ∷ 0 ∷ 0 ∷ [])
  pub loop : row (
      0x20 ∷ 0x01 ∷ 0x00 ∷ 0x00 ∷ 0x03 ∷  -- ADDI R1,R0,3
      0x20 ∷ 0x01 ∷ 0x01 ∷ 0xFF ∷ 0xFF ∷  -- ADDI R1,R1,-1
      0x28 ∷ 0x01 ∷ 0x00 ∷ 0xFF ∷ 0xF8 ∷  -- BNE R1,R0,-8
      halt_sheet) 1000000 [] 1 ≡ (Halted, 14 ∷ 8 ∷ 0 ∷ 1 ∷ 0 ∷ [])
  pub branch : row (
      0x27 ∷ 0x00 ∷ 0x00 ∷ 0x00 ∷ 0x00 ∷  -- BEQ R0,R0,0
      halt_sheet) 1000000 [] 0 ≡ (Halted, 8 ∷ 2 ∷ 0 ∷ 1 ∷ 0 ∷ [])
  pub divide : row (
      0x1D ∷ 0x02 ∷ 0x01 ∷ 0x00 ∷ 0x00 ∷  -- DIV R2,R1,R0
      halt_sheet) 1000000 [] 2 ≡ (Halted, 21 ∷ 2 ∷ 15 ∷ 0 ∷ 0 ∷ [])
  pub high : row (
      0x1C ∷ 0x02 ∷ 0x01 ∷ 0x01 ∷ 0x00 ∷  -- MULH R2,R1,R1
      halt_sheet) 1000000 [] 2 ≡ (Halted, 8 ∷ 2 ∷ 2 ∷ 0 ∷ 0 ∷ [])
  pub unsigned : row (
      0x1E ∷ 0x02 ∷ 0x01 ∷ 0x00 ∷ 0x00 ∷  -- DIVU R2,R1,R0
      halt_sheet) 1000000 [] 2 ≡ (Halted, 21 ∷ 2 ∷ 15 ∷ 0 ∷ 0 ∷ [])
  pub remainder : row (
      0x1F ∷ 0x02 ∷ 0x01 ∷ 0x00 ∷ 0x00 ∷  -- MOD R2,R1,R0
      halt_sheet) 1000000 [] 2 ≡ (Halted, 21 ∷ 2 ∷ 15 ∷ 0 ∷ 0 ∷ [])
  -- NOP names R0 as its sources, and no load of R0 is used
  pub zero : row (
      0x21 ∷ 0x00 ∷ 0x00 ∷ 0x00 ∷ 0x00 ∷  -- LD R0,R0+0
      0x00 ∷ 0x00 ∷ 0x00 ∷ 0x00 ∷ 0x00 ∷  -- NOP
      halt_sheet) 1000000 (21 ∷ []) 0 ≡ (Halted, 7 ∷ 3 ∷ 0 ∷ 0 ∷ 0 ∷ [])
  -- LDIL reads its own register
  pub lower : row (
      0x21 ∷ 0x01 ∷ 0x00 ∷ 0x00 ∷ 0x00 ∷  -- LD R1,R0+0
      0x30 ∷ 0x01 ∷ 0x00 ∷ 0x00 ∷ 0x05 ∷  -- LDIL R1,5
      halt_sheet) 1000000 (0x70000 ∷ []) 1 ≡ (Halted, 8 ∷ 3 ∷ 1 ∷ 0 ∷ 0x70005 ∷ [])
  -- not taken, forward: as guessed
  pub not_equal : row (
      0x28 ∷ 0x00 ∷ 0x00 ∷ 0x00 ∷ 0x04 ∷  -- BNE R0,R0,4
      halt_sheet) 1000000 [] 0 ≡ (Halted, 6 ∷ 2 ∷ 0 ∷ 0 ∷ 0 ∷ [])
  pub behind : row (
      0x02 ∷ 0x00 ∷ 0x00 ∷ 0x00 ∷ 0x00 ∷  -- HALT
      0x1B ∷ 0x01 ∷ 0x01 ∷ 0x01 ∷ 0x00 ∷  -- MUL R1,R1,R1
      []) 1000000 [] 1 ≡ (Halted, 5 ∷ 1 ∷ 1 ∷ 0 ∷ 0 ∷ [])
  pub short : row (
      0x52 ∷ 0x00 ∷ 0x00 ∷ 0x00 ∷ 0x00 ∷  -- JMPS 0
      0x61 ∷ 0x92 ∷ 0x07 ∷ 0xF0 ∷ 0x00 ∷  -- pair 9207 F000: LDI R2,7; RET
      halt_sheet) 1000000 [] 2 ≡ (Halted, 12 ∷ 4 ∷ 0 ∷ 2 ∷ 7 ∷ [])
  -- the empty sheet offers Unknown 0 everywhere
  pub empty : row [] 1000000 [] 0 ≡ (EndRefused Faulty, 4 ∷ 0 ∷ 0 ∷ 0 ∷ 0 ∷ [])
  -- asked in tick 3; the word forwards, with no stall
  pub mfsr : table_row zero_start mfsr_sheet mfsr_table [] 3 ≡ (
    (Halted, 7 ∷ 3 ∷ 0 ∷ 0 ∷ 14 ∷ []),
    None ∷ None ∷ Some (Some 7) ∷ None ∷ None ∷ None ∷ None ∷ [],
  )
  -- a table of 3 words
  pub mfsr_outside : table_row zero_start mfsr_sheet (0 ∷ 0 ∷ 0 ∷ []) [] 3 ≡ (
    (EndRefused Faulty, 4 ∷ 0 ∷ 0 ∷ 0 ∷ 0 ∷ []),
    None ∷ None ∷ Some None ∷ None ∷ [],
  )
  -- in user mode nothing is asked
  pub mfsr_user : table_row user_start mfsr_sheet mfsr_table [] 3 ≡ (
    (EndRefused Faulty, 4 ∷ 0 ∷ 0 ∷ 0 ∷ 0 ∷ []),
    None ∷ None ∷ None ∷ None ∷ [],
  )
  -- directly behind a HALT it asks in tick 4, and its word is not used
  pub mfsr_behind_halt : table_row zero_start (
      0x02 ∷ 0x00 ∷ 0x00 ∷ 0x00 ∷ 0x00 ∷  -- HALT
      0x33 ∷ 0x01 ∷ 0x00 ∷ 0x00 ∷ 0x03 ∷  -- MFSR R1,3
      []) mfsr_table [] 1 ≡ (
        (Halted, 5 ∷ 1 ∷ 0 ∷ 0 ∷ 0 ∷ []),
        None ∷ None ∷ None ∷ Some (Some 7) ∷ None ∷ [],
      )
  -- with a NOP between, the HALT empties its latch first
  pub mfsr_two_behind_halt : table_row zero_start (
      0x02 ∷ 0x00 ∷ 0x00 ∷ 0x00 ∷ 0x00 ∷  -- HALT
      0x00 ∷ 0x00 ∷ 0x00 ∷ 0x00 ∷ 0x00 ∷  -- NOP
      0x33 ∷ 0x01 ∷ 0x00 ∷ 0x00 ∷ 0x03 ∷  -- MFSR R1,3
      []) mfsr_table [] 1 ≡ (
        (Halted, 5 ∷ 1 ∷ 0 ∷ 0 ∷ 0 ∷ []),
        None ∷ None ∷ None ∷ None ∷ None ∷ [],
      )
  pub mfsr_behind_unknown : table_row zero_start (
      0x60 ∷ 0x00 ∷ 0x00 ∷ 0x00 ∷ 0x00 ∷  -- Unknown 0
      0x33 ∷ 0x01 ∷ 0x00 ∷ 0x00 ∷ 0x03 ∷  -- MFSR R1,3
      []) mfsr_table [] 1 ≡ (
        (EndRefused Faulty, 4 ∷ 0 ∷ 0 ∷ 0 ∷ 0 ∷ []),
        None ∷ None ∷ None ∷ Some (Some 7) ∷ [],
      )
  -- it has no source, so it waits for no load
  pub mfsr_behind_load : table_row zero_start (
      0x21 ∷ 0x01 ∷ 0x00 ∷ 0x00 ∷ 0x08 ∷  -- LD R1,R0+8
      0x33 ∷ 0x01 ∷ 0x00 ∷ 0x00 ∷ 0x03 ∷  -- MFSR R1,3
      halt_sheet) mfsr_table (21 ∷ []) 1 ≡ (
        (Halted, 7 ∷ 3 ∷ 0 ∷ 0 ∷ 7 ∷ []),
        None ∷ None ∷ None ∷ Some (Some 7) ∷ None ∷ None ∷ None ∷ [],
      )
  -- into R0 it asks, and writes nothing
  pub mfsr_into_zero : table_row zero_start (
      0x33 ∷ 0x00 ∷ 0x00 ∷ 0x00 ∷ 0x03 ∷  -- MFSR R0,3
      halt_sheet) mfsr_table [] 0 ≡ (
        (Halted, 6 ∷ 2 ∷ 0 ∷ 0 ∷ 0 ∷ []),
        None ∷ None ∷ Some (Some 7) ∷ None ∷ None ∷ None ∷ [],
      )
  -- a wait is ticked off first, within the limit too, but not of a machine that does not run
  pub waits : wait_row halt_sheet true 2 1000000 ≡ ((Halted, 7 ∷ 1 ∷ 2 ∷ 0 ∷ 0 ∷ []), 0)
  pub waits_spent : wait_row halt_sheet true 2 2 ≡ ((Spent, 2 ∷ 0 ∷ 2 ∷ 0 ∷ 0 ∷ []), 0)
  pub waits_stopped : wait_row halt_sheet false 2 1000000 ≡ ((Halted, 0 ∷ 0 ∷ 0 ∷ 0 ∷ 0 ∷ []), 2)
  -- of the widths 0 to 5 and 8, those that no access has
  pub widths : map bad_width (0 ∷ 1 ∷ 2 ∷ 3 ∷ 4 ∷ 5 ∷ 8 ∷ []) ≡ (
      false ∷ false ∷ false ∷ true ∷ false ∷ true ∷ true ∷ [])
  -- -7 DIV 2, -7 MOD 2, MULH of 80000000 twice, SRA of 80000000 by 33
  pub arithmetic : Arithmetic
