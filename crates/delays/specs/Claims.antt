-- Read this first: what is claimed of the ticks in which instructions retire, where two neighbouring records are
-- exchanged. Here: Passages (how a path goes through the two), Rows (an example). Elsewhere: trades has the places and
-- the exchanged sheet, isa the one-at-a-time machine and which load the next instruction uses, accuracy the tick in
-- which an instruction retires.
use Rattle.std.specs.Prelude.{◌+◌, ◌≤◌, ℕ, true, List, ◌≡◌, Ok}
use Rattle.accuracy.specs.Count.{path, retire_tick}
use Rattle.isa.specs.Machine.{Arch, Program, machine, program_of}
use Rattle.sheet.specs.Sheet.{sheet_check, sheet_source}
use Rattle.trades.specs.Claims.{exchanged, is_in}
use Rattle.trades.specs.Trades.{places}
use Rattle.delays.specs.Names.{Decoded, Start}
use Rattle.delays.specs.Passages.{NoLoad, Passes, fed, instruction_of, passages}
use Rattle.delays.specs.Rows.{Rows}

-- What is said of two programs: records k and k + 1 are instructions i and j in g, and j and i in g'.
pub record Delay (g g' : Program) (w : Arch) (k : ℕ) (i j : Decoded) (N : ℕ) : Type 0 where
  -- the same registers, address, mode, answers left and requests, and as many instructions done
  pub same : machine g' w N ≡ machine g w N
  -- The tick in which the N-th instruction retires: g waits one tick for each load directly before record k that i
  -- uses, g' one for each that j uses, and in all else they take the same time.
  pub ticks : retire_tick g' (path g' w) N + fed g (path g w) k i N
      ≡ retire_tick g (path g w) N + fed g (path g w) k j N
  -- so in g' it is later or earlier by no more than one tick for each time that record k is done
  pub later : retire_tick g' (path g' w) N ≤ retire_tick g (path g w) N + passages (path g w) k N
  pub earlier : retire_tick g (path g w) N ≤ retire_tick g' (path g' w) N + passages (path g w) k N
  -- and it is the same tick where no load is done directly before record k
  pub alike : NoLoad g w k N → retire_tick g' (path g' w) N ≡ retire_tick g (path g w) N

-- For every listed place of a sheet that is not refused, whatever the start's values and the table, and whatever state
-- the machine begins from.
abbrev pub Delayed : Type 0
Delayed =
    (l : List ℕ) (k : ℕ) → sheet_check l ≡ Ok tt → is_in k (places l) ≡ true → (v : Start) (t : List ℕ) (w : Arch)
    (N : ℕ)
    → let g = program_of (sheet_source l t) v in
    let g' = program_of (sheet_source (exchanged l k) t) v in
    Passes g w k N → Delay g g' w k (instruction_of l k) (instruction_of l (k + 1)) N

-- Everything claimed; proved in proofs/Claims.antt.
pub record Claims : Type 0 where
  pub delayed : Delayed
  pub rows : Rows
