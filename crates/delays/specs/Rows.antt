-- A sheet that the exchange of two records makes faster: LD into R1, an ADD of R1, NOP, HALT.
use Rattle.std.specs.Prelude.{ℕ, List, [], ◌++◌, ◌∷◌, ◌≡◌}
use Rattle.accuracy.specs.Count.{path, retire_tick}
use Rattle.isa.specs.Machine.{Arch, Program, arch_with, program_of, zero_start}
use Rattle.sheet.specs.Sheet.{sheet_source}
use Rattle.trades.specs.Claims.{exchanged}
use Rattle.trades.specs.Rows.{add, ld, nop}
use Rattle.trades.specs.Trades.{places}
use Rattle.delays.specs.Passages.{Passes}

unfoldable pub halt : List ℕ
halt = 0x02 ∷ 0x00 ∷ 0x00 ∷ 0x00 ∷ 0x00 ∷ []

unfoldable pub slow_sheet : List ℕ
slow_sheet = ld 1 ++ add 3 1 1 ++ nop ++ halt

-- a sheet's program, and the machine before its first step, fed one answer
abbrev pub program : List ℕ → Program
program l = program_of (sheet_source l []) zero_start

abbrev pub begin : Arch
begin = arch_with zero_start (5 ∷ [])

-- the tick in which its HALT retires
abbrev pub last_tick : List ℕ → ℕ
last_tick l = retire_tick (program l) (path (program l) begin) 4

pub record Rows : Type 0 where
  pub place : places slow_sheet ≡ 1 ∷ []
  pub passes : Passes (program slow_sheet) begin 1 4
  pub before : last_tick slow_sheet ≡ 9
  pub exchanged_before : last_tick (exchanged slow_sheet 1) ≡ 8
