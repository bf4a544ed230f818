-- One list with a refused tick, a load, a divide and a redirect, and the formula's ticks of its four retirements.
use Rattle.std.specs.Prelude.{ℕ, pos, replicate, List, [], ◌∷◌, ◌≡◌}
use Rattle.isa.specs.Machine.{Program, Source, arch_with, program_of, zero_start}
use Rattle.accuracy.specs.Accuracy.{Run, after, begin}
use Rattle.accuracy.specs.Asking.{replies}
use Rattle.accuracy.specs.Count.{path, retire_tick}
use Rattle.accuracy.specs.Names.{Div, Given, Halt, Jmp, Ld}
use Rattle.accuracy.specs.Samples.{nothing, source_of}

-- LD R1,R0+8; DIV R2,R1,R1; JMP 0; HALT at addresses 0, 4, 8, 12
unfoldable pub source : Source
source = source_of (Ld 1 0 (pos 8) ∷ Div 2 1 1 ∷ Jmp (pos 0) ∷ Halt ∷ [])

unfoldable pub program : Program
program = program_of source zero_start

unfoldable pub start : Run
start = begin zero_start

-- a tick that is refused, then as many as are asked for, each with answer 9
unfoldable pub ticks : List Given
ticks = nothing ∷ replies source (replicate 26 9) start

-- the tick of the n-th retirement, by the formula alone
unfoldable pub due : ℕ → ℕ
due n = retire_tick program (λ k. path program (arch_with zero_start (9 ∷ [])) k) n

pub record Example : Type 0 where
  pub accepted : (after start ticks).accepted ≡ 26
  pub retired : (after start ticks).state.counts.instructions_executed ≡ 4
  pub due : due 1 ∷ due 2 ∷ due 3 ∷ due 4 ∷ [] ≡ 5 ∷ 22 ∷ 23 ∷ 26 ∷ []
