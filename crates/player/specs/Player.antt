-- The plain player: turns in the order of RULES 23.2, over the one-at-a-time machine.
use Rattle.std.specs.Prelude.{◌+◌, suc, zero, ℕ, length, Bool, cond, false, List, [], ◌∷◌, Result, Ok, Err, ⊤}
use Rattle.isa.specs.Machine.{Arch, Program, arch_with, effect_at, instruction_at, is_barred, program_of, step_by}
use Rattle.isa.specs.Machine.{stops_at}
use Rattle.isa.specs.Operands.{operands_of}
use Rattle.sheet.specs.Sheet.{limited_check, sheet_source}
use Rattle.word.specs.Words.{bit}
use Rattle.player.specs.Names.{Decoded, PlayHalted, PlayLoads, PlayRefused, PlaySpent, PlayStopped, Played}
use Rattle.player.specs.Names.{PlayerEnd, Refusal, Start}

-- a play: its end, the machine then, the instructions done in order
pub record Play : Type 0 where
  pub end : PlayerEnd
  pub arch : Arch
  pub did : List Decoded

-- a play that ends at once
unfoldable pub ended : PlayerEnd → Arch → Play
ended e w = record { end = e; arch = w; did = [] }

-- one instruction done before a play
unfoldable pub more : Decoded → Play → Play
more i p = record { end = p.end; arch = p.arch; did = i ∷ p.did }

-- a turn at instruction i: one that stops the machine is not done, and is either barred or a load with no answer left;
-- any other is done, and the play goes on as k says, which is told whether it was HALT
unfoldable pub play_by : Program → Decoded → Arch → (Bool → Arch → Play) → Play
play_by g i w k =
    cond (stops_at g i w) (ended (cond (is_barred (effect_at g i w)) PlayStopped PlayLoads) w)
    (more i (k (effect_at g i w).marks.halt (step_by g i w)))

-- the turns from w on with n instructions allowed: HALT done, halted; limit used up, spent; else by the instruction
unfoldable pub play : Program → ℕ → Bool → Arch → Play
play g zero halted w = ended (cond halted PlayHalted PlaySpent) w
play g (suc n) halted w =
    cond halted (ended PlayHalted w) (play_by g (instruction_at g w) w (λ halt w'. play g n halt w'))

-- how many of the instructions done are loads, each of which used an answer
unfoldable pub loads_in : List Decoded → ℕ
loads_in [] = 0
loads_in (i ∷ l) = bit (operands_of i).is_load + loads_in l

-- a start's values, with the machine's registers, address and mode
unfoldable pub values_of : Start → Arch → Start
values_of v w = record { reg = w.reg; at = record { pc = w.pc; mode = w.mode }; user = v.user; features = v.features }

-- what is reported of it
unfoldable pub reported : Start → Play → Played
reported v p =
    record { end = p.end; values = values_of v p.arch; done = length p.did; used = loads_in p.did }

-- a play refused before its first turn gives the very values that it was given
unfoldable pub refused_play : Refusal → Start → Played
refused_play e v = record { end = PlayRefused e; values = v; done = 0; used = 0 }

-- any other takes its turns from the start's values, with R0 0
unfoldable pub unrefused_play : Start → List ℕ → List ℕ → List ℕ → ℕ → Played
unrefused_play v sheet answers table limit =
    reported v (play (program_of (sheet_source sheet table) v) limit false (arch_with v answers))

-- a play by what is tested before its first turn; p: the play that is not refused
unfoldable pub checked_play : Result ⊤ Refusal → Start → Played → Played
checked_play (Ok x) v p = p
checked_play (Err e) v p = refused_play e v

-- the player: a start's values, a sheet's bytes, load answers, a table of special registers and a limit. What refuses a
-- play: the sheet's length, per record its command and unused bytes and then its registers, then the limit
unfoldable pub played : Start → List ℕ → List ℕ → List ℕ → ℕ → Played
played v sheet answers table limit =
    checked_play (limited_check sheet limit) v (unrefused_play v sheet answers table limit)
