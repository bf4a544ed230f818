-- The one-at-a-time machine: one step does the instruction at its address and mode.
use Rattle.std.specs.Prelude.{suc, zero, ℕ, replicate, set, Bool, ◌&&◌, ◌||◌, cond, false, not, true, List, [], ◌++◌, Option, None}
use Rattle.std.specs.Prelude.{◌∷◌, is_some}
use Rattle.word.specs.Words.{cut32}
use Rattle.isa.specs.Effect.{effect_of, fall}
use Rattle.isa.specs.Inquiries.{fill, look_up}
use Rattle.isa.specs.Names.{Decoded, Effect, Load, Mode, Normal, RawInstr, Request, Start}
use Rattle.isa.specs.Names.{Store}
use Rattle.isa.specs.Operands.{operands_of}
use Rattle.isa.specs.Redirects.{mode_or, target_or}
use Rattle.isa.specs.Registers.{read_reg, write_cpuid, write_reg}
use Rattle.isa.specs.Short.{decoded_of}

-- the request of a load (l) or a store (s): address, width, and for a store the word cut to the width
unfoldable pub request_of : Bool → Bool → ℕ → ℕ → ℕ → List Request
request_of true s a w v = Load a w ∷ []
request_of false true a w v = Store a w (cut32 w v) ∷ []
request_of false false a w v = []

-- what the machine is given: the instruction of each address and mode, short ones decoded; the user flag, the
-- feature word, what a load of a width makes of its answer (the answer whole, in the accuracy rule), and what is said of
-- each special register
pub record Program : Type 0 where
  pub instruction : ℕ → Mode → Decoded
  pub user : Bool
  pub features : ℕ
  pub take : ℕ → ℕ → ℕ
  pub table : ℕ → Option (Option ℕ)

-- a program by its instructions and special registers, from a start's values; its loads take their answers whole, at
-- every width
abbrev pub whole_program : Start → (ℕ → Mode → Decoded) → (ℕ → Option (Option ℕ)) → Program
whole_program v f t = record { instruction = f; user = v.user; features = v.features; take = λ w x. x; table = t }

-- what a run is offered from: the instruction of each address and mode, and what is said of each special register
pub record Source : Type 0 where
  pub raw : ℕ → Mode → RawInstr
  pub table : ℕ → Option (Option ℕ)

-- the program of a source, from a start's values
unfoldable pub program_of : Source → Start → Program
program_of src v = whole_program v (λ p m. decoded_of (src.raw p m)) src.table

-- registers, address, mode, answers left, requests made
pub record Arch : Type 0 where
  pub reg : List ℕ
  pub pc : ℕ
  pub mode : Mode
  pub answers : List ℕ
  pub requests : List Request

-- the machine before its first step, from a start's values and fed a list of answers
unfoldable pub arch_with : Start → List ℕ → Arch
arch_with v l = record { reg = set v.reg 0 0; pc = v.at.pc; mode = v.at.mode; answers = l; requests = [] }

-- RULES 20.1: registers, address and feature word 0, Normal, supervisor
unfoldable pub zero_start : Start
zero_start = record { reg = replicate 32 0; at = record { pc = 0; mode = Normal }; user = false; features = 0 }

-- the next answer; 0 where none is left
unfoldable pub first : List ℕ → ℕ
first [] = 0
first (x ∷ xs) = x

-- the answers after the next one
unfoldable pub rest : List ℕ → List ℕ
rest [] = []
rest (x ∷ xs) = xs

-- no answer left
unfoldable pub is_empty : List ℕ → Bool
is_empty [] = true
is_empty (x ∷ xs) = false

-- the instruction at the machine's address and mode
unfoldable pub instruction_at : Program → Arch → Decoded
instruction_at g w = g.instruction w.pc w.mode

-- what instruction i does there, with operands from the registers; the special register that it asks for is open
unfoldable pub open_at : Program → Decoded → Arch → Effect
open_at g i w =
    effect_of g.user i w.pc (read_reg w.reg (operands_of i).src_a)
    (read_reg w.reg (operands_of i).src_b)

-- the same, with what the program says of that register
unfoldable pub effect_at : Program → Decoded → Arch → Effect
effect_at g i w = fill (look_up g.table (open_at g i w).inquiry) (open_at g i w)

-- the result: of a load, what it makes of the next answer
unfoldable pub value_at : Program → Decoded → Arch → ℕ
value_at g i w =
    cond (operands_of i).is_load (g.take (effect_at g i w).access.mem_size (first w.answers))
    (effect_at g i w).alu.value

-- the destination, where the instruction writes one
unfoldable pub dest_of : Effect → Option ℕ → Option ℕ
dest_of e d = cond e.alu.writes d None

-- instruction i done
unfoldable pub step_by : Program → Decoded → Arch → Arch
step_by g i w = record {
  reg =
      write_reg (dest_of (effect_at g i w) (operands_of i).dest) (value_at g i w)
      (write_cpuid (effect_at g i w).marks.cpuid g.features w.reg);
  pc = target_or (effect_at g i w).redirect (fall w.pc w.mode);
  mode = mode_or (effect_at g i w).redirect w.mode;
  answers = cond (operands_of i).is_load (rest w.answers) w.answers;
  requests =
      w.requests
      ++ request_of (operands_of i).is_load (operands_of i).is_store (effect_at g i w).access.mem_addr
      (effect_at g i w).access.mem_size (effect_at g i w).access.store_value;
}

-- an instruction that raises an exception or is MTSR or IRET
unfoldable pub is_barred : Effect → Bool
is_barred e = is_some e.marks.exception || (is_some e.marks.mtsr || e.marks.iret)

-- an instruction that stops the machine undone: a barred one, or a load with no answer left
unfoldable pub stops_at : Program → Decoded → Arch → Bool
stops_at g i w = is_barred (effect_at g i w) || ((operands_of i).is_load && is_empty w.answers)

-- the machine: its state, whether it runs, and how many instructions it has done
pub record Machine : Type 0 where
  pub arch : Arch
  pub runs : Bool
  pub done : ℕ

-- HALT is done and stops it; stopped, it does nothing more
unfoldable pub machine_by : Program → Decoded → Machine → Machine
machine_by g i m =
    cond m.runs
    (cond (stops_at g i m.arch) (record { arch = m.arch; runs = false; done = m.done })
    (record { arch = step_by g i m.arch; runs = not (effect_at g i m.arch).marks.halt; done = suc m.done }))
    m

-- one step of the machine
unfoldable pub machine_step : Program → Machine → Machine
machine_step g m = machine_by g (instruction_at g m.arch) m

-- the machine after n steps from w
unfoldable pub machine : Program → Arch → ℕ → Machine
machine g w zero = record { arch = w; runs = true; done = 0 }
machine g w (suc n) = machine_step g (machine g w n)
