-- How a path goes through records k and k + 1 of a sheet.
use Rattle.std.specs.Prelude.{◌*◌, ◌+◌, ◌<◌, pred, suc, ℕ, ◌==◌, Bool, ◌&&◌, false, true, List, ◌≡◌}
use Rattle.accuracy.specs.Count.{count, path}
use Rattle.isa.specs.Machine.{Arch, Program, instruction_at, machine}
use Rattle.isa.specs.Operands.{operands_of}
use Rattle.isa.specs.Short.{decoded_of}
use Rattle.isa.specs.Waits.{is_used_load}
use Rattle.sheet.specs.Sheet.{offer_at}
use Rattle.delays.specs.Names.{Decoded, Mode, Normal, Short}

-- Normal mode
unfoldable pub is_normal : Mode → Bool
is_normal Normal = true
is_normal Short = false

-- a machine is at record k in Normal mode
unfoldable pub stands : Arch → ℕ → Bool
stands w k = w.pc == k * 4 && is_normal w.mode

-- the instruction that a sheet has at record k in Normal mode
unfoldable pub instruction_of : List ℕ → ℕ → Decoded
instruction_of l k = decoded_of (offer_at l (k * 4) Normal)

-- how many of the first n instructions of a path are record k's
unfoldable pub passages : (ℕ → Arch) → ℕ → ℕ → ℕ
passages at k n = count (λ m. stands (at m) k) n

-- how many of these are directly behind a load that instruction i, if it stood there, would use
unfoldable pub fed : Program → (ℕ → Arch) → ℕ → Decoded → ℕ → ℕ
fed prog at k i n = count (λ m. stands (at (suc m)) k && is_used_load (instruction_at prog (at m)) i) (pred n)

-- The machine has done N instructions from w on. It came to record k + 1 only from record k, and does not stand there
-- after the last: each time it has done both or neither.
pub record Passes (g : Program) (w : Arch) (k N : ℕ) : Type 0 where
  pub did : (machine g w N).done ≡ N
  pub begins : stands w (k + 1) ≡ false
  pub enters : (n : ℕ) → n < N → stands (path g w (suc n)) (k + 1) ≡ true → stands (path g w n) k ≡ true
  pub ends : stands (path g w N) (k + 1) ≡ false

-- none of the N instructions is record k's directly behind a load
abbrev pub NoLoad : Program → Arch → ℕ → ℕ → Type 0
NoLoad g w k N =
    (n : ℕ) → suc n < N → stands (path g w (suc n)) k ≡ true
    → (operands_of (instruction_at g (path g w n))).is_load ≡ false
