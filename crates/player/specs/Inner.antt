-- Definitions that only the contracts of inner functions cite. No claim and no public promise rests on them.
use Rattle.std.specs.Prelude.{◌+◌, ◌-◌, ◌≤◌, ℕ, drop, length, Bool, ◌&&◌, cond, false, List, ◌≡◌, All, Option, None}
use Rattle.std.specs.Prelude.{Some}
use Rattle.isa.specs.Effect.{effect_of, fall}
use Rattle.isa.specs.Inquiries.{fill, look_up}
use Rattle.isa.specs.Machine.{Arch, dest_of, is_barred, program_of}
use Rattle.isa.specs.Operands.{operands_of}
use Rattle.isa.specs.Redirects.{mode_or, target_or}
use Rattle.isa.specs.Registers.{read_reg, write_cpuid, write_reg}
use Rattle.isa.specs.Short.{decoded_of}
use Rattle.sheet.specs.Sheet.{offer_at, sheet_source, table_of}
use Rattle.player.specs.Names.{Decoded, Effect, Mode, PlayLoads, PlayStopped, Place, Played, PlayerEnd, Request, Slot, Start}
use Rattle.player.specs.Player.{Play, loads_in, play, unrefused_play, values_of}

-- the slot of an instruction at an address and mode
unfoldable pub slot_of : Decoded → ℕ → Mode → Slot
slot_of i p m = record {
  at = record { pc = p; mode = m };
  instr = i;
  src_a = (operands_of i).src_a;
  src_b = (operands_of i).src_b;
  dest = (operands_of i).dest;
  is_load = (operands_of i).is_load;
}

-- the slot of an address and mode: of the instruction that the sheet offers there
unfoldable pub slot_at : List ℕ → ℕ → Mode → Slot
slot_at sheet p m = slot_of (decoded_of (offer_at sheet p m)) p m

-- a slot holds what the sheet offers at its own address and mode
unfoldable pub IsOwn : List ℕ → Slot → Type 0
IsOwn sheet s = s ≡ slot_at sheet s.at.pc s.at.mode

-- what a slot's instruction does with the registers; the special register that it asks for is open
unfoldable pub open_in : Bool → Slot → List ℕ → Effect
open_in user s rs =
    effect_of user s.instr s.at.pc (read_reg rs s.src_a) (read_reg rs s.src_b)

-- the same, with what a table says of that register
unfoldable pub effect_in : Bool → List ℕ → Slot → List ℕ → Effect
effect_in user table s rs = fill (look_up (table_of table) (open_in user s rs).inquiry) (open_in user s rs)

-- how a play ends at an instruction that stops it: a barred one, or a load with no answer left; none at one that is done
unfoldable pub stop_of : Effect → Bool → Bool → Option PlayerEnd
stop_of e loads dry = cond (is_barred e) (Some PlayStopped) (cond (loads && dry) (Some PlayLoads) None)

-- the registers behind an instruction's effect, with its destination and the word that this gets
unfoldable pub written : Effect → Option ℕ → ℕ → ℕ → List ℕ → List ℕ
written e d x features rs = write_reg (dest_of e d) x (write_cpuid e.marks.cpuid features rs)

-- where an instruction goes
unfoldable pub next_of : Effect → Place → Place
next_of e at = record
    { pc = target_or e.redirect (fall at.pc at.mode); mode = mode_or e.redirect at.mode }

-- a start's values, with these registers, address and mode
unfoldable pub values_at : Start → List ℕ → Place → Start
values_at v rs at =
    record { reg = rs; at = at; user = v.user; features = v.features }

-- what is reported where so many instructions were done and answers used before
unfoldable pub later : Start → ℕ → ℕ → Play → Played
later v done used p = record {
  end = p.end;
  values = values_of v p.arch;
  done = done + length p.did;
  used = used + loads_in p.did;
}

-- the machine that the loop holds, with the answers left and the requests made
unfoldable pub arch_of : List ℕ → Place → List ℕ → List Request → Arch
arch_of rs at l asked = record { reg = rs; pc = at.pc; mode = at.mode; answers = l; requests = asked }

-- what the loop holds: the play still to come gives the whole play's report, and the slots are those of the sheet
pub record Holds (sheet l table : List ℕ) (limit : ℕ) (v : Start) (rs : List ℕ) (at : Place) (slots : List Slot)
    (used done : ℕ) : Type 0 where
  pub asked : List Request
  pub few : used ≤ length l
  pub kept : All (IsOwn sheet) slots
  pub same : unrefused_play v sheet l table limit
      ≡ later v done used
      (play (program_of (sheet_source sheet table) v) (limit - done) false (arch_of rs at (drop used l) asked))
