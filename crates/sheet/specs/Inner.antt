-- A record's check by its bytes, and by the byte at which it starts. No public promise or claim rests on it.
use Rattle.std.specs.Prelude.{◌+◌, ℕ, ◌==◌, nat_lt, slice_index, length, Bool, ◌&&◌, ◌||◌, cond, true, List, Result}
use Rattle.std.specs.Prelude.{Ok, Err, ⊤}
use Rattle.sheet.specs.Names.{BadCommand, BadRegister, Refusal}
use Rattle.sheet.specs.Records.{record_of, within, zeros}
use Rattle.sheet.specs.Sheet.{record_check}

-- there is such a command, and its unused bytes are zero
unfoldable pub is_record : ℕ → ℕ → ℕ → ℕ → ℕ → Bool
is_record c a b d e =
    cond (within c 0x00 0x03) (zeros a b d e)
    (cond (within c 0x10 0x1F) (e == 0)
    (cond (within c 0x20 0x28) true
    (cond (within c 0x30 0x33) (b == 0)
    (cond (within c 0x40 0x43) (zeros 0 b d e)
    (cond (within c 0x50 0x54) (zeros a b 0 0)
    (c == 0x60 || c == 0x61))))))

-- its registers are below 32
unfoldable pub in_bounds : ℕ → ℕ → ℕ → ℕ → Bool
in_bounds c a b d =
    cond (within c 0x00 0x03) true
    (cond (within c 0x10 0x1F) (nat_lt a 32 && nat_lt b 32 && nat_lt d 32)
    (cond (within c 0x20 0x28) (nat_lt a 32 && nat_lt b 32)
    (cond (within c 0x30 0x33) (nat_lt a 32)
    (cond (within c 0x40 0x43) (nat_lt a 32)
    true))))

-- the check by these two
abbrev pub check_by : Bool → Bool → Result ⊤ Refusal
check_by command bounds = cond command (cond bounds (Ok tt) (Err BadRegister)) (Err BadCommand)

-- the check of the record that starts at byte s; fewer than five bytes are no such command
unfoldable pub check_from : List ℕ → ℕ → Result ⊤ Refusal
check_from l s =
    cond (nat_lt (s + 4) (length l))
    (record_check (record_of (slice_index l s) (slice_index l (s + 1)) (slice_index l (s + 2)) (slice_index l (s + 3))
    (slice_index l (s + 4))))
    (Err BadCommand)
