-- The step sheet: record k, five bytes, stands for addresses 4k to 4k + 3.
use Rattle.std.specs.Prelude.{◌%◌, ◌*◌, ◌+◌, ◌/◌, suc, zero, ℕ, ◌==◌, nat_lt, slice_get, slice_index, length, Bool}
use Rattle.std.specs.Prelude.{◌||◌, cond, not, List, Option, None, Some, Result, Ok, Err, ⊤, is_err}
use Rattle.std.specs.Result.{result_and}
use Rattle.isa.specs.Inquiries.{NotMfsr}
use Rattle.isa.specs.Machine.{Source}
use Rattle.isa.specs.Refusals.{ok_instruction}
use Rattle.isa.specs.Short.{decoded_of}
use Rattle.sheet.specs.Names.{BadCommand, BadLength, BadLimit, BadRegister, Instruction, Line, Mode, Normal, Pair}
use Rattle.sheet.specs.Names.{RawInstr, RawNormal, RawShort, Record, Refusal, Short, Unknown}
use Rattle.sheet.specs.Records.{record_of}

-- record k of a sheet's bytes; none outside it
unfoldable pub record_at : List ℕ → ℕ → Option Record
record_at l k =
    cond (nat_lt (k * 5 + 4) (length l))
    (record_of (slice_index l (k * 5)) (slice_index l (k * 5 + 1)) (slice_index l (k * 5 + 2)) (slice_index l (k * 5 + 3))
    (slice_index l (k * 5 + 4)))
    None

-- what is offered outside the sheet, off an instruction's boundary, or where it is of the other mode
unfoldable pub unknown_of : Mode → RawInstr
unknown_of Normal = RawNormal (Unknown 0 0)
unknown_of Short = RawShort 0xA000

-- a Normal instruction stands at the first of its four bytes
unfoldable pub line_offer : Instruction → ℕ → Mode → RawInstr
line_offer i k Normal = cond (k == 0) (RawNormal i) (unknown_of Normal)
line_offer i k Short = unknown_of Short

-- two halfwords stand at the first and the third
unfoldable pub pair_offer : ℕ → ℕ → ℕ → Mode → RawInstr
pair_offer h g k Normal = unknown_of Normal
pair_offer h g k Short = cond (k == 0) (RawShort h) (cond (k == 2) (RawShort g) (unknown_of Short))

-- what a record offers at byte k of its four
unfoldable pub offer_in : Option Record → ℕ → Mode → RawInstr
offer_in None k m = unknown_of m
offer_in (Some (Line i)) k m = line_offer i k m
offer_in (Some (Pair h g)) k m = pair_offer h g k m

-- what a sheet offers at address p in mode m
unfoldable pub offer_at : List ℕ → ℕ → Mode → RawInstr
offer_at l p m = offer_in (record_at l (p / 4)) (p % 4) m

-- what a lent table of words says of special register n: the word at place n; past its end there is no such register
unfoldable pub table_of : List ℕ → ℕ → Option (Option ℕ)
table_of t n = Some (slice_get t n)

-- what a run over a sheet's bytes and a table is offered
abbrev pub sheet_source : List ℕ → List ℕ → Source
sheet_source l t = record { raw = offer_at l; table = table_of t }

-- a sheet without MFSR
abbrev pub SheetWithout : List ℕ → Type 0
SheetWithout l = (p : ℕ) (m : Mode) → NotMfsr (decoded_of (offer_at l p m))

-- the check of a record: no such command or an unused byte not zero, then a register above 31
unfoldable pub record_check : Option Record → Result ⊤ Refusal
record_check None = Err BadCommand
record_check (Some (Line i)) = cond (ok_instruction i) (Ok tt) (Err BadRegister)
record_check (Some (Pair h g)) = Ok tt

-- the check of record k
unfoldable pub check_at : List ℕ → ℕ → Result ⊤ Refusal
check_at l k = record_check (record_at l k)

-- the first of n records from record k on that is refused; k + n where none is
unfoldable pub first_refused : List ℕ → ℕ → ℕ → ℕ
first_refused l k zero = k
first_refused l k (suc n) = cond (is_err (check_at l k)) k (first_refused l (suc k) n)

-- the check of the first n records: of the first that is refused, if there is one
unfoldable pub first_check : List ℕ → ℕ → Result ⊤ Refusal
first_check l n = cond (nat_lt (first_refused l 0 n) n) (check_at l (first_refused l 0 n)) (Ok tt)

-- the length in bytes of the longest sheet
abbrev pub max_length : ℕ
max_length = 20480

-- a length that is no multiple of 5, or above that
unfoldable pub bad_length : ℕ → Bool
bad_length n = not ((n % 5) == 0) || nat_lt max_length n

-- the check of a sheet: its length, then its records
unfoldable pub sheet_check : List ℕ → Result ⊤ Refusal
sheet_check l = cond (bad_length (length l)) (Err BadLength) (first_check l (length l / 5))

-- the highest limit of a run or a play
abbrev pub max_limit : ℕ
max_limit = 1000000

-- the check of a sheet, then of a limit
unfoldable pub limited_check : List ℕ → ℕ → Result ⊤ Refusal
limited_check l limit = result_and (sheet_check l) (cond (nat_lt max_limit limit) (Err BadLimit) (Ok tt))
