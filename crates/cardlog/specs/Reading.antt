-- The reader: what stands at a place of a log, by what the log holds from there on.
use Rattle.std.specs.Prelude.{◌*◌, ◌+◌, ℕ, ◌==◌, drop, length, nat_lt, slice_index, cond, List, Option, None, Some}
use Rattle.std.specs.Prelude.{Result, Ok, Err}
use Rattle.isa.specs.Registers.{is_reg}
use Rattle.latch.specs.Bounds.{bad_width}
use Rattle.cardlog.specs.Bytes.{bytes_of}
use Rattle.cardlog.specs.Names.{BadEntry, Event, Loaded, Read, Refusal, Retired, ShortLog, Stored, Written}

-- the word of the four bytes from place k on, high byte first
unfoldable pub word_at : List ℕ → ℕ → ℕ
word_at l k =
    slice_index l k * 16777216 + slice_index l (k + 1) * 65536 + slice_index l (k + 2) * 256 + slice_index l (k + 3)

-- An entry, by what the log holds from its command on: 22 where the log ends inside it.

-- 80
unfoldable pub retired_in : List ℕ → Result (Option Event) Refusal
retired_in l = cond (nat_lt (length l) 5) (Err ShortLog) (Ok (Some (Retired (word_at l 1))))

-- 81; 21 for a register outside 1 to 31
unfoldable pub written_in : List ℕ → Result (Option Event) Refusal
written_in l =
    cond (nat_lt (length l) 6) (Err ShortLog)
    (cond (is_reg (slice_index l 1)) (Ok (Some (Written (slice_index l 1) (word_at l 2)))) (Err BadEntry))

-- 82 and 83, by the event that an address, a width and a word make; 21 for a width other than 0, 1, 2, 4
unfoldable pub access_in : (ℕ → ℕ → ℕ → Event) → List ℕ → Result (Option Event) Refusal
access_in event l =
    cond (nat_lt (length l) 10) (Err ShortLog)
    (cond (bad_width (slice_index l 5)) (Err BadEntry)
    (Ok (Some (event (word_at l 1) (slice_index l 5) (word_at l 6)))))

-- an entry with command c; 21 for an unknown one
unfoldable pub entry_in : ℕ → List ℕ → Result (Option Event) Refusal
entry_in c l =
    cond (c == 0x80) (retired_in l)
    (cond (c == 0x81) (written_in l)
    (cond (c == 0x82) (access_in Loaded l)
    (cond (c == 0x83) (access_in Stored l) (Err BadEntry))))

-- none at the end
unfoldable pub found_in : List ℕ → Result (Option Event) Refusal
found_in l = cond (length l == 0) (Ok None) (entry_in (slice_index l 0) l)

-- the place behind the event, where one was found, and else the same place
unfoldable pub moved : Result (Option Event) Refusal → ℕ → ℕ
moved (Err c) at = at
moved (Ok None) at = at
moved (Ok (Some e)) at = at + length (bytes_of e)

-- one event of a log at a place, with the next place
unfoldable pub read : List ℕ → ℕ → Read
read l at = record { found = found_in (drop at l); at = moved (found_in (drop at l)) at }
