-- Reading the bytes of events, whatever stands before them, gives those events. Assumes nothing.
use Prim.Native.Nat.{◌%◌, ◌*◌, ◌+◌, ◌/◌, ◌≤◌, ℕ}
use borrow.Author.Tests.{le-ltb, ne_eqb, not-true}
use lib.ListN.{get_or, length}
use lib.Seq.{drop-append_seam}
use mathlib.Core.Bool.{Bool, false, not, true}
use mathlib.Core.List.{List, [], ◌++◌}
use mathlib.Core.Path.{◌∙◌, ◌≡◌, ap, refl}
use native.Mathlib.Omega.{arith}
use Rattle.std.specs.Prelude.{None, Ok, Option, Result, Some}
use Rattle.isa.specs.Registers.{is_reg}
use Rattle.latch.specs.Bounds.{bad_width}
use Rattle.cardlog.specs.Bytes.{access_bytes, bytes_of, four}
use Rattle.cardlog.specs.Names.{Event, Loaded, Read, Refusal, Retired, Stored, Written}
use Rattle.cardlog.specs.Reading.{access_in, entry_in, found_in, moved, read, retired_in, word_at, written_in}

-- an event that the reader takes: a register from 1 to 31, a width of 0, 1, 2 or 4
unfoldable pub is_taken : Event → Bool
is_taken (Retired pc) = true
is_taken (Written register word) = is_reg register
is_taken (Loaded addr width word) = not (bad_width width)
is_taken (Stored addr width word) = not (bad_width width)

-- a word is the word of its four bytes
whole : (n : ℕ) → n / 16777216 * 16777216 + n / 65536 % 256 * 65536 + n / 256 % 256 * 256 + n % 256 ≡ n
whole n = omega arith

word_is : (n k : ℕ) (l : List ℕ) → get_or l k 0 ≡ n / 16777216 → get_or l (k + 1) 0 ≡ n / 65536 % 256
    → get_or l (k + 2) 0 ≡ n / 256 % 256 → get_or l (k + 3) 0 ≡ n % 256 → word_at l k ≡ n
unfolding word_at
word_is n k l a b c d = rw (a, b, c, d) (whole n)

-- what is found, by what stands in the log and its length
found_by : (l : List ℕ) → 1 ≤ length l → found_in l ≡ entry_in (get_or l 0 0) l
unfolding found_in
found_by l h = rw (ne_eqb (length l) 0 (λ z. absurd (omega arith)))

-- an 82 or 83, by the event that it makes
access_found : (event : ℕ → ℕ → ℕ → Event) (c a w v : ℕ) (post : List ℕ) → bad_width w ≡ false
    → access_in event (access_bytes c a w v ++ post) ≡ Ok (Some (event a w v))
unfolding access_bytes four access_in
access_found event c a w v post h =
    let l = access_bytes c a w v ++ post in
    rw (
      le-ltb (length l) 10 (omega arith),
      h,
      word_is a 1 l refl refl refl refl,
      word_is v 6 l refl refl refl refl,
    )

found : (e : Event) (post : List ℕ) → is_taken e ≡ true → found_in (bytes_of e ++ post) ≡ Ok (Some e)
unfolding bytes_of access_bytes four is_taken entry_in retired_in written_in
found (Retired p) post h =
    let l = bytes_of (Retired p) ++ post in
    found_by l (omega arith) ∙ rw (le-ltb (length l) 5 (omega arith), word_is p 1 l refl refl refl refl)
found (Written r v) post h =
    let l = bytes_of (Written r v) ++ post in
    found_by l (omega arith) ∙ rw (le-ltb (length l) 6 (omega arith), h, word_is v 2 l refl refl refl refl)
found (Loaded a w v) post h =
    found_by (bytes_of (Loaded a w v) ++ post) (omega arith) ∙ access_found Loaded 0x82 a w v post (not-true _ h)
found (Stored a w v) post h =
    found_by (bytes_of (Stored a w v) ++ post) (omega arith) ∙ access_found Stored 0x83 a w v post (not-true _ h)

-- what is read, by what is found
abbrev read_by : Result (Option Event) Refusal → ℕ → Read
read_by f at = record { found = f; at = moved f at }

-- one event behind what stands before it
pub read_event : (e : Event) (pre post : List ℕ) → is_taken e ≡ true
    → read (pre ++ (bytes_of e ++ post)) (length pre)
    ≡ record { found = Ok (Some e); at = length pre + length (bytes_of e) }
unfolding read moved
read_event e pre post h =
    ap (λ (l : List ℕ). read_by (found_in l) (length pre)) (drop-append_seam pre (bytes_of e ++ post))
    ∙ ap (λ (f : Result (Option Event) Refusal). read_by f (length pre)) (found e post h)

-- the end
pub read_end : (pre : List ℕ) → read (pre ++ []) (length pre) ≡ record { found = Ok None; at = length pre }
unfolding read moved found_in
read_end pre = ap (λ (l : List ℕ). read_by (found_in l) (length pre)) (drop-append_seam pre [])
