-- An event that is found stands in the log with all its bytes. Assumes nothing.
use Rattle.std.proofs.Common.{ℕ, ◌≡◌, ◌==◌, ◌≤◌, nat_lt, slice_index, Bool, cond, false, true, List, length}
use Rattle.std.proofs.Common.{Option, None, Some, Result, Ok, Err, arith, refl, sym}
use borrow.Author.Tests.{ltb-false}
use Rattle.isa.specs.Registers.{is_reg}
use Rattle.latch.specs.Bounds.{bad_width}
use Rattle.cardlog.specs.Bytes.{access_bytes, bytes_of, four}
use Rattle.cardlog.specs.Names.{BadEntry, Event, Loaded, Refusal, Retired, ShortLog, Stored, Written}
use Rattle.cardlog.specs.Reading.{access_in, entry_in, found_in, retired_in, word_at, written_in}

-- what is found takes at most n bytes
abbrev Within : Result (Option Event) Refusal → ℕ → Type 0
Within r n = (e : Event) → r ≡ Ok (Some e) → length (bytes_of e) ≤ n

-- an entry of n bytes, none where the log ends before
whole : (b : Bool) (n : ℕ) (l : List ℕ) (r : Result (Option Event) Refusal) → nat_lt (length l) n ≡ b → Within r n
    → Within (cond b (Err ShortLog) r) (length l)
whole true n l r h k e q = cc
whole false n l r h k e q = let i = ltb-false (length l) n h in let j = k e q in omega arith

one : (e : Event) (n : ℕ) → length (bytes_of e) ≤ n → Within (Ok (Some e)) n
one e n h d q = let i : e ≡ d = cc in rw (sym i) h

none_or : (b : Bool) (n : ℕ) (x y : Result (Option Event) Refusal) → Within x n → Within y n → Within (cond b x y) n
none_or true n x y h k = h
none_or false n x y h k = k

refused : (c : Refusal) (n : ℕ) → Within (Err c) n
refused c n e q = cc

retired_within : (l : List ℕ) → Within (retired_in l) (length l)
unfolding retired_in bytes_of four
retired_within l = whole _ 5 l _ refl (one (Retired (word_at l 1)) 5 (omega arith))

written_within : (l : List ℕ) → Within (written_in l) (length l)
unfolding written_in bytes_of four
written_within l =
    whole _ 6 l _ refl
    (none_or (is_reg (slice_index l 1)) 6 _ _ (one (Written (slice_index l 1) (word_at l 2)) 6 (omega arith))
    (refused BadEntry 6))

access_within : (event : ℕ → ℕ → ℕ → Event) → ((a w v : ℕ) → length (bytes_of (event a w v)) ≤ 10) → (l : List ℕ)
    → Within (access_in event l) (length l)
unfolding access_in
access_within event h l =
    whole _ 10 l _ refl (none_or (bad_width (slice_index l 5)) 10 _ _ (refused BadEntry 10) (one _ 10 (h _ _ _)))

entry_within : (c : ℕ) (l : List ℕ) → Within (entry_in c l) (length l)
unfolding entry_in bytes_of access_bytes four
entry_within c l =
    none_or (c == 0x80) _ _ _ (retired_within l)
    (none_or (c == 0x81) _ _ _ (written_within l)
    (none_or (c == 0x82) _ _ _ (access_within Loaded (λ a w v. omega arith) l)
    (none_or (c == 0x83) _ _ _ (access_within Stored (λ a w v. omega arith) l) (refused BadEntry _))))

pub found_within : (l : List ℕ) (e : Event) → found_in l ≡ Ok (Some e) → length (bytes_of e) ≤ length l
unfolding found_in
found_within l = none_or (length l == 0) _ (Ok None) _ (λ e q. cc) (entry_within (slice_index l 0) l)
