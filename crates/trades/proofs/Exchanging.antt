-- The records of an exchanged sheet. Assumes nothing.
use Prim.Native.Nat.{◌*◌, ◌+◌, ◌-◌, ◌<◌, ◌≤◌, ℕ}
use borrow.Author.Tests.{eqb-false, lt-ltb, ltb-false, ltb-true}
use lib.Dec.{eqb, ltb}
use lib.ListN.{drop, get_or, get_or-append, length, length-append, length-drop, take}
use lib.Seq.{get_or-append-add, get_or-drop, get_or-take, length-take-le}
use mathlib.Core.Bool.{cond, false, true}
use mathlib.Core.List.{List, ◌++◌}
use mathlib.Core.Path.{◌∙◌, ◌≡◌, refl}
use native.Mathlib.Omega.{arith}
use Rattle.isa.proofs.Bools.{split}
use Rattle.sheet.specs.Records.{record_of}
use Rattle.sheet.specs.Sheet.{record_at}
use Rattle.std.specs.Prelude.{None}
use Rattle.trades.specs.Claims.{exchanged, record_bytes}

-- records with the same five bytes, both in their sheets or both outside
same_record : (l l' : List ℕ) (m m' : ℕ) → ltb (m * 5 + 4) (length l) ≡ ltb (m' * 5 + 4) (length l')
    → ((j : ℕ) → j < 5 → get_or l (m * 5 + j) 0 ≡ get_or l' (m' * 5 + j) 0) → record_at l m ≡ record_at l' m'
unfolding record_at
same_record l l' m m' e h =
    let x : m * 5 + 0 ≡ m * 5 = omega arith in
    let y : m' * 5 + 0 ≡ m' * 5 = omega arith in
    let first : get_or l (m * 5) 0 ≡ get_or l' (m' * 5) 0 = rw (x, y) at (h 0 (omega arith)) in
    λ i. cond (e i) (record_of (first i) (h 1 (omega arith) i) (h 2 (omega arith) i) (h 3 (omega arith) i)
    (h 4 (omega arith) i)) None

-- record k and the next are in the sheet
module _ (l : List ℕ) (k : ℕ) (room : (k + 2) * 5 ≤ length l) where
  front_length : length (take (k * 5) l) ≡ k * 5
  front_length = length-take-le (k * 5) l (omega arith)

  bytes_length : (n : ℕ) → n ≤ k + 1 → length (record_bytes l n) ≡ 5
  unfolding record_bytes
  bytes_length n h = length-take-le 5 (drop (n * 5) l) (omega (arith, length-drop (n * 5) l))

  -- its parts up to each of the two records, and up to what is behind both
  one : List ℕ
  one = take (k * 5) l ++ record_bytes l (k + 1)

  two : List ℕ
  two = one ++ record_bytes l k

  one_length : length one ≡ (k + 1) * 5
  unfolding one
  one_length = rw (length-append, front_length, bytes_length (k + 1) (omega arith)) (omega arith)

  two_length : length two ≡ (k + 2) * 5
  unfolding two
  two_length = rw (length-append, one_length, bytes_length k (omega arith)) (omega arith)

  -- byte j of record n, of those five
  byte : (n j : ℕ) → j < 5 → get_or (record_bytes l n) j 0 ≡ get_or l (n * 5 + j) 0
  unfolding record_bytes
  byte n j h = get_or-take 5 (drop (n * 5) l) j 0 h ∙ get_or-drop (n * 5) l j 0

  behind : List ℕ
  behind = drop ((k + 2) * 5) l

  pub exchanged_length : length (exchanged l k) ≡ length l
  unfolding exchanged one two
  exchanged_length = length-append two (drop ((k + 2) * 5) l) ∙ rw (two_length, length-drop) (omega arith)

  -- both records are in either sheet
  inside : (m : ℕ) → m ≤ k + 1 → ltb (m * 5 + 4) (length l) ≡ true
  inside m h = lt-ltb (m * 5 + 4) (length l) (omega arith)

  in_front : (n : ℕ) → n < k * 5 → get_or (exchanged l k) n 0 ≡ get_or l n 0
  unfolding exchanged one two behind
  in_front n h =
      get_or-append two behind 0 n (rw two_length (omega arith))
      ∙ get_or-append one (record_bytes l k) 0 n (rw one_length (omega arith))
      ∙ get_or-append (take (k * 5) l) (record_bytes l (k + 1)) 0 n (rw front_length h)
      ∙ get_or-take (k * 5) l n 0 h

  in_first : (j : ℕ) → j < 5 → get_or (exchanged l k) (k * 5 + j) 0 ≡ get_or l ((k + 1) * 5 + j) 0
  unfolding exchanged one two behind
  in_first j h =
      get_or-append two behind 0 (k * 5 + j) (rw two_length (omega arith))
      ∙ get_or-append one (record_bytes l k) 0 (k * 5 + j) (rw one_length (omega arith))
      ∙ rw front_length at (get_or-append-add (take (k * 5) l) (record_bytes l (k + 1)) j 0)
      ∙ byte (k + 1) j h

  in_second : (j : ℕ) → j < 5 → get_or (exchanged l k) ((k + 1) * 5 + j) 0 ≡ get_or l (k * 5 + j) 0
  unfolding exchanged one two behind
  in_second j h =
      get_or-append two behind 0 ((k + 1) * 5 + j) (rw two_length (omega arith))
      ∙ rw one_length at (get_or-append-add one (record_bytes l k) j 0)
      ∙ byte k j h

  in_rest : (j : ℕ) → get_or (exchanged l k) ((k + 2) * 5 + j) 0 ≡ get_or l ((k + 2) * 5 + j) 0
  unfolding exchanged one two behind
  in_rest j = rw two_length at (get_or-append-add two behind j 0) ∙ get_or-drop ((k + 2) * 5) l j 0

  -- its records
  pub first_record : record_at (exchanged l k) k ≡ record_at l (k + 1)
  first_record = same_record (exchanged l k) l k (k + 1)
      (rw (exchanged_length, inside k (omega arith), inside (k + 1) (omega arith)) refl)
      in_first

  pub second_record : record_at (exchanged l k) (k + 1) ≡ record_at l k
  second_record = same_record (exchanged l k) l (k + 1) k
      (rw (exchanged_length, inside k (omega arith), inside (k + 1) (omega arith)) refl)
      in_second

  pub other_record : (m : ℕ) → eqb m k ≡ false → eqb m (k + 1) ≡ false
      → record_at (exchanged l k) m ≡ record_at l m
  other_record m a b = same_record (exchanged l k) l m m (rw exchanged_length refl)
      (λ j h. split (ltb m k)
      (λ t. in_front (m * 5 + j) (omega (arith, ltb-true m k t)))
      (λ t. let up : k + 2 ≤ m = omega (arith, ltb-false m k t, eqb-false m k a, eqb-false m (k + 1) b) in
      let n : m * 5 + j ≡ (k + 2) * 5 + ((m - (k + 2)) * 5 + j) = omega arith in
      rw n (in_rest ((m - (k + 2)) * 5 + j))))
