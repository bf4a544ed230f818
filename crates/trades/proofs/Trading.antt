-- What is claimed of a listed place. Assumes nothing.
use Prim.Native.Nat.{◌%◌, ◌*◌, ◌+◌, ◌/◌, ◌<◌, ◌≤◌, ℕ}
use borrow.Author.Tests.{eqb-true, lt-ltb, ltb-true}
use lib.Dec.{eqb, ltb}
use lib.ListN.{get_or, length}
use mathlib.Core.Bool.{◌&&◌, false, true}
use mathlib.Core.List.{List}
use mathlib.Core.Path.{◌∙◌, ◌≡◌, ap, refl, sym}
use native.Mathlib.Omega.{arith}
use Rattle.std.proofs.lemmas.Option.{slice_get-get_or}
use Rattle.std.specs.Prelude.{Option, None, Some, Ok, slice_get}
use Rattle.word.specs.Words.{add32}
use Rattle.isa.proofs.Bools.{split}
use Rattle.isa.specs.Effect.{fall, size}
use Rattle.isa.specs.Machine.{Arch, program_of}
use Rattle.isa.specs.Operands.{operands_n, operands_of}
use Rattle.isa.specs.Short.{decoded_of}
use Rattle.sheet.proofs.Fair.{all_ok, each_ok, first}
use Rattle.sheet.specs.Records.{record_of}
use Rattle.sheet.specs.Sheet.{bad_length, check_at, line_offer, offer_at, offer_in}
use Rattle.sheet.specs.Sheet.{record_at, record_check, sheet_check, sheet_source}
use Rattle.trades.specs.Claims.{EitherOrder, Traded, exchanged, is_in}
use Rattle.trades.specs.Names.{DecNormal, Instruction, Line, Mode, Normal, Operands, Pair, Record, Start}
use Rattle.trades.specs.Trades.{may_move, may_trade, movable, pairs, places, touches, trades_at}
use Rattle.trades.proofs.Checked.{short}
use Rattle.trades.proofs.Computing.{Computes, ComputesIn, line, record_computes}
use Rattle.trades.proofs.Exchanging.{exchanged_length, first_record, other_record, second_record}
use Rattle.trades.proofs.Listing.{listed}
use Rattle.trades.proofs.Orders.{orders}

-- an accepted record is one
some_record : (x : Option Record) → record_check x ≡ Ok tt → (r : Record) × (x ≡ Some r)
unfolding record_check
some_record None e = cc
some_record (Some r) e = (r, refl)

-- and where its command may move, it is an instruction that only computes
line_of : (r : Record) → ComputesIn r → (i : Instruction) × (r ≡ Line i) × Computes i
line_of (Line i) (line c) = (i, refl, c)
line_of (Pair h g) c = elim c [ ]

record_is : (l : List ℕ) (k : ℕ) → k < length l / 5
    → record_at l k ≡ record_of (get_or l (k * 5) 0) (get_or l (k * 5 + 1) 0) (get_or l (k * 5 + 2) 0)
    (get_or l (k * 5 + 3) 0) (get_or l (k * 5 + 4) 0)
unfolding record_at
record_is l k h = rw (lt-ltb (k * 5 + 4) (length l) (omega arith)) refl

module _ (l : List ℕ) (valid : sheet_check l ≡ Ok tt) where
  mover : (k : ℕ) → k < length l / 5 → may_move (slice_get l (k * 5)) ≡ true
      → (i : Instruction) × (record_at l k ≡ Some (Line i)) × Computes i
  unfolding check_at
  mover k h m =
      let r = some_record (record_at l k) (each_ok l (length l / 5) k (first l valid) h) in
      let c : may_move (Some (get_or l (k * 5) 0)) ≡ true = rw (slice_get-get_or l (k * 5) 0 (omega arith)) at m in
      let s = line_of r.0 (record_computes _ _ _ _ _ r.0 c (sym (record_is l k h) ∙ r.1)) in
      (s.0, r.1 ∙ ap (λ (x : Record). Some x) s.1, s.2)

-- what the sheet offers there
pub line_at : (l : List ℕ) (k p : ℕ) (m : Mode) (i : Instruction) → p ≡ k * 4 → m ≡ Normal
    → record_at l k ≡ Some (Line i) → decoded_of (offer_at l p m) ≡ DecNormal i
unfolding offer_at offer_in line_offer decoded_of
line_at l k p m i e n h =
    let a : p / 4 ≡ k = omega arith in
    let b : p % 4 ≡ 0 = omega arith in
    rw (n, a, b, h) refl

pub next_address : (p k : ℕ) (m : Mode) → p ≡ k * 4 → k < 4096 → m ≡ Normal → fall p m ≡ (k + 1) * 4
unfolding fall size add32
next_address p k m e h n = rw n (omega arith)

-- both records of a pair that may trade places
movers : (o p : Option Operands) → may_trade o p ≡ true
    → (a : Operands) × (b : Operands) × (o ≡ Some a) × (p ≡ Some b) × (touches a.dest b ≡ false)
    × (touches b.dest a ≡ false)
unfolding may_trade
movers None p e = cc
movers (Some a) None e = cc
movers (Some a) (Some b) e = split (touches a.dest b)
    (λ t. absurd (let z = rw t at e in cc))
    (λ t. split (touches b.dest a)
    (λ u. absurd (let z = rw (t, u) at e in cc))
    (λ u. (a, b, refl, refl, t, u)))

-- a record that may move, by what it names
named : (l : List ℕ) (k : ℕ) (o : Operands) → movable l k ≡ Some o
    → (may_move (slice_get l (k * 5)) ≡ true) × (operands_of (decoded_of (offer_at l (k * 4) Normal)) ≡ o)
unfolding movable
named l k o e = split (may_move (slice_get l (k * 5)))
    (λ t. (t, let z = rw t at e in cc))
    (λ t. absurd (let z = rw t at e in cc))

-- records k and k + 1 are instructions i and j that only compute, and neither one's destination touches the other
pub record Neighbours (l : List ℕ) (k : ℕ) : Type 0 where
  pub i : Instruction
  pub j : Instruction
  pub first : record_at l k ≡ Some (Line i)
  pub second : record_at l (k + 1) ≡ Some (Line j)
  pub computes_i : Computes i
  pub computes_j : Computes j
  pub i_beside_j : touches (operands_n i).dest (operands_n j) ≡ false
  pub j_beside_i : touches (operands_n j).dest (operands_n i) ≡ false

module _ (l : List ℕ) (k : ℕ) (valid : sheet_check l ≡ Ok tt) (below : k < pairs l) where
  records : k + 1 < length l / 5
  unfolding pairs
  records = omega arith

  pub room : (k + 2) * 5 ≤ length l
  room = let h = records in omega arith

  pub few : k < 4096
  few = let h = records in let n = short l valid in omega arith

  -- no record of the exchanged sheet is refused
  each : (j : ℕ) → j < length l / 5 → check_at (exchanged l k) j ≡ Ok tt
  unfolding check_at
  each j h = split (eqb j k)
      (λ e. rw (eqb-true j k e, first_record l k room) (each_ok l (length l / 5) (k + 1) (first l valid) records))
      (λ e. split (eqb j (k + 1))
      (λ f. rw (eqb-true j (k + 1) f, second_record l k room)
      (each_ok l (length l / 5) k (first l valid) (let r = records in omega arith)))
      (λ f. rw (other_record l k room j e f) (each_ok l (length l / 5) j (first l valid) h)))

  exchanged_valid : sheet_check (exchanged l k) ≡ Ok tt
  unfolding sheet_check
  exchanged_valid = split (bad_length (length l))
      (λ t. absurd (let z = rw t at valid in cc))
      (λ t. rw (exchanged_length l k room, t) (all_ok (exchanged l k) (length l / 5) each))

  module _ (h : trades_at l k ≡ true) where
    pub neighbours : Neighbours l k
    unfolding trades_at operands_of
    neighbours =
        let b = movers (movable l k) (movable l (k + 1)) h in
        let one = named l k b.0 b.2 in
        let two = named l (k + 1) b.1 b.3 in
        let x = mover l valid k (let r = records in omega arith) one.0 in
        let y = mover l valid (k + 1) records two.0 in
        let i = x.0 in
        let j = y.0 in
        let oi : operands_n i ≡ b.0 = sym (ap operands_of (line_at l k (k * 4) Normal i refl refl x.1)) ∙ one.1 in
        let oj : operands_n j ≡ b.1 =
        sym (ap operands_of (line_at l (k + 1) ((k + 1) * 4) Normal j refl refl y.1)) ∙ two.1 in
        record {
          i = i;
          j = j;
          first = x.1;
          second = y.1;
          computes_i = x.2;
          computes_j = y.2;
          i_beside_j = rw (oi, oj) (b.4);
          j_beside_i = rw (oi, oj) (b.5);
        }

    -- a machine that enters at record k
    enters : (v : Start) (t : List ℕ) (w : Arch) → w.pc ≡ k * 4 → w.mode ≡ Normal
        → EitherOrder (program_of (sheet_source l t) v) (program_of (sheet_source (exchanged l k) t) v) w
    unfolding program_of
    enters v t w p m =
        let x = neighbours in
        let q = next_address w.pc k w.mode p few m in
        orders _ _ x.i x.j x.computes_i x.computes_j x.i_beside_j x.j_beside_i w
        (line_at l k w.pc w.mode x.i p m x.first)
        (line_at l (k + 1) (fall w.pc w.mode) w.mode x.j q m x.second)
        (line_at (exchanged l k) k w.pc w.mode x.j p m (first_record l k room ∙ x.second))
        (line_at (exchanged l k) (k + 1) (fall w.pc w.mode) w.mode x.i q m (second_record l k room ∙ x.first))

-- a listed place is below the pairs' number, and its two records may trade places
pub listed_place : (l : List ℕ) (k : ℕ) → is_in k (places l) ≡ true → (k < pairs l) × (trades_at l k ≡ true)
listed_place l k e =
    let s : (ltb k (pairs l) && trades_at l k) ≡ true = sym (listed l k) ∙ e in
    split (ltb k (pairs l))
    (λ a. (ltb-true k (pairs l) a, rw a at s))
    (λ a. absurd (let z = rw a at s in cc))

pub traded : Traded
traded l k valid e =
    let p = listed_place l k e in
    record { valid = exchanged_valid l k valid p.0; alike = enters l k valid p.0 p.1 }
