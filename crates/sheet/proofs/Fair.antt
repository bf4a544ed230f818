-- A sheet that the check accepts offers only what is fair. Assumes nothing.
use Prim.Native.Nat.{◌%◌, ◌*◌, ◌+◌, ◌/◌, ◌<◌, ◌≤◌, suc, zero, ℕ}
use borrow.Author.Tests.{ltb-false, ltb-true}
use lib.Dec.{eqb, ltb}
use lib.ListN.{length}
use mathlib.Core.Bool.{false, true}
use mathlib.Core.List.{List}
use mathlib.Core.Logic.{◌⊎◌, inl, inr}
use mathlib.Core.Path.{◌≡◌, refl}
use native.Mathlib.Omega.{arith}
use Rattle.std.specs.Prelude.{Option, None, Some, Result, Ok, Err, ⊤, is_err, is_some}
use Rattle.isa.proofs.Bools.{split}
use Rattle.isa.specs.Machine.{Source}
use Rattle.isa.specs.Operands.{bare, ok_dest, ok_operands, operands_n, plain}
use Rattle.isa.specs.Refusals.{is_of, ok_instruction, ok_raw}
use Rattle.sheet.specs.Names.{Instruction, Line, Mode, Normal, Pair, Record, Refusal, Short}
use Rattle.sheet.specs.Sheet.{bad_length, check_at, first_check, first_refused, line_offer, offer_at, offer_in}
use Rattle.sheet.specs.Sheet.{pair_offer, record_at, record_check, sheet_check, sheet_source, table_of, unknown_of}

-- what is fair to offer at each address p and mode m: an instruction of the mode, whose registers are below 32; and of
-- each special register something is said
pub record Fair (src : Source) : Type 0 where
  pub kind : (p : ℕ) (m : Mode) → is_of m (src.raw p m) ≡ true
  pub bounds : (p : ℕ) (m : Mode) → ok_raw (src.raw p m) ≡ true
  pub said : (n : ℕ) → is_some (src.table n) ≡ true

-- a check that does not refuse
accepted : (r : Result ⊤ Refusal) → is_err r ≡ false → r ≡ Ok tt
accepted (Ok x) e = refl
accepted (Err d) e = cc

-- the first refused record of so many is refused, and none before it is
pub first_le : (l : List ℕ) (k n : ℕ) → first_refused l k n ≤ k + n
unfolding first_refused
first_le l k zero = omega arith
first_le l k (suc n) = split (is_err (check_at l k)) (λ t. rw t (omega arith))
    (λ t. rw t (omega (arith, first_le l (suc k) n)))

first_has : (l : List ℕ) (k n : ℕ) → first_refused l k n < k + n → is_err (check_at l (first_refused l k n)) ≡ true
unfolding first_refused
first_has l k zero h = absurd (omega arith)
first_has l k (suc n) h = split (is_err (check_at l k))
    (λ t. rw (t, t))
    (λ t. let g : first_refused l (suc k) n < k + suc n = rw t at h in
    rw t (first_has l (suc k) n (omega arith)))

none_before : (l : List ℕ) (k n j : ℕ) → k ≤ j → j < first_refused l k n → check_at l j ≡ Ok tt
unfolding first_refused
none_before l k zero j p q = absurd (omega arith)
none_before l k (suc n) j p q = split (is_err (check_at l k))
    (λ t. let g : j < k = rw t at q in absurd (omega arith))
    (λ t. split (ltb k j)
    (λ u. let h : k < j = ltb-true k j u in none_before l (suc k) n j (omega arith) (rw t at q))
    (λ u. let h : j ≡ k = omega (arith, ltb-false k j u) in rw h (accepted (check_at l k) t)))

-- where the first so many records are accepted, each of them is
pub each_ok : (l : List ℕ) (n j : ℕ) → first_check l n ≡ Ok tt → j < n → check_at l j ≡ Ok tt
unfolding first_check
each_ok l n j e q = split (ltb (first_refused l 0 n) n)
    (λ t. let h : first_refused l 0 n < 0 + n = omega (arith, ltb-true (first_refused l 0 n) n t) in
    let g : check_at l (first_refused l 0 n) ≡ Ok tt = rw t at e in
    let z : is_err (check_at l (first_refused l 0 n)) ≡ true = first_has l 0 n h in absurd (let y = rw g at z in cc))
    (λ t. none_before l 0 n j (omega arith) (omega (arith, ltb-false (first_refused l 0 n) n t)))

-- and where each of them is, so are they all
pub all_ok : (l : List ℕ) (n : ℕ) → ((j : ℕ) → j < n → check_at l j ≡ Ok tt) → first_check l n ≡ Ok tt
unfolding first_check
all_ok l n h = split (ltb (first_refused l 0 n) n)
    (λ t. let b : first_refused l 0 n < n = ltb-true (first_refused l 0 n) n t in
    absurd (let z = rw (h (first_refused l 0 n) b) at (first_has l 0 n (omega arith)) in cc))
    (λ t. rw t refl)

pub first : (l : List ℕ) → sheet_check l ≡ Ok tt → first_check l (length l / 5) ≡ Ok tt
unfolding sheet_check
first l e = split (bad_length (length l))
    (λ t. absurd (let z = rw t at e in cc))
    (λ t. rw t at e)

-- a record of a checked sheet is accepted, or is none
fair_record : (l : List ℕ) → sheet_check l ≡ Ok tt → (k : ℕ)
    → (record_check (record_at l k) ≡ Ok tt) ⊎ (record_at l k ≡ None)
unfolding check_at record_at
fair_record l e k = split (ltb (k * 5 + 4) (length l))
    (λ t. let h : k * 5 + 4 < length l = ltb-true _ _ t in
    inl (each_ok l (length l / 5) k (first l e) (omega arith)))
    (λ t. inr (rw t))

-- what a record offers is of the mode that is asked for
kind_in : (x : Option Record) (j : ℕ) (m : Mode) → is_of m (offer_in x j m) ≡ true
unfolding is_of offer_in line_offer pair_offer unknown_of
kind_in None j Normal = refl
kind_in None j Short = refl
kind_in (Some (Line i)) j Normal = split (eqb j 0) (λ e. rw e) (λ e. rw e)
kind_in (Some (Line i)) j Short = refl
kind_in (Some (Pair h g)) j Normal = refl
kind_in (Some (Pair h g)) j Short =
    split (eqb j 0) (λ e. rw e) (λ e. split (eqb j 2) (λ f. rw (e, f)) (λ f. rw (e, f)))

-- the registers of an accepted line are below 32
line_ok : (i : Instruction) → record_check (Some (Line i)) ≡ Ok tt → ok_instruction i ≡ true
unfolding record_check
line_ok i e = split (ok_instruction i) (λ t. t) (λ t. absurd (let z = rw t at e in cc))

-- and so are those of what an accepted record offers
fair_in : (x : Option Record) (j : ℕ) (m : Mode) → (record_check x ≡ Ok tt) ⊎ (x ≡ None)
    → ok_raw (offer_in x j m) ≡ true
unfolding ok_raw ok_instruction offer_in line_offer pair_offer unknown_of operands_n bare plain ok_operands ok_dest
fair_in None j Normal c = refl
fair_in None j Short c = refl
fair_in (Some (Line i)) j Normal (inl c) = split (eqb j 0) (λ e. rw e (line_ok i c)) (λ e. rw e)
fair_in (Some (Line i)) j Normal (inr c) = cc
fair_in (Some (Line i)) j Short c = refl
fair_in (Some (Pair h g)) j Normal c = refl
fair_in (Some (Pair h g)) j Short c =
    split (eqb j 0) (λ e. rw e) (λ e. split (eqb j 2) (λ f. rw (e, f)) (λ f. rw (e, f)))

pub sheet_fair : (l t : List ℕ) → sheet_check l ≡ Ok tt → Fair (sheet_source l t)
unfolding offer_at table_of
sheet_fair l t e = record {
  kind = λ p m. kind_in (record_at l (p / 4)) (p % 4) m;
  bounds = λ p m. fair_in (record_at l (p / 4)) (p % 4) m (fair_record l e (p / 4));
  said = λ n. refl;
}
