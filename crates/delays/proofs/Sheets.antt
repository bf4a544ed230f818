-- What an exchanged sheet offers. Assumes nothing.
use Prim.Native.Nat.{◌%◌, ◌+◌, ◌/◌, ◌<◌, ℕ}
use borrow.Author.Tests.{eqb-true}
use lib.Dec.{eqb}
use mathlib.Core.Bool.{false, true}
use mathlib.Core.List.{List}
use mathlib.Core.Path.{◌∙◌, ◌≡◌, ap, refl}
use native.Mathlib.Omega.{arith}
use Rattle.isa.proofs.Bools.{split}
use Rattle.isa.specs.Machine.{Arch, program_of}
use Rattle.isa.specs.Short.{decoded_of}
use Rattle.sheet.specs.Sheet.{line_offer, offer_at, offer_in, record_at, sheet_check, sheet_source}
use Rattle.std.specs.Prelude.{Some, Ok}
use Rattle.trades.proofs.Exchanging.{first_record, other_record, second_record}
use Rattle.trades.proofs.Trading.{Neighbours, few, line_at, room}
use Rattle.trades.specs.Claims.{exchanged}
use Rattle.trades.specs.Trades.{pairs}
use Rattle.delays.proofs.Passing.{Swapped}
use Rattle.delays.proofs.Standing.{stands_by}
use Rattle.delays.specs.Passages.{stands}
use Rattle.delays.specs.Names.{Instruction, Line, Mode, Normal, RawInstr, Short, Start}

-- a record's other three bytes, and its Short mode, offer the same whatever its instruction
line_offers : (i j : Instruction) (r : ℕ) (m : Mode) → (m ≡ Normal → eqb r 0 ≡ false)
    → line_offer i r m ≡ line_offer j r m
unfolding line_offer
line_offers i j r Normal h = rw (h refl) refl
line_offers i j r Short h = refl

-- so two sheets offer the same at an address of record n, but at record n in Normal mode
aside : (l l' : List ℕ) (w : Arch) (n : ℕ) (i j : Instruction) → eqb (w.pc / 4) n ≡ true → record_at l n ≡ Some (Line i)
    → record_at l' n ≡ Some (Line j) → stands w n ≡ false → offer_at l' w.pc w.mode ≡ offer_at l w.pc w.mode
unfolding offer_at offer_in
aside l l' w n i j e a b h =
    rw (eqb-true (w.pc / 4) n e, a, b) (line_offers j i (w.pc % 4) w.mode
    (λ m. split (eqb (w.pc % 4) 0)
    (λ t. absurd (let z = stands_by w n (omega (arith, eqb-true (w.pc % 4) 0 t, eqb-true (w.pc / 4) n e)) m in cc))
    (λ t. t)))

module _ (l : List ℕ) (k : ℕ) (valid : sheet_check l ≡ Ok tt) (below : k < pairs l) (x : Neighbours l k) where
  first_now : record_at (exchanged l k) k ≡ Some (Line x.j)
  first_now = first_record l k (room l k valid below) ∙ x.second

  second_now : record_at (exchanged l k) (k + 1) ≡ Some (Line x.i)
  second_now = second_record l k (room l k valid below) ∙ x.first

  elsewhere : (w : Arch) → stands w k ≡ false → stands w (k + 1) ≡ false
      → offer_at (exchanged l k) w.pc w.mode ≡ offer_at l w.pc w.mode
  unfolding offer_at
  elsewhere w a b = split (eqb (w.pc / 4) k)
      (λ e. aside l (exchanged l k) w k x.i x.j e x.first first_now a)
      (λ d. split (eqb (w.pc / 4) (k + 1))
      (λ e. aside l (exchanged l k) w (k + 1) x.j x.i e x.second second_now b)
      (λ e. rw (other_record l k (room l k valid below) (w.pc / 4) d e) refl))

  pub swapped : (v : Start) (t : List ℕ)
      → Swapped (program_of (sheet_source l t) v) (λ p m. decoded_of (offer_at (exchanged l k) p m)) k x.i x.j
  unfolding program_of
  swapped v t = record {
    few = few l k valid below;
    computes_i = x.computes_i;
    computes_j = x.computes_j;
    i_beside_j = x.i_beside_j;
    j_beside_i = x.j_beside_i;
    first = λ p m e n. line_at l k p m x.i e n x.first;
    second = λ p m e n. line_at l (k + 1) p m x.j e n x.second;
    swapped_first = λ p m e n. line_at (exchanged l k) k p m x.j e n first_now;
    swapped_second = λ p m e n. line_at (exchanged l k) (k + 1) p m x.i e n second_now;
    rest = λ w a b. ap (λ (r : RawInstr). decoded_of r) (elsewhere w a b);
  }
