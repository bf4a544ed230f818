-- A text that is written into a buffer, and more text put behind it. Assumes nothing.
use Rattle.std.proofs.Common.{◌≡◌, ℕ, ◌+◌, ◌-◌, zero, suc, min, List, [], ◌∷◌, ◌++◌, length, take, drop, sym, ap, ◌∙◌}
use Rattle.std.proofs.Common.{append_assoc, arith, length-append, length-drop, length-take}
use Rattle.std.proofs.Math.Nat.{min_comm, sub-zero}
use Rattle.std.proofs.Math.Seq.{drop-append_seam, take-append_seam}
use Rattle.std.proofs.lemmas.List.{drop-drop, drop_all, take_all, take_min}
use borrow.Author.Tests.{ltb-false, ltb-true}
use lib.Dec.{ltb}
use Rattle.isa.proofs.Bools.{split}
use Rattle.report.specs.Written.{written, written_count}

take_append : (n : ℕ) (xs ys : List ℕ) → take n (xs ++ ys) ≡ take n xs ++ take (n - length xs) ys
take_append zero xs ys = grind arith
take_append (suc n) [] ys = rw sub-zero
take_append (suc n) (x ∷ xs) ys = grind (arith, take_append n xs ys)

-- what is cut off of a text is cut off at the buffer's end
written_is : (text l : List ℕ) → written text l ≡ take (length l) text ++ drop (length text) l
unfolding written
written_is text l =
    take_append (length l) text (drop (length text) l)
    ∙ ap (λ (rest : List ℕ). take (length l) text ++ rest) (take_all _ _ (omega (arith, length-drop (length text) l)))

count_is : (text l : List ℕ) → written_count text l ≡ length (take (length l) text)
unfolding written_count
count_is text l = omega (arith, length-take (length l) text)

-- the room behind a text that is written
pub room_is : (text l : List ℕ) → length (written text l) - written_count text l ≡ length l - length text
unfolding written_count
room_is text l = rw written_is (simp (length-append, length-take, length-drop) (omega arith))

-- n of the bytes of t are put behind a text, as many as there is room for
module _ (text t l : List ℕ) (n : ℕ) (fits : n ≡ min (length t) (length l - length text)) where
  drop_more : drop n (drop (length text) l) ≡ drop (length text + length t) l
  drop_more = rw drop-drop (split (ltb (length l - length text) (length t))
      (λ e. let cut = ltb-true _ _ e in
      drop_all (length text + n) l (omega arith) ∙ sym (drop_all (length text + length t) l (omega arith)))
      (λ e. let whole = ltb-false _ _ e in
      ap (λ (m : ℕ). drop m l) (omega arith)))

  pub count_more : written_count (text ++ t) l ≡ written_count text l + n
  unfolding written_count
  count_more = omega (arith, length-append text t)

  pub written_more : written (text ++ t) l ≡
      take (written_count text l) (written text l) ++ (take n t ++ drop n (drop (written_count text l) (written text l)))
  written_more =
      rw (
        written_is (text ++ t) l,
        written_is text l,
        count_is,
        take-append_seam,
        drop-append_seam,
        drop_more,
        length-append,
        take_append,
        append_assoc,
      )
      (ap (λ (xs : List ℕ). take (length l) text ++ (xs ++ drop (length text + length t) l))
      (sym (rw (fits, min_comm, take_min))))
