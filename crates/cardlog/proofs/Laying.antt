-- Bytes laid into a log, one run behind the other. Assumes nothing.
use Rattle.std.proofs.Common.{ℕ, ◌≡◌, ◌+◌, ◌-◌, ◌≤◌, List, [], ◌++◌, length, drop, take}
use Rattle.std.proofs.Common.{append-nil, append_assoc, arith, length-append, refl, sym, ◌∙◌}
use Rattle.std.proofs.lemmas.List.{drop-drop, drop_all, drop_at, length-drop, length-take-le, take-append-drop, take_at}
use Rattle.std.proofs.lemmas.List.{take_rest}
use borrow.Rule.Slice.PartMut.{put_mid}
use Rattle.cardlog.specs.Writing.{laid}

-- the kit's sums with 0
add_nothing : (n : ℕ) → n + 0 ≡ n
add_nothing n = omega arith

nothing_add : (n : ℕ) → 0 + n ≡ n
nothing_add n = omega arith

-- no bytes
pub laid_nothing : (at : ℕ) (l : List ℕ) → laid [] at l ≡ l
unfolding laid
laid_nothing at l = rw (append-nil, add_nothing) (take-append-drop at l)

-- one run of bytes and then the next are one run
pub laid_append : (bs cs : List ℕ) (at : ℕ) (l : List ℕ) → at + length bs ≤ length l
    → laid cs (at + length bs) (laid bs at l) ≡ laid (bs ++ cs) at l
unfolding laid
laid_append bs cs at l h =
    let front = take at l ++ bs in
    let here = at + length bs in
    let e : length front ≡ here = length-append (take at l) bs ∙ rw (length-take-le at l (omega arith)) refl in
    let back : drop (here + length cs) (front ++ drop here l) ≡ drop (here + length cs) l =
    sym (drop-drop (length cs) here (front ++ drop here l))
    ∙ rw (drop_at front (drop here l) here e) (drop-drop (length cs) here l) in
    let sums : at + length (bs ++ cs) ≡ here + length cs = omega (arith, length-append bs cs) in
    rw (take_at front (drop here l) here e, back, sums, append_assoc (take at l) bs cs) refl

-- what a part lent from a place on holds, put back
pub lent_back : (bs : List ℕ) (at : ℕ) (l : List ℕ) → at + length bs ≤ length l
    → put_mid at (length l - at) l (laid bs 0 (take (length l - at) (drop at l))) ≡ laid bs at l
unfolding laid
lent_back bs at l h =
    let none = drop_all (length l - at) (drop at l) (omega (arith, length-drop at l)) in
    rw (take_rest l at, nothing_add, drop-drop (length bs) at l, none, append-nil)
    (sym (append_assoc (take at l) bs (drop (at + length bs) l)))
