-- The places listed are exactly those that may trade, rising. Assumes nothing.
use Prim.Native.Nat.{◌+◌, ◌<◌, ◌≤◌, suc, zero, ℕ}
use borrow.Author.Tests.{eq-eqb, eqb-false, eqb-true, le-leb, le-ltb, leb-true, lt-ltb, ne_eqb}
use lib.Dec.{eqb, leb, ltb}
use mathlib.Core.Bool.{◌&&◌, false, true}
use mathlib.Core.List.{List, [], ◌∷◌}
use mathlib.Core.Path.{◌∙◌, ◌≡◌, refl}
use native.Mathlib.Nat.{zero-add}
use native.Mathlib.Omega.{arith}
use Rattle.isa.proofs.Bools.{split}
use Rattle.trades.specs.Claims.{Listed, Rising, is_in, rises_from}
use Rattle.trades.specs.Trades.{pairs, places, places_from, trades_at}

-- none before the first
none_before : (l : List ℕ) (k n j : ℕ) → j < k → is_in j (places_from l k n) ≡ false
unfolding places_from is_in
none_before l k zero j h = refl
none_before l k (suc n) j h = split (trades_at l k)
    (λ t. let x : eqb j k ≡ false = ne_eqb j k (λ e. omega arith) in
    rw (t, x) (none_before l (suc k) n j (omega arith)))
    (λ t. rw t (none_before l (suc k) n j (omega arith)))

-- from the first on, those that may trade
listed_from : (l : List ℕ) (k n j : ℕ) → k ≤ j → is_in j (places_from l k n) ≡ (ltb j (k + n) && trades_at l j)
unfolding places_from is_in
listed_from l k zero j h = rw (le-ltb j (k + 0) (omega arith)) refl
listed_from l k (suc n) j h = split (eqb j k)
    (λ e. let q : j ≡ k = eqb-true j k e in
    let x : eqb k k ≡ true = eq-eqb k k refl in
    let y : ltb k (k + suc n) ≡ true = lt-ltb k (k + suc n) (omega arith) in
    rw (q, y) (split (trades_at l k)
    (λ t. rw (t, x) refl)
    (λ t. rw (t, none_before l (suc k) n k (omega arith)) refl)))
    (λ e. let up : suc k ≤ j = omega (arith, eqb-false j k e) in
    let sums : suc k + n ≡ k + suc n = omega arith in
    let rest : is_in j (places_from l (suc k) n) ≡ (ltb j (k + suc n) && trades_at l j) =
    rw sums at (listed_from l (suc k) n j up) in
    split (trades_at l k) (λ t. rw (t, e) rest) (λ t. rw t rest))

pub listed : Listed
unfolding places
listed l j = listed_from l 0 (pairs l) j (omega arith) ∙ rw zero-add refl

-- a list that rises from a number on rises from a lower one on
lower : (l : List ℕ) (k : ℕ) → rises_from (suc k) l ≡ true → rises_from k l ≡ true
unfolding rises_from
lower [] k e = refl
lower (x ∷ l) k e = split (leb (suc k) x)
    (λ t. rw (le-leb k x (omega (arith, leb-true (suc k) x t))) (rw t at e))
    (λ t. absurd (let z = rw t at e in cc))

rising_from : (l : List ℕ) (k n : ℕ) → rises_from k (places_from l k n) ≡ true
unfolding places_from rises_from
rising_from l k zero = refl
rising_from l k (suc n) = split (trades_at l k)
    (λ t. rw (t, le-leb k k (omega arith)) (rising_from l (suc k) n))
    (λ t. rw t (lower (places_from l (suc k) n) k (rising_from l (suc k) n)))

pub rising : Rising
unfolding places
rising l = rising_from l 0 (pairs l)
