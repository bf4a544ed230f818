-- The places that are left to list, and what the list holds of those listed already. Assumes nothing.
use Rattle.std.proofs.Common.{◌+◌, ◌-◌, ◌<◌, ◌≤◌, ◌≡◌, suc, ℕ, Bool, false, true, List, [], ◌++◌, ◌∷◌, length, drop}
use Rattle.std.proofs.Common.{set, take, Option, add-one, ap, append_assoc, append-nil, arith, drop-drop, drop-set-lt}
use Rattle.std.proofs.Common.{length-take-le, take-append-drop, take-suc-set, sym, refl, ◌∙◌}
use Rattle.trades.specs.Names.{Operands}
use Rattle.trades.specs.Trades.{laid, may_trade, movable, places_from, trades_at}

-- place k is listed, or passed over
pub listed : (l : List ℕ) (k n : ℕ) → k < n → trades_at l k ≡ true
    → places_from l k (n - k) ≡ k ∷ places_from l (k + 1) (n - (k + 1))
unfolding places_from
listed l k n h e =
    let one_less : n - k ≡ suc (n - (k + 1)) = omega arith in
    rw (one_less, e, add-one) refl

pub passed : (l : List ℕ) (k n : ℕ) → k < n → trades_at l k ≡ false
    → places_from l k (n - k) ≡ places_from l (k + 1) (n - (k + 1))
unfolding places_from
passed l k n h e =
    let one_less : n - k ≡ suc (n - (k + 1)) = omega arith in
    rw (one_less, e, add-one) refl

-- what the code's test says
pub told : (l : List ℕ) (k : ℕ) {o p : Option Operands} {b : Bool} → o ≡ movable l k → p ≡ movable l (k + 1)
    → b ≡ may_trade o p → trades_at l k ≡ b
unfolding trades_at
told l k i j e = sym (e ∙ (λ x. may_trade (i x) (j x)))

-- one more at the front of a list
pub one_more : (list ps : List ℕ) (c k : ℕ) → c < length list
    → take (c + 1) (set list c k) ++ ps ≡ take c list ++ k ∷ ps
one_more list ps c k h =
    rw (add-one, take-suc-set list c k h) (append_assoc (take c list) (k ∷ []) ps)

-- and what stands behind it
pub behind : (list old : List ℕ) (c k : ℕ) → drop c list ≡ drop c old → drop (c + 1) (set list c k) ≡ drop (c + 1) old
behind list old c k e =
    drop-set-lt (c + 1) list c k (omega arith)
    ∙ sym (drop-drop 1 c list) ∙ ap (λ (l : List ℕ). drop 1 l) e ∙ drop-drop 1 c old

-- nothing is left to list
pub whole : (l list old ps : List ℕ) (c k n : ℕ) → c ≤ length list → n ≤ k
    → take c list ++ places_from l k (n - k) ≡ ps → drop c list ≡ drop c old → (c ≡ length ps) × (list ≡ laid ps old)
unfolding laid places_from
whole l list old ps c k n h e f b =
    let none : n - k ≡ 0 = omega arith in
    let g : take c list ≡ ps = sym (append-nil (take c list)) ∙ rw none at f in
    let m : c ≡ length ps = sym (length-take-le c list h) ∙ rw g refl in
    (m, sym (take-append-drop c list) ∙ rw (g, b, m) refl)
