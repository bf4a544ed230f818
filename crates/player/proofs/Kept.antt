-- The slots of a sheet. Assumes nothing.
use Prim.Native.Nat.{◌%◌, ◌*◌, ◌+◌, ◌-◌, ◌/◌, ◌<◌, suc, zero, ℕ}
use borrow.Author.Tests.{eq-eqb}
use lib.Dec.{eqb}
use lib.ListN.{get_or, length, set}
use lib.Seq.{get_or-set_same}
use mathlib.Core.Bool.{Bool, ◌&&◌, cond, false, false≢true, true}
use mathlib.Core.List.{List, [], ◌∷◌}
use mathlib.Core.Path.{◌∙◌, ◌≡◌, ap, refl, sym}
use native.Mathlib.Omega.{arith}
use Rattle.std.specs.Prelude.{All}
use Rattle.isa.specs.Effect.{size}
use Rattle.isa.specs.declared.Mode.TheVariants.{Normal, Short}
use Rattle.player.specs.Inner.{IsOwn, slot_at, slot_of}
use Rattle.player.specs.Names.{Mode, Slot}

-- a slot is that of its own address and mode
pub own : (sheet : List ℕ) (s : Slot) (p : ℕ) (m : Mode) → s ≡ slot_at sheet p m → IsOwn sheet s
unfolding IsOwn slot_at slot_of
own sheet s p m e = e ∙ (λ j. slot_at sheet (sym e j).at.pc (sym e j).at.mode)

-- a slot that stands in the place of its address
pub found : (sheet : List ℕ) (slots : List Slot) (k : ℕ) (d : Slot) (p : ℕ) (m : Mode) → All (IsOwn sheet) slots
    → k < length slots → (get_or slots k d).at.pc ≡ p → (get_or slots k d).at.mode ≡ m
    → get_or slots k d ≡ slot_at sheet p m
unfolding IsOwn
found sheet slots k d p m h l a b = h k d l ∙ (λ j. slot_at sheet (a j) (b j))

-- and one that is put there
pub put : (sheet : List ℕ) (slots slots' : List Slot) (k : ℕ) (d s : Slot) (p : ℕ) (m : Mode) → slots' ≡ set slots k s
    → s ≡ slot_at sheet p m → k < length slots → get_or slots' k d ≡ slot_at sheet p m
put sheet slots slots' k d s p m e q l = rw e (get_or-set_same slots k s d l ∙ q)

-- Behind here nothing is cited: two theorems that docs/PORT.md names, and what they need. A mode is told by its size.
same_mode_lem : (m n : Mode) → eqb (size m) (size n) ≡ true → m ≡ n
unfolding size
same_mode_lem Normal Normal e = refl
same_mode_lem Normal Short e = absurd (false≢true e)
same_mode_lem Short Normal e = absurd (false≢true e)
same_mode_lem Short Short e = refl

-- whether a slot is that of an address and mode
unfoldable pub is_at : Slot → ℕ → Mode → Bool
is_at s p m = eqb s.at.pc p && eqb (size s.at.mode) (size m)

-- the place of an address among the slots
unfoldable pub place_of : ℕ → ℕ
place_of p = p / 2 % 512

place_in : (p : ℕ) → place_of p < 512
unfolding place_of
place_in p = omega arith

is_own : (sheet : List ℕ) (p : ℕ) (m : Mode) → is_at (slot_at sheet p m) p m ≡ true
unfolding is_at slot_at slot_of size
is_own sheet p Normal = rw (eq-eqb p p refl)
is_own sheet p Short = rw (eq-eqb p p refl)

-- the default does not matter within the table
same_get : (t : List Slot) (k : ℕ) (d d' : Slot) → k < length t → get_or t k d ≡ get_or t k d'
same_get [] k d d' l = absurd (omega arith)
same_get (x ∷ t) zero d d' l = refl
same_get (x ∷ t) (suc k) d d' l = same_get t k d d' (omega arith)

-- what is left to do: two for each instruction, and one where the slot at hand has to be put in its place
unfoldable pub to_go : ℕ → ℕ → Bool → ℕ
to_go limit done there = 2 * (limit - done) + cond there 0 1

-- a slot put in its place leaves less to do
pub put_less : (sheet : List ℕ) (t : List Slot) (limit done k : ℕ) (d d' : Slot) (p : ℕ) (m : Mode) (s : Slot)
    → length t ≡ 512 → k ≡ place_of p → is_at (get_or t k d') p m ≡ false → s ≡ slot_at sheet p m
    → to_go limit done (is_at (get_or (set t k s) (place_of p) d) p m)
    < to_go limit done (is_at (get_or t (place_of p) d) p m)
unfolding to_go
put_less sheet t limit done k d d' p m s n ek e q =
    let l : k < length t = rw (ek, n) (place_in p) in
    let z : is_at (get_or (set t k s) k d) p m ≡ true =
    ap (λ (y : Slot). is_at y p m) (get_or-set_same t k s d l ∙ q) ∙ is_own sheet p m in
    let y : is_at (get_or t k d) p m ≡ false =
    ap (λ (r : Slot). is_at r p m) (same_get t k d d' l) ∙ e in
    rw (sym ek, z, y) (omega arith)
