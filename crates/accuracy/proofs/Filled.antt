-- What is said of a special register leaves every fact of an instruction's effect standing. Assumes nothing.
use Prim.Native.Nat.{ℕ}
use mathlib.Core.Bool.{Bool}
use mathlib.Core.Path.{◌≡◌, refl, subst, sym}
use Rattle.std.specs.Prelude.{None, Option, Some, is_some}
use Rattle.isa.proofs.Asks.{Asks, asks}
use Rattle.isa.proofs.Bools.{split}
use Rattle.isa.specs.Effect.{effect_n, effect_of, gives, goes_on, inquires, marked, no_access, no_marks, no_result}
use Rattle.isa.specs.Effect.{privileged, raises, written}
use Rattle.isa.specs.Inquiries.{fill, look_up, mfsr_with}
use Rattle.isa.specs.Operands.{operands_n, operands_of, plain, writes}
use Rattle.isa.specs.Waits.{back_to, is_div, is_mul, predict, predict_by, slow_of}
use Rattle.latch.specs.Bounds.{bad_width}
use Rattle.word.specs.Words.{bit}
use Rattle.accuracy.proofs.Instructions.{Even, even, kind, odd_bounds, odd_load, odd_mode, odd_store, odd_swap}
use Rattle.accuracy.proofs.Instructions.{odd_wait}
use Rattle.accuracy.specs.Names.{DecNormal, Decoded, Effect, Mfsr, Mode}

-- MFSR, whatever is said
mfsr_even : (rd sr p : ℕ) (m : Mode) (c : Option (Option ℕ)) → Even (DecNormal (Mfsr rd sr)) p m (mfsr_with c)
unfolding mfsr_with odd_load odd_store odd_wait odd_swap odd_mode odd_bounds kind operands_of operands_n
    writes plain is_mul is_div slow_of bit predict predict_by back_to bad_width gives goes_on written raises
    marked no_result no_access no_marks
mfsr_even rd sr p m None =
    record { load = refl; store = refl; wait = refl; latency = refl; swap = refl; mode = refl; bounds = refl }
mfsr_even rd sr p m (Some None) =
    record { load = refl; store = refl; wait = refl; latency = refl; swap = refl; mode = refl; bounds = refl }
mfsr_even rd sr p m (Some (Some v)) =
    record { load = refl; store = refl; wait = refl; latency = refl; swap = refl; mode = refl; bounds = refl }

pub even_filled : (u : Bool) (i : Decoded) (p : ℕ) (m : Mode) (x y : ℕ) (c : Option (Option ℕ))
    → Even i p m (fill c (effect_of u i p x y))
unfolding fill
even_filled u i p m x y c = split (is_some (effect_of u i p x y).inquiry)
    (λ q. let a = asks u i p x y q in
    rw q (subst (λ (j : Decoded). Even j p m (mfsr_with c)) (sym a.is) (mfsr_even a.rd a.sr p m c)))
    (λ q. rw q (even u i p m x y))

-- MFSR goes on, whatever is said
mfsr_next : (c : Option (Option ℕ)) → (mfsr_with c).redirect ≡ None
unfolding mfsr_with gives goes_on raises marked
mfsr_next None = refl
mfsr_next (Some None) = refl
mfsr_next (Some (Some v)) = refl

asks_next : (u : Bool) (i : Decoded) (p x y : ℕ) → Asks u i → (effect_of u i p x y).redirect ≡ None
unfolding effect_of effect_n privileged inquires
asks_next u i p x y a = rw (a.is, a.user)

pub way_filled : (u : Bool) (i : Decoded) (p x y : ℕ) (c : Option (Option ℕ))
    → (fill c (effect_of u i p x y)).redirect ≡ (effect_of u i p x y).redirect
unfolding fill
way_filled u i p x y c = split (is_some (effect_of u i p x y).inquiry)
    (λ q. rw (q, asks_next u i p x y (asks u i p x y q)) (mfsr_next c))
    (λ q. rw q)

-- what is said as a table has it is what the table says
pub fill_by : (q : Option ℕ) (e : Effect) (t : ℕ → Option (Option ℕ)) (c : Option (Option ℕ))
    → e.inquiry ≡ q → ((n : ℕ) → q ≡ Some n → c ≡ t n) → fill c e ≡ fill (look_up t q) e
unfolding fill look_up
fill_by None e t c h k = rw h
fill_by (Some n) e t c h k = rw (k n refl)
