-- Special registers: what MFSR asks for, what is said of it, and what MFSR then does (RULES 25).
use Rattle.std.specs.Prelude.{ℕ, cond, ◌≡◌, Option, None, Some, is_some}
use Rattle.isa.specs.Effect.{gives, raises}
use Rattle.isa.specs.Names.{DecNormal, Decoded, Effect, IllegalInstruction, Mfsr}

-- what MFSR does with what is said of the register that it asks for, if anything: its word is the result; without one,
-- as where there is no such register, it is an illegal instruction
unfoldable pub mfsr_with : Option (Option ℕ) → Effect
mfsr_with None = raises (Some IllegalInstruction)
mfsr_with (Some None) = raises (Some IllegalInstruction)
mfsr_with (Some (Some v)) = gives v

-- an effect with what is said of the special register that it asks for; one that asks for none stays as it is
unfoldable pub fill : Option (Option ℕ) → Effect → Effect
fill c e = cond (is_some e.inquiry) (mfsr_with c) e

-- what a table says of the special register that is asked for
unfoldable pub look_up : (ℕ → Option (Option ℕ)) → Option ℕ → Option (Option ℕ)
look_up t None = None
look_up t (Some n) = t n

-- an instruction that is no MFSR
abbrev pub NotMfsr : Decoded → Type 0
NotMfsr i = (rd sr : ℕ) → i ≡ DecNormal (Mfsr rd sr) → ⊥
