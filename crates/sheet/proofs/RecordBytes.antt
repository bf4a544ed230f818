-- A record's check is that of its bytes. Assumes nothing.
use Prim.Native.Nat.{ℕ}
use lib.Dec.{ltb}
use lib.IntN.{ℤ}
use mathlib.Core.Bool.{Bool, ◌&&◌, cond, false, true}
use mathlib.Core.Path.{◌≡◌, refl, sym}
use native.Mathlib.Omega.{arith}
use Rattle.std.specs.Prelude.{Ok, Err}
use Rattle.isa.specs.Operands.{bare, binary, branching, loading, ok_dest, ok_operands, operands_n, plain, reads}
use Rattle.isa.specs.Operands.{storing, unary, writes}
use Rattle.isa.specs.Refusals.{ok_instruction}
use Rattle.isa.specs.Short.{low_bits}
use Rattle.sheet.specs.Inner.{check_by, in_bounds, is_record}
use Rattle.sheet.specs.Names.{BadCommand, BadRegister, Unknown}
use Rattle.sheet.specs.Records.{both, far_of, half_of, jump_of, line_if, offset_of, plain_of, record_of, three_of}
use Rattle.sheet.specs.Sheet.{record_check}

-- whether the registers of each group of commands are below 32
plain_is : (c : ℕ) → ok_instruction (plain_of c) ≡ true
unfolding plain_of ok_instruction operands_n ok_operands bare plain ok_dest
plain_is c = grind arith

three_is : (c a b d : ℕ) → ok_instruction (three_of c a b d) ≡ (ltb a 32 && ltb b 32 && ltb d 32)
unfolding three_of ok_instruction operands_n ok_operands binary plain ok_dest
three_is c a b d = grind arith

offset_is : (c a b : ℕ) (z : ℤ) → ok_instruction (offset_of c a b z) ≡ (ltb a 32 && ltb b 32)
unfolding offset_of ok_instruction operands_n ok_operands unary loading storing branching plain ok_dest
offset_is c a b z = grind arith

half_is : (c a n : ℕ) → ok_instruction (half_of c a n) ≡ ltb a 32
unfolding half_of ok_instruction operands_n ok_operands unary reads writes plain ok_dest
half_is c a n = grind arith

jump_is : (c a : ℕ) → ok_instruction (jump_of c a) ≡ ltb a 32
unfolding jump_of ok_instruction operands_n ok_operands unary reads plain ok_dest
jump_is c a = grind arith

far_is : (c n : ℕ) → ok_instruction (far_of c n) ≡ true
unfolding far_of ok_instruction operands_n ok_operands bare writes plain ok_dest
far_is c n = grind arith

unknown_is : (h l : ℕ) → ok_instruction (Unknown h l) ≡ true
unfolding ok_instruction operands_n ok_operands bare plain ok_dest
unknown_is h l = refl

-- the check of a record, by its bytes
by_bytes : (c a b d e : ℕ)
    → check_by (is_record c a b d e) (in_bounds c a b d) ≡ record_check (record_of c a b d e)
unfolding is_record in_bounds record_of record_check line_if
by_bytes c a b d e = grind (
  arith,
  plain_is c,
  three_is c a b d,
  offset_is c a b (low_bits 15 (both d e)),
  half_is c a (both d e),
  jump_is c a,
  far_is c (both d e),
  unknown_is (both a b) (both d e),
)

-- the same, one test at a time
pub is_refused : (c a b d e : ℕ) → is_record c a b d e ≡ false → record_check (record_of c a b d e) ≡ Err BadCommand
is_refused c a b d e p = let h = by_bytes c a b d e in sym (rw p at h)

pub is_bounded : (c a b d e : ℕ) (r : Bool) → is_record c a b d e ≡ true → in_bounds c a b d ≡ r
    → record_check (record_of c a b d e) ≡ cond r (Ok tt) (Err BadRegister)
is_bounded c a b d e r p q = let h = by_bytes c a b d e in sym (rw (p, q) at h)
