-- The 32 registers, as a list. R0 reads as 0.
use Rattle.std.specs.Prelude.{ℕ, ◌==◌, nat_lt, slice_index, set, Bool, ◌&&◌, cond, false, true, List, Option, None, Some}

-- R1 to R31, the registers that can be written
unfoldable pub is_reg : ℕ → Bool
is_reg r = nat_lt 0 r && nat_lt r 32

-- the value of register r
unfoldable pub read_reg : List ℕ → ℕ → ℕ
read_reg rs r = cond (is_reg r) (slice_index rs r) 0

-- register d gets the word v, unless it is R0
unfoldable pub put_reg : ℕ → ℕ → List ℕ → List ℕ
put_reg d v rs = cond (is_reg d) (set rs d v) rs

-- a destination gets the word v, unless it is R0
unfoldable pub write_reg : Option ℕ → ℕ → List ℕ → List ℕ
write_reg None v rs = rs
write_reg (Some d) v rs = put_reg d v rs

-- the processor's name, which CPUID gives
abbrev pub processor_name : ℕ
processor_name = 0x53524332

-- CPUID writes R1, then R2: the processor's name and the feature word
unfoldable pub write_cpuid : Bool → ℕ → List ℕ → List ℕ
write_cpuid false features rs = rs
write_cpuid true features rs = set (set rs 1 processor_name) 2 features

-- whether a destination is register r
unfoldable pub is_dest : Option ℕ → ℕ → Bool
is_dest None r = false
is_dest (Some d) r = d == r
