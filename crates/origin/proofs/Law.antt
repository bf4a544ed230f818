-- The value forwarded is the origin's. Assumes nothing.
use Prim.Native.Nat.{ℕ}
use lib.Dec.{eqb, ltb}
use mathlib.Core.Bool.{Bool, ◌&&◌, ◌||◌, cond, false, true}
use mathlib.Core.List.{List}
use mathlib.Core.Path.{◌≡◌, refl}
use Rattle.isa.specs.Registers.{processor_name, read_reg}
use Rattle.latch.specs.Execute.{operand_b}
use Rattle.latch.specs.Forwarding.{cpuid_word, ex_mem_holds, forward_from, from_ex_mem, from_mem_wb, mem_wb_holds}
use Rattle.origin.specs.Claims.{Law}
use Rattle.origin.specs.Names.{ExMem, FromExMem, FromExMemCpuid, FromMemWb, FromMemWbCpuid, IdEx, MemWb}
use Rattle.origin.specs.Names.{RegisterFile, ZeroRegister}
use Rattle.origin.specs.Origins.{cpuid_holds, cpuid_value, named_origin, older_origin, origin_from}
use Rattle.origin.specs.Origins.{origins_of, value_from}

-- CPUID's words over v, by whether it holds the register
word_is : (on : Bool) (f r v : ℕ) → cpuid_word on f r v ≡ cond (cpuid_holds on r) (cpuid_value f r) v
unfolding cpuid_word cpuid_holds cpuid_value
word_is false f r v = refl
word_is true f r v = by_tests (eqb 1 r) (eqb 2 r)
  where
    by_tests : (one two : Bool) → cond one processor_name (cond two f v)
        ≡ cond (one || two) (cond one processor_name f) v
    by_tests true two = refl
    by_tests false true = refl
    by_tests false false = refl

-- by the tests of the choice: R0, EX/MEM, its CPUID, MEM/WB, its CPUID
by_tests : (x : ExMem) (w : MemWb) (f : ℕ) (rs : List ℕ) (r : ℕ) (z xh xc wh wc : Bool)
    → cond z 0 (cond xh x.alu_result (cond xc (cpuid_value f r)
    (cond wh w.value (cond wc (cpuid_value f r) (read_reg rs r)))))
    ≡ value_from (cond z ZeroRegister (cond xh FromExMem (cond xc FromExMemCpuid
    (cond wh FromMemWb (cond wc FromMemWbCpuid RegisterFile))))) x w f rs r
unfolding value_from
by_tests x w f rs r true xh xc wh wc = refl
by_tests x w f rs r false true xc wh wc = refl
by_tests x w f rs r false false true wh wc = refl
by_tests x w f rs r false false false true wc = refl
by_tests x w f rs r false false false false true = refl
by_tests x w f rs r false false false false false = refl

pub law : Law
unfolding forward_from from_ex_mem from_mem_wb origin_from older_origin
law x w f rs r = rw (word_is (x.valid && x.cpuid) f r, word_is (w.valid && w.cpuid) f r)
    (by_tests x w f rs r (eqb r 0) (ex_mem_holds x r) (cpuid_holds (x.valid && x.cpuid) r) (mem_wb_holds w r)
    (cpuid_holds (w.valid && w.cpuid) r))

-- an operand that the latch names
pub named_a : (x : ExMem) (w : MemWb) (f : ℕ) (rs : List ℕ) (l : IdEx) → ltb 0 l.n_srcs ≡ true
    → forward_from x w f rs l.src_a ≡ value_from (origins_of x w l).a x w f rs l.src_a
unfolding origins_of named_origin
named_a x w f rs l e = rw e (law x w f rs l.src_a)

pub named_b : (x : ExMem) (w : MemWb) (f : ℕ) (rs : List ℕ) (l : IdEx) → ltb 1 l.n_srcs ≡ true
    → operand_b x w f rs l ≡ value_from (origins_of x w l).b x w f rs l.src_b
unfolding origins_of named_origin operand_b
named_b x w f rs l e = rw e (law x w f rs l.src_b)
