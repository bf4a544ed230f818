-- Only multiplies and divides have a latency. Assumes nothing.
use mathlib.Core.Bool.{cond, false, true}
use mathlib.Core.Path.{◌≡◌}
use native.Mathlib.Omega.{arith}
use Rattle.std.specs.Prelude.{None, Some}
use Rattle.isa.specs.Names.{DecNormal, DecShort, Decoded, Instruction, ShortInstruction}
use Rattle.isa.specs.Operands.{bare, binary, branching, div_latency, loading, mul_latency, operands_n, operands_of}
use Rattle.isa.specs.Operands.{operands_s, plain, reads, storing, unary, writes}
use Rattle.isa.specs.Waits.{is_div, is_mul, slow_of}

latency_n : (i : Instruction) → (operands_n i).latency
    ≡ cond (slow_of true false false i) (Some mul_latency) (cond (slow_of false true false i) (Some div_latency) None)
unfolding operands_n slow_of bare writes unary binary reads loading storing branching plain
latency_n i = grind arith

latency_s : (i : ShortInstruction) → (operands_s i).latency ≡ None
unfolding operands_s bare writes unary binary reads loading storing branching plain
latency_s i = grind arith

-- 3 for a multiply, 16 for a divide, none for any other; an edit that gives ADD one is refused here
pub latency_is : (i : Decoded) → (operands_of i).latency
    ≡ cond (is_mul i) (Some mul_latency) (cond (is_div i) (Some div_latency) None)
unfolding operands_of is_mul is_div
latency_is (DecNormal i) = latency_n i
latency_is (DecShort i) = latency_s i
