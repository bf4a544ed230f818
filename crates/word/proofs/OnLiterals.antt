-- One name that opens this crate's definitions, for proofs by computation. Assumes nothing.
use Rattle.std.specs.Prelude.{⊤}
use Rattle.word.specs.Words.{add32, and32, bit, cut32, div32, divu32, ldih32, ldil32, mod32, mul32, mulh32, offset32}
use Rattle.word.specs.Words.{or32, sll32, slt32, sltu32, sra32, srl32, sub32, xor32}

unfoldable pub word_on_literals : ⊤
unfolding add32 and32 bit cut32 div32 divu32 ldih32 ldil32 mod32 mul32 mulh32 offset32 or32 sll32 slt32 sltu32 sra32
    srl32 sub32 xor32
word_on_literals = tt
