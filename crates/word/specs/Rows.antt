-- The rows of arithmetic, RULES 22.2: one claim about the definitions, proved in proofs/Rows.antt.
use Rattle.std.specs.Prelude.{◌≡◌, negsuc}
use Rattle.word.specs.Words.{div32, mod32, mulh32, sra32, word_of}

pub record Rows : Type 0 where
  -- -7 DIV 2 is -3
  pub div : div32 (word_of (negsuc 6)) 2 ≡ word_of (negsuc 2)
  -- -7 MOD 2 is -1
  pub «mod» : mod32 (word_of (negsuc 6)) 2 ≡ word_of (negsuc 0)
  -- MULH of 80000000 twice is 40000000
  pub mulh : mulh32 0x80000000 0x80000000 ≡ 0x40000000
  -- SRA of 80000000 by 33 is C0000000
  pub sra : sra32 0x80000000 33 ≡ 0xC0000000
