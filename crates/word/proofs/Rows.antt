-- The rows of arithmetic, RULES 22.2, by computation. Assumes nothing.
use Rattle.std.proofs.Common.{refl}
use Rattle.word.specs.Rows.{Rows}
use Rattle.word.specs.Words.{div32, mod32, mulh32, sra32}

pub rows : Rows
unfolding div32 mod32 mulh32 sra32
rows = record { div = refl; «mod» = refl; mulh = refl; sra = refl }
