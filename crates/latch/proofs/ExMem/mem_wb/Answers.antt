-- An access of width 0 asks for nothing: MEM/WB then has EX/MEM's result.
use mathlib.Core.Bool.{and-false}
use Rattle.std.proofs.Common.{eq-eqb, true, ◌∙◌, ◌≡◌, ℕ}
use Rattle.latch.specs.Memory.{dest_after, loads, mem_wb_of, passed_on, stores, value_after, writes_after}
use Rattle.latch.specs.Names.{ExMem}
use Rattle.latch.proofs.ExMem.mem_wb.Goals as goal

still : (l : ExMem) (v : ℕ) → l.valid ≡ true → l.mem_size ≡ 0
    → passed_on l l.dest l.writeback l.alu_result ≡ mem_wb_of l v
unfolding mem_wb_of passed_on loads stores dest_after writes_after value_after
still l v on z = rw (on, eq-eqb _ 0 z, and-false, and-false)

pub returns-then-self-eq0 : goal.returns-then-self-eq0
returns-then-self-eq0 c = c.passed.ensures ∙ still _ _ c.if-self.true c.if-self-eq0.true
