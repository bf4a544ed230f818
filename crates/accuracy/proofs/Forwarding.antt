-- The forwarding law, RULES 5.4. Assumes nothing.
use Prim.Native.Nat.{ℕ}
use lib.ListN.{length}
use mathlib.Core.Bool.{false, true}
use mathlib.Core.List.{List}
use mathlib.Core.Path.{◌∙◌, ◌≡◌, ap}
use Rattle.isa.proofs.Bools.{split}
use Rattle.isa.specs.Machine.{zero_start}
use Rattle.isa.specs.Operands.{ok_dest}
use Rattle.isa.specs.Registers.{read_reg}
use Rattle.latch.specs.Latches.{empty_mem_wb}
use Rattle.latch.specs.Memory.{dest_after, loads, mem_wb_of, passed_on, stores, value_after, writes_after}
use Rattle.latch.specs.Retire.{retired_regs}
use Rattle.pipeline.specs.Start.{fresh}
use Rattle.stages.specs.Forwarding.{forwarded}
use Rattle.accuracy.proofs.Registers.{fwd_law, xm_regs}
use Rattle.accuracy.specs.Names.{ExMem, PipelineCpu, Stages}

-- forwarding, RULES 5.4: the register's value after MEM/WB's and then EX/MEM's writes, in retirement's
-- own words
xm_writes : (l : ExMem) (v f : ℕ) (rs : List ℕ) → l.is_load ≡ false → l.is_store ≡ false → xm_regs l f rs ≡
    retired_regs (mem_wb_of l v) f rs
unfolding xm_regs retired_regs mem_wb_of passed_on dest_after writes_after value_after loads stores empty_mem_wb
xm_writes l v f rs a b = split l.valid (λ e. rw (e, a, b)) (λ e. rw e)

pub fwd_writes : (l : Stages) (rs : List ℕ) (r v : ℕ) → ok_dest l.mem_wb.dest ≡ true
    → ok_dest l.ex_mem.dest ≡ true → length rs ≡ 32 → l.ex_mem.is_load ≡ false
    → l.ex_mem.is_store ≡ false
    → forwarded l rs r
    ≡ read_reg (retired_regs (mem_wb_of l.ex_mem v) l.features (retired_regs l.mem_wb l.features rs)) r
fwd_writes l rs r v a b n e t =
    let s : PipelineCpu = record { reg = rs; stages = l; counts = (fresh zero_start).counts } in
    fwd_law s r a b n e ∙ ap (λ (x : List ℕ). read_reg x r) (xm_writes l.ex_mem v l.features _ e t)
