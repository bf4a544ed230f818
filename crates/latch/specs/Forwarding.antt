-- Forwarding: the choice that one latch makes, over the value v of an older place.
use Rattle.std.specs.Prelude.{ℕ, ◌==◌, Bool, ◌&&◌, cond, not, List}
use Rattle.isa.specs.Registers.{is_dest, processor_name, read_reg}
use Rattle.latch.specs.Names.{ExMem, MemWb}

-- CPUID's words for R1 and R2 over v, where it is on
unfoldable pub cpuid_word : Bool → ℕ → ℕ → ℕ → ℕ
cpuid_word on features r v = cond on (cond (1 == r) processor_name (cond (2 == r) features v)) v

-- MEM/WB holds register r: it is valid and writes it
abbrev pub mem_wb_holds : MemWb → ℕ → Bool
mem_wb_holds l r = l.valid && (l.writeback && is_dest l.dest r)

-- EX/MEM holds register r: the same, but never the result of a load
abbrev pub ex_mem_holds : ExMem → ℕ → Bool
ex_mem_holds l r = l.valid && (l.writeback && (not l.is_load && is_dest l.dest r))

-- MEM/WB: its value where it holds register r, then CPUID's words
unfoldable pub from_mem_wb : MemWb → ℕ → ℕ → ℕ → ℕ
from_mem_wb l features r v =
    cond (mem_wb_holds l r) l.value (cpuid_word (l.valid && l.cpuid) features r v)

-- EX/MEM: its result where it holds register r, then CPUID's words
unfoldable pub from_ex_mem : ExMem → ℕ → ℕ → ℕ → ℕ
from_ex_mem l features r v =
    cond (ex_mem_holds l r) l.alu_result (cpuid_word (l.valid && l.cpuid) features r v)

-- both latches over the registers; R0 gives 0
unfoldable pub forward_from : ExMem → MemWb → ℕ → List ℕ → ℕ → ℕ
forward_from x w features rs r = cond (r == 0) 0 (from_ex_mem x features r (from_mem_wb w features r (read_reg rs r)))
