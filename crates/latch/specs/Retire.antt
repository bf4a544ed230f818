-- Retirement of MEM/WB: what it writes and whether it halts.
use Rattle.std.specs.Prelude.{ℕ, set, Bool, ◌&&◌, ◌||◌, cond, false, true, List, Option, None, Some, is_some, unwrap_or}
use Rattle.isa.specs.Effect.{fall}
use Rattle.isa.specs.Registers.{processor_name, put_reg}
use Rattle.latch.specs.Names.{MemWb, Mode}

-- a valid HALT
unfoldable pub halts : MemWb → Bool
halts l = l.valid && l.halt

-- a write by the pipeline puts R0 back to 0
unfoldable pub retire_reg : Option ℕ → ℕ → List ℕ → List ℕ
retire_reg None v rs = rs
retire_reg (Some d) v rs = set (put_reg d v rs) 0 0

-- CPUID's words, and R0 back to 0
unfoldable pub retire_cpuid : Bool → ℕ → List ℕ → List ℕ
retire_cpuid false features rs = rs
retire_cpuid true features rs = set (set (set rs 1 processor_name) 2 features) 0 0

-- the registers after it
unfoldable pub retired_regs : MemWb → ℕ → List ℕ → List ℕ
retired_regs l features rs =
    cond l.valid
    (cond l.writeback (retire_reg l.dest l.value (retire_cpuid l.cpuid features rs))
    (retire_cpuid l.cpuid features rs))
    rs

-- the retire address after it: a taken branch's target, or the next address in its own mode
unfoldable pub retired_pc : MemWb → ℕ → ℕ
retired_pc l p = cond l.valid (cond l.branch_taken l.branch_target (fall l.pc l.mode)) p

-- a mode after it
unfoldable pub retired_mode : MemWb → Mode → Mode
retired_mode l m = cond l.valid (unwrap_or l.branch_new_mode m) m

-- a valid exception, MTSR or IRET, which never retires
unfoldable pub is_faulty : MemWb → Bool
is_faulty l = l.valid && (is_some l.exception || (is_some l.mtsr || l.iret))
