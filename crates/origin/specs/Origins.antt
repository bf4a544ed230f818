-- Where a value comes from: forwarding is the choice of an origin, then the value that stands there.
use Rattle.std.specs.Prelude.{ℕ, ◌==◌, nat_lt, Bool, ◌&&◌, ◌||◌, cond, List}
use Rattle.isa.specs.Registers.{processor_name, read_reg}
use Rattle.latch.specs.Forwarding.{ex_mem_holds, mem_wb_holds}
use Rattle.origin.specs.Names.{ExMem, FromExMem, FromExMemCpuid, FromMemWb, FromMemWbCpuid, IdEx, MemWb, Origin}
use Rattle.origin.specs.Names.{Origins, RegisterFile, ZeroRegister}

-- a CPUID that is on holds R1 and R2
unfoldable pub cpuid_holds : Bool → ℕ → Bool
cpuid_holds on r = on && (1 == r || 2 == r)

-- the origin of a register r that EX/MEM does not give
unfoldable pub older_origin : MemWb → ℕ → Origin
older_origin w r =
    cond (mem_wb_holds w r) FromMemWb
    (cond (cpuid_holds (w.valid && w.cpuid) r) FromMemWbCpuid RegisterFile)

-- the origin of register r: the first place that holds it
unfoldable pub origin_from : ExMem → MemWb → ℕ → Origin
origin_from x w r =
    cond (r == 0) ZeroRegister
    (cond (ex_mem_holds x r) FromExMem
    (cond (cpuid_holds (x.valid && x.cpuid) r) FromExMemCpuid (older_origin w r)))

-- CPUID's word for R1, else the one for R2
unfoldable pub cpuid_value : ℕ → ℕ → ℕ
cpuid_value features r = cond (1 == r) processor_name features

-- what stands at an origin for register r
unfoldable pub value_from : Origin → ExMem → MemWb → ℕ → List ℕ → ℕ → ℕ
value_from ZeroRegister x w features rs r = 0
value_from FromExMem x w features rs r = x.alu_result
value_from FromExMemCpuid x w features rs r = cpuid_value features r
value_from FromMemWb x w features rs r = w.value
value_from FromMemWbCpuid x w features rs r = cpuid_value features r
value_from RegisterFile x w features rs r = read_reg rs r

-- an operand for which the latch names no source has the register file
unfoldable pub named_origin : Bool → ExMem → MemWb → ℕ → Origin
named_origin named x w r = cond named (origin_from x w r) RegisterFile

-- the origins of a latch's operands, whatever else it holds
unfoldable pub origins_of : ExMem → MemWb → IdEx → Origins
origins_of x w l = record {
  a = named_origin (nat_lt 0 l.n_srcs) x w l.src_a;
  b = named_origin (nat_lt 1 l.n_srcs) x w l.src_b;
}
