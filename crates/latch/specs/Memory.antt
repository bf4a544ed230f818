-- Memory: the request of EX/MEM, and the MEM/WB latch that it makes.
use Rattle.std.specs.Prelude.{ℕ, ◌==◌, Bool, ◌&&◌, cond, false, not, true, List, [], ◌∷◌, Option, None, Some}
use Rattle.isa.specs.Machine.{request_of}
use Rattle.latch.specs.Latches.{empty_mem_wb}
use Rattle.latch.specs.Names.{ExMem, MemWb, Request}

-- a load that asks for memory; a width of 0 asks for nothing
unfoldable pub loads : ExMem → Bool
loads l = l.is_load && not (l.mem_size == 0)

-- a store that asks for memory
unfoldable pub stores : ExMem → Bool
stores l = l.is_store && not (l.mem_size == 0)

-- the destination after a load (l), a store (s), or any other
unfoldable pub dest_after : Bool → Bool → Option ℕ → Option ℕ
dest_after l s d = cond l d (cond s None d)

-- whether it is written back
unfoldable pub writes_after : Bool → Bool → Bool → Bool
writes_after l s b = cond l true (cond s false b)

-- the value: a load's answer, or the result
unfoldable pub value_after : Bool → Bool → ℕ → ℕ → ℕ
value_after l s answer result = cond l answer (cond s 0 result)

-- MEM/WB with this destination, write and value, the rest passed on
unfoldable pub passed_on : ExMem → Option ℕ → Bool → ℕ → MemWb
passed_on l d b v = record {
  valid = true;
  pc = l.pc;
  mode = l.mode;
  dest = d;
  writeback = b;
  value = v;
  halt = l.halt;
  iret = l.iret;
  cpuid = l.cpuid;
  branch_taken = l.branch_taken;
  branch_target = l.branch_target;
  branch_new_mode = l.branch_new_mode;
  exception = l.exception;
  mtsr = l.mtsr;
}

-- a load takes the answer v whole and is written back; a store writes nothing back
unfoldable pub mem_wb_of : ExMem → ℕ → MemWb
mem_wb_of l v =
    cond l.valid
    (passed_on l (dest_after (loads l) (stores l) l.dest) (writes_after (loads l) (stores l) l.writeback)
    (value_after (loads l) (stores l) v l.alu_result))
    empty_mem_wb

-- what EX/MEM asks of the memory: nothing where it is invalid
unfoldable pub requests : ExMem → List Request
requests l =
    cond l.valid (request_of (loads l) (stores l) l.mem_addr l.mem_size l.store_value) []

-- the request of a list that has at most one
unfoldable pub request_in : List Request → Option Request
request_in [] = None
request_in (q ∷ qs) = Some q
