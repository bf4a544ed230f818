-- The empty latches.
use Rattle.std.specs.Prelude.{false, None}
use Rattle.latch.specs.Names.{DecNormal, ExMem, IdEx, IfId, MemWb, Nop, Normal, Place}
use Rattle.latch.specs.Names.{RawNormal}

-- IF/ID at a start: invalid, with NOP at address 0 in Normal mode
unfoldable pub empty_if_id : IfId
empty_if_id = record { valid = false; pc = 0; mode = Normal; raw = RawNormal Nop }

-- ID/EX with no instruction
unfoldable pub empty_id_ex : IdEx
empty_id_ex = record {
  valid = false;
  pc = 0;
  mode = Normal;
  decoded = DecNormal Nop;
  predicted_taken = false;
  src_a = 0;
  src_b = 0;
  n_srcs = 0;
  dest = None;
  op_a = 0;
  op_b = 0;
  is_load = false;
  is_store = false;
  exception = None;
}

-- EX/MEM with no instruction
unfoldable pub empty_ex_mem : ExMem
empty_ex_mem = record {
  valid = false;
  pc = 0;
  mode = Normal;
  decoded = DecNormal Nop;
  dest = None;
  writeback = false;
  is_load = false;
  is_store = false;
  alu_result = 0;
  store_value = 0;
  mem_addr = 0;
  mem_size = 0;
  is_mem_read = false;
  branch_taken = false;
  branch_target = 0;
  branch_new_mode = None;
  halt = false;
  iret = false;
  cpuid = false;
  exception = None;
  mtsr = None;
}

-- MEM/WB with no instruction
unfoldable pub empty_mem_wb : MemWb
empty_mem_wb = record {
  valid = false;
  pc = 0;
  mode = Normal;
  dest = None;
  writeback = false;
  value = 0;
  halt = false;
  iret = false;
  cpuid = false;
  branch_taken = false;
  branch_target = 0;
  branch_new_mode = None;
  exception = None;
  mtsr = None;
}

-- where IF/ID was fetched from
unfoldable pub place_of : IfId → Place
place_of l = record { pc = l.pc; mode = l.mode }

-- IF/ID emptied: invalid, with its contents kept
unfoldable pub cleared : IfId → IfId
cleared l = record { valid = false; pc = l.pc; mode = l.mode; raw = l.raw }
