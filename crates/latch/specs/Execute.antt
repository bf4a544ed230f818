-- Execute: the effect of ID/EX with operand values x and y, and the EX/MEM latch that it makes.
use Rattle.std.specs.Prelude.{ℕ, nat_lt, Bool, ◌&&◌, ◌||◌, cond, false, true, List, Option, None, Some, is_some}
use Rattle.isa.specs.Effect.{effect_of, raises}
use Rattle.isa.specs.Machine.{dest_of}
use Rattle.isa.specs.Redirects.{target_or}
use Rattle.latch.specs.Forwarding.{forward_from}
use Rattle.latch.specs.Names.{Effect, Exception, ExMem, IdEx, MemWb, Mode, Place}

-- the effect of an exception, or e where there is none
unfoldable pub raised_or : Option Exception → Effect → Effect
raised_or None e = e
raised_or (Some x) e = raises (Some x)

-- an exception already in the latch comes first
unfoldable pub effect_in : Bool → IdEx → ℕ → ℕ → Effect
effect_in u l x y = raised_or l.exception (effect_of u l.decoded l.pc x y)

-- an exception clears destination and memory use
unfoldable pub ex_mem_of : IdEx → Effect → ExMem
ex_mem_of l e = record {
  valid = true;
  pc = l.pc;
  mode = l.mode;
  decoded = l.decoded;
  dest = dest_of e l.dest;
  writeback = e.alu.always_writes || (e.alu.writes && is_some l.dest);
  is_load = cond (is_some e.marks.exception) false l.is_load;
  is_store = cond (is_some e.marks.exception) false l.is_store;
  alu_result = e.alu.value;
  store_value = e.access.store_value;
  mem_addr = e.access.mem_addr;
  mem_size = e.access.mem_size;
  is_mem_read = e.access.is_mem_read;
  branch_taken = is_some e.redirect;
  branch_target = target_or e.redirect 0;
  branch_new_mode = e.branch_new_mode;
  halt = e.marks.halt;
  iret = e.marks.iret;
  cpuid = e.marks.cpuid;
  exception = e.marks.exception;
  mtsr = e.marks.mtsr;
}

-- the redirect of a way h that was predicted taken or not: none where the guess was right, and the fall-through
-- address p where a predicted branch is not taken
unfoldable pub mispredict : Bool → Option Place → ℕ → Mode → Option Place
mispredict false h p m = h
mispredict true None p m = Some (record { pc = p; mode = m })
mispredict true (Some t) p m = None

-- operand B is forwarded where the latch names two sources, and is the latch's own otherwise
unfoldable pub operand_b : ExMem → MemWb → ℕ → List ℕ → IdEx → ℕ
operand_b x w features rs l = cond (nat_lt 1 l.n_srcs) (forward_from x w features rs l.src_b) l.op_b

-- the effect of ID/EX with its operands forwarded out of the latches
unfoldable pub effect_from : Bool → ExMem → MemWb → ℕ → List ℕ → IdEx → Effect
effect_from u x w features rs l =
    effect_in u l (forward_from x w features rs l.src_a)
    (operand_b x w features rs l)
