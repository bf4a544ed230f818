-- Three instructions in a row, the last in ID/EX, and the origins of its operands (RULES 26.4).
use Rattle.std.specs.Prelude.{negsuc, pos, false, [], ◌≡◌}
use Rattle.isa.specs.Effect.{effect_of}
use Rattle.latch.specs.Decode.{id_ex_of}
use Rattle.latch.specs.Execute.{ex_mem_of}
use Rattle.latch.specs.Memory.{mem_wb_of}
use Rattle.origin.specs.Names.{Add, Addi, Beq, Cpuid, DecNormal, DecShort, Decoded, ExMem, FromExMem}
use Rattle.origin.specs.Names.{FromExMemCpuid, FromMemWb, FromMemWbCpuid, IdEx, Ld, Nop, Normal, Origin, Origins}
use Rattle.origin.specs.Names.{RegisterFile, ZeroRegister, ShortLdi}
use Rattle.origin.specs.Origins.{origins_of}

-- ID/EX with an instruction, and the EX/MEM that it makes
unfoldable pub in_id_ex : Decoded → IdEx
in_id_ex i = id_ex_of false i 0 Normal []

unfoldable pub in_ex_mem : Decoded → ExMem
in_ex_mem i = ex_mem_of (in_id_ex i) (effect_of false i 0 0 0)

-- the origins of instruction k, with i in MEM/WB and j in EX/MEM
unfoldable pub behind : Decoded → Decoded → Decoded → Origins
behind i j k = origins_of (in_ex_mem j) (mem_wb_of (in_ex_mem i) 0) (in_id_ex k)

abbrev pub both : Origin → Origin → Origins
both a b = record { a = a; b = b }

abbrev pub nop : Decoded
nop = DecNormal Nop

pub record Rows : Type 0 where
  -- ADD R3,R0,R1; short LDI R2,7; BEQ R0,R0
  pub add : behind nop nop (DecNormal (Add 3 0 1)) ≡ both ZeroRegister RegisterFile
  pub ldi : behind nop nop (DecShort (ShortLdi 2 7)) ≡ both RegisterFile RegisterFile
  pub beq : behind nop nop (DecNormal (Beq 0 0 (pos 0))) ≡ both ZeroRegister ZeroRegister
  -- ADDI R1,R0,3; ADDI R1,R1,-1, with no NOP between, one, and two
  pub next : behind nop (DecNormal (Addi 1 0 (pos 3))) (DecNormal (Addi 1 1 (negsuc 0))) ≡ both FromExMem RegisterFile
  pub second : behind (DecNormal (Addi 1 0 (pos 3))) nop (DecNormal (Addi 1 1 (negsuc 0))) ≡ both FromMemWb RegisterFile
  pub third : behind nop nop (DecNormal (Addi 1 1 (negsuc 0))) ≡ both RegisterFile RegisterFile
  -- ADDI R5,R0,1; LD R5,R0+8; ADD R6,R5,R5: the load's word is not there yet
  pub load : behind (DecNormal (Addi 5 0 (pos 1))) (DecNormal (Ld 5 0 (pos 8))) (DecNormal (Add 6 5 5))
      ≡ both FromMemWb FromMemWb
  -- CPUID, then ADD R3,R1,R2 or ADD R4,R3,R2; with a NOP between
  pub cpuid : behind nop (DecNormal Cpuid) (DecNormal (Add 3 1 2)) ≡ both FromExMemCpuid FromExMemCpuid
  pub other : behind nop (DecNormal Cpuid) (DecNormal (Add 4 3 2)) ≡ both RegisterFile FromExMemCpuid
  pub later : behind (DecNormal Cpuid) nop (DecNormal (Add 3 1 2)) ≡ both FromMemWbCpuid FromMemWbCpuid
