-- What an instruction names: sources, destination, load or store, latency, a conditional branch's offset.
use Rattle.std.specs.Prelude.{ℕ, nat_lt, ℤ, Bool, ◌&&◌, cond, false, true, Option, None, Some}
use Rattle.word.specs.Words.{word_of}
use Rattle.isa.specs.Names.{Add, Addi, And, Beq, Bne, Cpuid, DecNormal, DecShort, Decoded, Div, Divu, Halt}
use Rattle.isa.specs.Names.{Instruction, Iret, Jal, Jalr, Jalrs, Jals, Jmp, Jmps, Jr, Jrs, Ld, Ldb, Ldh, Ldih}
use Rattle.isa.specs.Names.{Ldil, Mfsr, Mod, Mtsr, Mul, Mulh, Nop, Operands, Or, ShortInstruction}
use Rattle.isa.specs.Names.{Sla, Sll, Slt, Sltu, Sra, Srl, St, Stb, Sth, Sub, Syscall, Unknown, Xor, ShortAdd}
use Rattle.isa.specs.Names.{ShortAddi}
use Rattle.isa.specs.Names.{ShortBnz, ShortBz, ShortJal, ShortJr, ShortLd, ShortLdi, ShortMov, ShortRet, ShortSt}
use Rattle.isa.specs.Names.{ShortUnknown}

-- Register 15 of a halfword means R31, the others themselves.
unfoldable pub gpr : ℕ → ℕ
gpr r = cond (nat_lt r 15) r 31

-- Operands that are no load, no store and no branch, with a latency.
unfoldable pub plain : ℕ → ℕ → ℕ → Option ℕ → Option ℕ → Operands
plain a b n d l = record {
  src_a = a;
  src_b = b;
  n_srcs = n;
  dest = d;
  is_load = false;
  is_store = false;
  latency = l;
  branch = None;
}

-- no source, no destination
unfoldable pub bare : Operands
bare = plain 0 0 0 None None

-- no source, destination d
unfoldable pub writes : ℕ → Operands
writes d = plain 0 0 0 (Some d) None

-- source a, destination d
unfoldable pub unary : ℕ → ℕ → Operands
unary d a = plain a 0 1 (Some d) None

-- sources a and b, destination d, latency l
unfoldable pub binary : Option ℕ → ℕ → ℕ → ℕ → Operands
binary l d a b = plain a b 2 (Some d) l

-- source a only
unfoldable pub reads : ℕ → Operands
reads a = plain a 0 1 None None

-- a load from base a into d
unfoldable pub loading : ℕ → ℕ → Operands
loading d a = record {
  src_a = a;
  src_b = 0;
  n_srcs = 1;
  dest = Some d;
  is_load = true;
  is_store = false;
  latency = None;
  branch = None;
}

-- a store of register b to address or base a
unfoldable pub storing : ℕ → ℕ → Operands
storing a b = record {
  src_a = a;
  src_b = b;
  n_srcs = 2;
  dest = None;
  is_load = false;
  is_store = true;
  latency = None;
  branch = None;
}

-- a conditional branch on n sources
unfoldable pub branching : ℕ → ℕ → ℕ → ℤ → Operands
branching a b n o = record {
  src_a = a;
  src_b = b;
  n_srcs = n;
  dest = None;
  is_load = false;
  is_store = false;
  latency = None;
  branch = Some (word_of o);
}

-- the latency of MUL and MULH
abbrev pub mul_latency : ℕ
mul_latency = 3

-- the latency of DIV, DIVU and MOD
abbrev pub div_latency : ℕ
div_latency = 16

-- Normal stores: base, then the value in rd. LDIL and LDIH read their own rd. Links go to R31.
unfoldable pub operands_n : Instruction → Operands
operands_n Nop = bare
operands_n (Ld rd base offset) = loading rd base
operands_n (St rd base offset) = storing base rd
operands_n (Add rd rs1 rs2) = binary None rd rs1 rs2
operands_n (Addi rd rs1 imm) = unary rd rs1
operands_n (Sub rd rs1 rs2) = binary None rd rs1 rs2
operands_n (Slt rd rs1 rs2) = binary None rd rs1 rs2
operands_n (Beq rs1 rs2 offset) = branching rs1 rs2 2 offset
operands_n (Bne rs1 rs2 offset) = branching rs1 rs2 2 offset
operands_n (Jmp offset) = bare
operands_n (Jal offset) = writes 31
operands_n (Jr rd) = reads rd
operands_n (Jmps offset) = bare
operands_n (Jals offset) = writes 31
operands_n (Jrs rd) = reads rd
operands_n (Jalr rd) = unary 31 rd
operands_n (Jalrs rd) = unary 31 rd
operands_n Cpuid = bare
operands_n Halt = bare
operands_n (And rd rs1 rs2) = binary None rd rs1 rs2
operands_n (Or rd rs1 rs2) = binary None rd rs1 rs2
operands_n (Xor rd rs1 rs2) = binary None rd rs1 rs2
operands_n (Sll rd rs1 rs2) = binary None rd rs1 rs2
operands_n (Srl rd rs1 rs2) = binary None rd rs1 rs2
operands_n (Sla rd rs1 rs2) = binary None rd rs1 rs2
operands_n (Sra rd rs1 rs2) = binary None rd rs1 rs2
operands_n (Sltu rd rs1 rs2) = binary None rd rs1 rs2
operands_n (Mul rd rs1 rs2) = binary (Some mul_latency) rd rs1 rs2
operands_n (Div rd rs1 rs2) = binary (Some div_latency) rd rs1 rs2
operands_n (Mod rd rs1 rs2) = binary (Some div_latency) rd rs1 rs2
operands_n (Mulh rd rs1 rs2) = binary (Some mul_latency) rd rs1 rs2
operands_n (Divu rd rs1 rs2) = binary (Some div_latency) rd rs1 rs2
operands_n (Ldb rd base offset) = loading rd base
operands_n (Ldh rd base offset) = loading rd base
operands_n (Stb rd base offset) = storing base rd
operands_n (Sth rd base offset) = storing base rd
operands_n (Ldil rd imm) = unary rd rd
operands_n (Ldih rd imm) = unary rd rd
operands_n (Unknown high low) = bare
operands_n Iret = bare
operands_n (Syscall imm) = bare
operands_n (Mfsr rd sr) = writes rd
operands_n (Mtsr rs sr) = reads rs

-- Short ST: rd is the address, rs1 the value. RET reads no register.
unfoldable pub operands_s : ShortInstruction → Operands
operands_s (ShortMov rd rs1) = unary (gpr rd) (gpr rs1)
operands_s (ShortAdd rd rs1 rs2) = binary None (gpr rd) (gpr rs1) (gpr rs2)
operands_s (ShortAddi rd imm) = unary (gpr rd) (gpr rd)
operands_s (ShortLd rd rs1) = loading (gpr rd) (gpr rs1)
operands_s (ShortSt rd rs1) = storing (gpr rd) (gpr rs1)
operands_s (ShortBz rd offset) = branching (gpr rd) 0 1 offset
operands_s (ShortBnz rd offset) = branching (gpr rd) 0 1 offset
operands_s (ShortJr rd) = reads (gpr rd)
operands_s (ShortJal offset) = writes 31
operands_s (ShortLdi rd imm) = writes (gpr rd)
operands_s ShortRet = bare
operands_s (ShortUnknown h) = bare

-- the operands of a decoded instruction
unfoldable pub operands_of : Decoded → Operands
operands_of (DecNormal i) = operands_n i
operands_of (DecShort i) = operands_s i

-- a destination below 32, or none
unfoldable pub ok_dest : Option ℕ → Bool
ok_dest None = true
ok_dest (Some d) = nat_lt d 32

-- every register that is named is below 32
unfoldable pub ok_operands : Operands → Bool
ok_operands o = nat_lt o.src_a 32 && (nat_lt o.src_b 32 && ok_dest o.dest)
