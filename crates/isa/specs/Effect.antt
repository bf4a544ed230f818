-- What an instruction at address p does with operand values x and y: RULES 4, said once.
use Rattle.std.specs.Prelude.{ℕ, ◌==◌, Bool, cond, false, not, true, Option, None, Some}
use Rattle.word.specs.Words.{add32, and32, div32, divu32, ldih32, ldil32, mod32, mul32, mulh32, offset32, or32, sll32}
use Rattle.word.specs.Words.{slt32, sltu32, sra32, srl32, sub32, xor32}
use Rattle.isa.specs.Names.{Access, Add, Addi, AluResult, And, Beq, Bne, Cpuid, DecNormal, DecShort, Decoded, Div}
use Rattle.isa.specs.Names.{Divu, Effect, Exception, Halt, IllegalInstruction, Instruction, Iret, Jal, Jalr}
use Rattle.isa.specs.Names.{Jalrs, Jals, Jmp, Jmps, Jr, Jrs, Ld, Ldb, Ldh, Ldih, Ldil, Marks, Mfsr, Mod}
use Rattle.isa.specs.Names.{Mode, Mtsr, Mul, Mulh, Nop, Normal, Or, Place}
use Rattle.isa.specs.Names.{PrivilegedInstruction, Short, ShortInstruction, Sla, Sll, Slt, Sltu, Sra}
use Rattle.isa.specs.Names.{Srl, St, Stb, Sth, Sub, Syscall, SyscallException, Unknown, Xor}
use Rattle.isa.specs.Names.{ShortAdd, ShortAddi, ShortBnz, ShortBz, ShortJal, ShortJr, ShortLd, ShortLdi, ShortMov}
use Rattle.isa.specs.Names.{ShortRet, ShortSt, ShortUnknown}

-- the size of an instruction in bytes, by its mode
unfoldable pub size : Mode → ℕ
size Normal = 4
size Short = 2

-- the address after the instruction at p
unfoldable pub fall : ℕ → Mode → ℕ
fall p m = add32 p (size m)

-- the place after an instruction's, in the same mode
unfoldable pub after : Place → Place
after p = record { pc = fall p.pc p.mode; mode = p.mode }

-- the word v for the destination; a: the write is asked for even where no destination is named
unfoldable pub written : ℕ → Bool → AluResult
written v a = record { value = v; writes = true; always_writes = a }

-- no word for a destination
unfoldable pub no_result : AluResult
no_result = record { value = 0; writes = false; always_writes = false }

-- nothing asked of the memory
unfoldable pub no_access : Access
no_access = record { mem_addr = 0; store_value = 0; mem_size = 0; is_mem_read = false }

-- nothing left to the retirement
unfoldable pub no_marks : Marks
no_marks = record { halt = false; iret = false; cpuid = false; exception = None; mtsr = None }

-- result r and access a, and on to the next address
unfoldable pub goes_on : AluResult → Access → Effect
goes_on r a = record
    { alu = r; access = a; redirect = None; branch_new_mode = None; marks = no_marks; inquiry = None }

-- result r, and the way g; n: the mode that it changes to
unfoldable pub goes_by : AluResult → Option Place → Option Mode → Effect
goes_by r g n = record
    { alu = r; access = no_access; redirect = g; branch_new_mode = n; marks = no_marks; inquiry = None }

-- nothing but marks k
unfoldable pub marked : Marks → Effect
marked k = record
    { alu = no_result; access = no_access; redirect = None; branch_new_mode = None; marks = k; inquiry = None }

-- nothing
unfoldable pub nothing : Effect
nothing = marked no_marks

-- the destination gets v
unfoldable pub gives : ℕ → Effect
gives v = goes_on (written v false) no_access

-- a load (l) of width w at address a, or a store of v there
unfoldable pub reaches : Bool → ℕ → ℕ → ℕ → Effect
reaches l w a v =
    goes_on (record { value = 0; writes = l; always_writes = l })
    (record { mem_addr = a; store_value = v; mem_size = w; is_mem_read = l })

-- a conditional branch to q, where c holds
unfoldable pub branches : Bool → ℕ → Mode → Effect
branches c q m = goes_by no_result (cond c (Some (record { pc = q; mode = m })) None) None

-- a jump to q in mode m; n: the mode that it changes to
unfoldable pub jumps : ℕ → Mode → Option Mode → Effect
jumps q m n = goes_by no_result (Some (record { pc = q; mode = m })) n

-- a jump that leaves the address v of the next instruction
unfoldable pub links : ℕ → ℕ → Mode → Option Mode → Effect
links v q m n = goes_by (written v true) (Some (record { pc = q; mode = m })) n

-- HALT
unfoldable pub stops : Effect
stops = marked (record { halt = true; iret = false; cpuid = false; exception = None; mtsr = None })

-- IRET
unfoldable pub resumes : Effect
resumes = marked (record { halt = false; iret = true; cpuid = false; exception = None; mtsr = None })

-- CPUID
unfoldable pub identifies : Effect
identifies = marked (record { halt = false; iret = false; cpuid = true; exception = None; mtsr = None })

-- an exception, where one is raised
unfoldable pub raises : Option Exception → Effect
raises e = marked (record { halt = false; iret = false; cpuid = false; exception = e; mtsr = None })

-- MTSR: word v for special register sr
unfoldable pub sets : ℕ → ℕ → Effect
sets sr v = marked (record { halt = false; iret = false; cpuid = false; exception = None; mtsr = Some (record { sr = sr; value = v }) })

-- MFSR: the word of special register sr is asked for, and nothing else is done
unfoldable pub inquires : ℕ → Effect
inquires sr = record
    { alu = no_result; access = no_access; redirect = None; branch_new_mode = None; marks = no_marks; inquiry = Some sr }

-- in user mode a privileged instruction raises an exception
unfoldable pub privileged : Bool → Effect → Effect
privileged u e = cond u (raises (Some PrivilegedInstruction)) e

-- n: the address after the instruction
unfoldable pub effect_n : Bool → Instruction → ℕ → ℕ → ℕ → Effect
effect_n u Nop n x y = nothing
effect_n u (Ld rd base offset) n x y = reaches true 4 (offset32 x offset) 0
effect_n u (St rd base offset) n x y = reaches false 4 (offset32 x offset) y
effect_n u (Add rd rs1 rs2) n x y = gives (add32 x y)
effect_n u (Addi rd rs1 imm) n x y = gives (offset32 x imm)
effect_n u (Sub rd rs1 rs2) n x y = gives (sub32 x y)
effect_n u (Slt rd rs1 rs2) n x y = gives (slt32 x y)
effect_n u (Beq rs1 rs2 offset) n x y = branches (x == y) (offset32 n offset) Normal
effect_n u (Bne rs1 rs2 offset) n x y = branches (not (x == y)) (offset32 n offset) Normal
effect_n u (Jmp offset) n x y = jumps (offset32 n offset) Normal None
effect_n u (Jal offset) n x y = links n (offset32 n offset) Normal None
effect_n u (Jr rd) n x y = jumps x Normal None
effect_n u (Jmps offset) n x y = jumps (offset32 n offset) Short (Some Short)
effect_n u (Jals offset) n x y = links n (offset32 n offset) Short (Some Short)
effect_n u (Jrs rd) n x y = jumps x Short (Some Short)
effect_n u (Jalr rd) n x y = links n x Normal None
effect_n u (Jalrs rd) n x y = links n x Short (Some Short)
effect_n u Cpuid n x y = identifies
effect_n u Halt n x y = privileged u stops
effect_n u (And rd rs1 rs2) n x y = gives (and32 x y)
effect_n u (Or rd rs1 rs2) n x y = gives (or32 x y)
effect_n u (Xor rd rs1 rs2) n x y = gives (xor32 x y)
effect_n u (Sll rd rs1 rs2) n x y = gives (sll32 x y)
effect_n u (Srl rd rs1 rs2) n x y = gives (srl32 x y)
effect_n u (Sla rd rs1 rs2) n x y = gives (sll32 x y)
effect_n u (Sra rd rs1 rs2) n x y = gives (sra32 x y)
effect_n u (Sltu rd rs1 rs2) n x y = gives (sltu32 x y)
effect_n u (Mul rd rs1 rs2) n x y = gives (mul32 x y)
effect_n u (Div rd rs1 rs2) n x y = gives (div32 x y)
effect_n u (Mod rd rs1 rs2) n x y = gives (mod32 x y)
effect_n u (Mulh rd rs1 rs2) n x y = gives (mulh32 x y)
effect_n u (Divu rd rs1 rs2) n x y = gives (divu32 x y)
effect_n u (Ldb rd base offset) n x y = reaches true 1 (offset32 x offset) 0
effect_n u (Ldh rd base offset) n x y = reaches true 2 (offset32 x offset) 0
effect_n u (Stb rd base offset) n x y = reaches false 1 (offset32 x offset) y
effect_n u (Sth rd base offset) n x y = reaches false 2 (offset32 x offset) y
effect_n u (Ldil rd imm) n x y = gives (ldil32 x imm)
effect_n u (Ldih rd imm) n x y = gives (ldih32 x imm)
effect_n u (Unknown high low) n x y = raises (Some IllegalInstruction)
effect_n u Iret n x y = privileged u resumes
effect_n u (Syscall imm) n x y = raises (Some (SyscallException imm))
effect_n u (Mfsr rd sr) n x y = privileged u (inquires sr)
effect_n u (Mtsr rs sr) n x y = privileged u (sets sr x)

-- RET goes to the next short address in Normal mode.
unfoldable pub effect_s : ShortInstruction → ℕ → ℕ → ℕ → Effect
effect_s (ShortMov rd rs1) n x y = gives x
effect_s (ShortAdd rd rs1 rs2) n x y = gives (add32 x y)
effect_s (ShortAddi rd imm) n x y = gives (offset32 x imm)
effect_s (ShortLd rd rs1) n x y = reaches true 4 x 0
effect_s (ShortSt rd rs1) n x y = reaches false 4 x y
effect_s (ShortBz rd offset) n x y = branches (x == 0) (offset32 n offset) Short
effect_s (ShortBnz rd offset) n x y = branches (not (x == 0)) (offset32 n offset) Short
effect_s (ShortJr rd) n x y = jumps x Short None
effect_s (ShortJal offset) n x y = links n (offset32 n offset) Short None
effect_s (ShortLdi rd imm) n x y = gives imm
effect_s ShortRet n x y = jumps n Normal (Some Normal)
effect_s (ShortUnknown h) n x y = raises (Some IllegalInstruction)

-- u: in user mode; p: the instruction's address
unfoldable pub effect_of : Bool → Decoded → ℕ → ℕ → ℕ → Effect
effect_of u (DecNormal i) p x y = effect_n u i (fall p Normal) x y
effect_of u (DecShort i) p x y = effect_s i (fall p Short) x y
