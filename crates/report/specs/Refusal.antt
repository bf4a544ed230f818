-- What tickrun says on standard error: nothing, or of a refused run which record it was and why.
use Rattle.std.specs.Prelude.{◌%◌, ◌*◌, ◌+◌, ◌/◌, ℕ, ◌==◌, nat_lt, Bool, codes, cond, List, [], ◌++◌, ◌∷◌, Option, None, Some}
use Rattle.refusal.specs.Number.{number_of}
use Rattle.report.specs.Ascii.{decimal, line}
use Rattle.report.specs.Names.{BadCommand, BadLength, BadRegister, End, EndRefused, Exception, Faulty, Halted}
use Rattle.report.specs.Names.{IllegalInstruction, Loads, MemWb, Numbered, PrivilegedInstruction, Ran, Refusal, Spent}
use Rattle.report.specs.Names.{SyscallException}
use Rattle.sheet.specs.Sheet.{first_refused}

-- the digit of the lowest four bits, 0 to 9 and A to F
unfoldable pub hex_digit : ℕ → ℕ
hex_digit n = cond (nat_lt (n % 16) 10) (48 + n % 16) (55 + n % 16)

-- the lowest sixteen bits
unfoldable pub hex_four : ℕ → List ℕ
hex_four n = hex_digit (n / 4096) ∷ hex_digit (n / 256) ∷ hex_digit (n / 16) ∷ hex_digit n ∷ []

-- an address in hexadecimal: four digits, or eight where it has more
unfoldable pub hexadecimal : ℕ → List ℕ
hexadecimal n = cond (nat_lt n 65536) (hex_four n) (hex_four (n / 65536) ++ hex_four n)

-- the record of an address
unfoldable pub record_text : ℕ → List ℕ
record_text pc = codes "record " ++ (decimal (pc / 4) ++ (codes ", address " ++ hexadecimal pc))

-- the number of the refusal, and why
unfoldable pub reason_text : Refusal → List ℕ → List ℕ
reason_text r why = codes ": refused " ++ (decimal (number_of r) ++ (codes ", " ++ (why ++ codes "\n")))

-- which record it was, and the reason
unfoldable pub explained : ℕ → Refusal → List ℕ → List ℕ
explained pc r why = codes "tickrun: " ++ (record_text pc ++ reason_text r why)

-- what came to retire where 12 applies: an exception, the mark of IRET, or else MTSR
unfoldable pub fault_reason : Option Exception → Bool → List ℕ
fault_reason None iret = cond iret (codes "it is IRET") (codes "it is MTSR")
fault_reason (Some PrivilegedInstruction) iret = codes "it is privileged"
fault_reason (Some IllegalInstruction) iret = codes "no such instruction, or no such special register"
fault_reason (Some (SyscallException imm)) iret = codes "it is SYSCALL"

-- by the refusal, the address of the first refused record, and the latch that holds what retires next
unfoldable pub refusal_by : Refusal → ℕ → MemWb → List ℕ
refusal_by BadRegister first m = explained first BadRegister (codes "it names a register above 31")
refusal_by BadCommand first m =
    explained first BadCommand (codes "no such command, or a byte is not 0 where it must be")
refusal_by BadLength first m =
    codes "tickrun: refused 6, the number of bytes is above 20480 or not divisible by 5\n"
refusal_by Faulty first m = explained m.pc Faulty (fault_reason m.exception m.iret)
refusal_by r first m = line (codes "tickrun: refused") (number_of r)

-- the refusals that have a reason beside their number, by it
unfoldable pub with_reason : ℕ → Option Refusal
with_reason n =
    cond (n == 1) (Some BadRegister)
    (cond (n == 5) (Some BadCommand)
    (cond (n == 6) (Some BadLength)
    (cond (n == 12) (Some Faulty)
    None)))

-- the same of a refusal that is told by its number n, by its reason if it has one
unfoldable pub numbered_by : Option Refusal → ℕ → ℕ → MemWb → List ℕ
numbered_by None n first m = line (codes "tickrun: refused") n
numbered_by (Some r) n first m = refusal_by r first m

-- by the run's end; a sheet that is not too long has at most 4,096 records
unfoldable pub refusal_text : End → List ℕ → MemWb → List ℕ
refusal_text Halted sheet m = []
refusal_text Spent sheet m = []
refusal_text (EndRefused r) sheet m = refusal_by r (first_refused sheet 0 4096 * 4) m
refusal_text Loads sheet m = []
refusal_text (Numbered n) sheet m = numbered_by (with_reason n) n (first_refused sheet 0 4096 * 4) m

-- of a run of a sheet
unfoldable pub refusal_of : Ran → List ℕ → List ℕ
refusal_of r sheet = refusal_text r.end sheet r.state.stages.mem_wb
