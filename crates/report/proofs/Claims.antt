-- Everything claimed of the text, proved. Assumes nothing.
use Prim.Native.Nat.{◌*◌, ◌+◌, ◌/◌, ◌≤◌, suc, zero, ℕ}
use lib.Dec.{eqb, ltb}
use lib.ListN.{get_or, length, length-append}
use mathlib.Core.Bool.{Bool}
use mathlib.Core.List.{List, ◌++◌}
use mathlib.Core.Path.{refl}
use native.Mathlib.Omega.{arith}
use Rattle.std.specs.Prelude.{codes, Option, None, Some}
use Rattle.refusal.specs.Number.{number_of}
use Rattle.isa.proofs.Bools.{split}
use Rattle.report.specs.Ascii.{decimal, digits_in, line, value}
use Rattle.report.specs.Claims.{Claims}
use Rattle.report.specs.Names.{BadCommand, BadLength, BadRegister, End, EndRefused, Exception, Faulty, Halted}
use Rattle.report.specs.Names.{IllegalInstruction, Loads, MemWb, Numbered, PrivilegedInstruction, Ran, Refusal, Spent}
use Rattle.report.specs.Names.{SyscallException}
use Rattle.report.specs.Refusal.{explained, fault_reason, hex_digit, hex_four, hexadecimal, reason_text, record_text}
use Rattle.report.specs.Refusal.{numbered_by, refusal_by, refusal_of, refusal_text, with_reason}
use Rattle.report.specs.Text.{count_lines, end_line, register_line, register_lines, report_text}
use Rattle.sheet.specs.Sheet.{first_refused}

digits_length : (k n : ℕ) → length (digits_in k n) ≤ k
unfolding digits_in
digits_length zero n = omega arith
digits_length (suc k) n = split (ltb n 10)
    (λ e. rw e (omega arith))
    (λ e. rw (e, length-append) (omega (arith, digits_length k (n / 10))))

decimal_length : (n : ℕ) → length (decimal n) ≤ 20
unfolding decimal
decimal_length n = digits_length 20 n

line_length : (name : List ℕ) (n : ℕ) → length (line name n) ≤ length name + 22
unfolding line value
line_length name n = simp length-append (omega (arith, decimal_length n))

end_length : (e : End) → length (end_line e) ≤ 33
unfolding end_line
end_length Halted = omega arith
end_length Spent = omega arith
end_length (EndRefused r) = line_length (codes "end refused") (number_of r)
end_length Loads = omega arith
end_length (Numbered n) = line_length (codes "end refused") n

register_length : (k v : ℕ) → length (register_line k v) ≤ 43
unfolding register_line
register_length k v = split (eqb v 0)
    (λ e. rw e (omega arith))
    (λ e. rw e (omega (
      arith,
      line_length (codes "R" ++ decimal k) v,
      length-append (codes "R") (decimal k),
      decimal_length k,
    )))

registers_length : (n : ℕ) (rs : List ℕ) → length (register_lines n rs) ≤ n * 43
unfolding register_lines
registers_length zero rs = omega arith
registers_length (suc n) rs =
    rw length-append (omega (arith, registers_length n rs, register_length n (get_or rs n 0)))

counts_length : (t n s f : ℕ) → length (count_lines t n s f) ≤ 113
unfolding count_lines
counts_length t n s f = simp length-append (omega (
  arith,
  line_length (codes "ticks") t,
  line_length (codes "retired") n,
  line_length (codes "stalls") s,
  line_length (codes "flushes") f,
))

pub short : (r : Ran) → length (report_text r) ≤ 1522
unfolding report_text
short r = simp length-append (omega (
  arith,
  end_length r.end,
  counts_length r.ticks r.state.counts.instructions_executed r.state.counts.stall_cycles
      r.state.counts.flush_events,
  registers_length 32 r.state.reg,
))

hexadecimal_length : (n : ℕ) → length (hexadecimal n) ≤ 8
unfolding hexadecimal hex_four
hexadecimal_length n = split (ltb n 65536) (λ e. rw e (omega arith)) (λ e. rw e (omega arith))

explained_length : (pc : ℕ) (r : Refusal) (why : List ℕ) → length why ≤ 52 → length (explained pc r why) ≤ 139
unfolding explained reason_text record_text
explained_length pc r why h = simp length-append
    (omega (arith, decimal_length (pc / 4), decimal_length (number_of r), hexadecimal_length pc))

fault_length : (e : Option Exception) (b : Bool) → length (fault_reason e b) ≤ 52
unfolding fault_reason
fault_length None b = split b (λ e. rw e (omega arith)) (λ e. rw e (omega arith))
fault_length (Some PrivilegedInstruction) b = omega arith
fault_length (Some IllegalInstruction) b = omega arith
fault_length (Some (SyscallException n)) b = omega arith

-- a refusal that is told by its number alone
number_length : (n : ℕ) → length (line (codes "tickrun: refused") n) ≤ 139
number_length n = omega (arith, line_length (codes "tickrun: refused") n)

refusal_length : (r : Refusal) (first : ℕ) (m : MemWb) → length (refusal_by r first m) ≤ 139
unfolding refusal_by
refusal_length BadRegister first m = explained_length first BadRegister _ (omega arith)
refusal_length BadCommand first m = explained_length first BadCommand _ (omega arith)
refusal_length BadLength first m = omega arith
refusal_length Faulty first m = explained_length m.pc Faulty _ (fault_length m.exception m.iret)
refusal_length r first m = number_length _

numbered_length : (r : Option Refusal) (n first : ℕ) (m : MemWb) → length (numbered_by r n first m) ≤ 139
unfolding numbered_by
numbered_length None n first m = number_length n
numbered_length (Some r) n first m = refusal_length r first m

short_refusal_lem : (e : End) (sheet : List ℕ) (m : MemWb) → length (refusal_text e sheet m) ≤ 139
unfolding refusal_text
short_refusal_lem Halted sheet m = omega arith
short_refusal_lem Spent sheet m = omega arith
short_refusal_lem (EndRefused r) sheet m = refusal_length r (first_refused sheet 0 4096 * 4) m
short_refusal_lem Loads sheet m = omega arith
short_refusal_lem (Numbered n) sheet m = numbered_length (with_reason n) n (first_refused sheet 0 4096 * 4) m

pub claims : Claims
unfolding number_of line value decimal digits_in end_line register_line register_lines count_lines report_text hex_digit hex_four
    hexadecimal record_text reason_text explained refusal_by refusal_of
claims = record {
  short = short;
  short_refusal = λ r sheet. short_refusal_lem r.end sheet r.state.stages.mem_wb;
  any_number = line_length;
  example = λ l c k. refl;
  most = refl;
  refused = refl;
  last = refl;
  cleared = refl;
  record687 = λ m. refl;
}
