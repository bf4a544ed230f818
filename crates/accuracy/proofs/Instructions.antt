-- Facts of instructions. Only this file goes by cases on the instruction, in two tables: `odd`, what no instruction
-- does, as one test, and `settle`, that a prediction not gone against is the way taken. Assumes nothing.
use Prim.Native.Nat.{◌*◌, ◌+◌, ◌<◌, ◌≤◌, ℕ}
use borrow.Author.Tests.{eqb-true, lt-ltb, ltb-true}
use lib.Dec.{eqb, ltb}
use mathlib.Core.Bool.{Bool, ◌&&◌, ◌||◌, cond, false, false≢true, not, true}
use mathlib.Core.Path.{◌∙◌, ◌≡◌, refl, subst, sym}
use native.Mathlib.Omega.{arith}
use Rattle.std.specs.Prelude.{None, Option, Some, is_some, unwrap_or}
use Rattle.std.proofs.lemmas.Bool.{and_parts, false_from_ne_true, not-false, or_parts}
use Rattle.isa.proofs.Bools.{and_r, split}
use Rattle.isa.proofs.Latency.{latency_is}
use Rattle.isa.specs.Effect.{branches, effect_n, effect_of, effect_s, fall, gives, goes_by, goes_on, identifies}
use Rattle.isa.specs.Effect.{inquires, jumps, links, marked, no_access, no_marks, no_result, nothing, privileged}
use Rattle.isa.specs.Effect.{raises, reaches, resumes, sets, stops, written}
use Rattle.isa.specs.Machine.{dest_of}
use Rattle.isa.specs.Operands.{bare, binary, branching, div_latency, gpr, loading, mul_latency, ok_dest, ok_operands}
use Rattle.isa.specs.Operands.{operands_n, operands_of, operands_s, plain, reads, storing, unary, writes}
use Rattle.isa.specs.Redirects.{mode_or, target_or}
use Rattle.isa.specs.Waits.{back_to, is_div, is_mul, is_negative, predict, predict_by, slow_of, wait_of, waits}
use Rattle.latch.specs.Bounds.{bad_width}
use Rattle.latch.specs.Execute.{mispredict}
use Rattle.word.specs.Words.{bit, offset32, word_of}
use Rattle.accuracy.specs.Accuracy.{same_mode}
use Rattle.accuracy.specs.Names.{Add, Addi, And, Beq, Bne, Cpuid, DecNormal, DecShort, Decoded, Div, Divu, Effect}
use Rattle.accuracy.specs.Names.{Halt, Instruction, Iret, Jal, Jalr, Jalrs, Jals, Jmp, Jmps, Jr, Jrs, Ld, Ldb, Ldh}
use Rattle.accuracy.specs.Names.{Ldih, Ldil, Mfsr, Mod, Mode, Mtsr, Mul, Mulh, Nop, Normal, Operands, Or, Place}
use Rattle.accuracy.specs.Names.{Short, ShortInstruction, Sla, Sll, Slt, Sltu, Sra, Srl, St, Stb, Sth, Sub, Syscall}
use Rattle.accuracy.specs.Names.{Unknown, Xor, ShortAdd, ShortAddi, ShortBnz, ShortBz, ShortJal, ShortJr, ShortLd}
use Rattle.accuracy.specs.Names.{ShortLdi, ShortMov, ShortRet, ShortSt, ShortUnknown}

pub go_cases : {C : Type 0} (g : Option Place) → (g ≡ None → C) → ((t : Place) → g ≡ Some t → C) → C
go_cases None h k = h refl
go_cases (Some t) h k = k t refl

-- what no instruction does, as tests of the instruction's operands o and effect e, of its guess and of its waits
unfoldable pub odd_load : Bool → Bool → Operands → Effect → Option Place → Bool
odd_load u v o e g = o.is_load &&
    ((u || v) ||
    ((is_some e.redirect || is_some g) ||
    ((o.is_store || e.marks.cpuid) ||
    ((is_some e.marks.exception || eqb e.access.mem_size 0) || not e.alu.writes))))

unfoldable pub odd_store : Operands → Effect → Bool
odd_store o e = (e.alu.always_writes && not (e.alu.writes && is_some o.dest)) || o.is_store &&
    ((e.alu.writes && is_some o.dest) || (is_some e.marks.exception || eqb e.access.mem_size 0))

unfoldable pub odd_wait : Bool → Bool → Operands → Effect → Option Place → Bool
odd_wait u v o e g = ((u || v) && (is_some e.redirect || is_some g)) ||
    ((u && v) || (not (ltb 1 o.n_srcs) && not (eqb o.src_b 0)))

-- a change of mode, not done by an unguessed jump to that mode
unfoldable pub odd_swap : Option Mode → Option Place → Option Place → Bool
odd_swap None g h = false
odd_swap (Some n) (Some t) h = true
odd_swap (Some n) None None = true
odd_swap (Some n) None (Some t) = not (same_mode n t.mode)

-- a redirect that keeps the mode, to another mode than the instruction's
unfoldable pub odd_mode : Mode → Option Mode → Option Place → Bool
odd_mode k None None = false
odd_mode k None (Some t) = not (same_mode k t.mode)
odd_mode k (Some n) h = false

-- a width that is none, more than two sources, or none but a first source other than R0
unfoldable pub odd_bounds : Operands → Effect → Bool
odd_bounds o e = bad_width e.access.mem_size ||
    (ltb 2 o.n_srcs || (not (ltb 0 o.n_srcs) && not (eqb o.src_a 0)))

unfoldable pub odd : Mode → Bool → Bool → Operands → Effect → Option Place → Bool
odd k u v o e g =
    odd_load u v o e g
    || (odd_store o e
    || (odd_wait u v o e g
    || (odd_swap e.branch_new_mode g e.redirect
    || (odd_mode k e.branch_new_mode e.redirect || odd_bounds o e))))

unfoldable pub kind : Decoded → Mode
kind (DecNormal i) = Normal
kind (DecShort i) = Short

not_odd_n : (u : Bool) (i : Instruction) (p n : ℕ) (m : Mode) (x y : ℕ)
    → odd Normal (is_mul (DecNormal i)) (is_div (DecNormal i)) (operands_n i) (effect_n u i n x y)
    (predict (DecNormal i) p m)
    ≡ false
unfolding odd odd_load odd_store odd_wait odd_swap odd_mode odd_bounds bad_width same_mode
    operands_of operands_n effect_n is_mul is_div slow_of bit predict predict_by back_to bare plain writes unary
    binary reads loading storing branching nothing written no_result no_access no_marks goes_on goes_by marked stops
    resumes identifies gives reaches branches jumps links raises sets inquires privileged
not_odd_n u Nop p n m x y = refl
not_odd_n u (Ld rd base offset) p n m x y = refl
not_odd_n u (St rd base offset) p n m x y = refl
not_odd_n u (Add rd rs1 rs2) p n m x y = refl
not_odd_n u (Addi rd rs1 imm) p n m x y = refl
not_odd_n u (Sub rd rs1 rs2) p n m x y = refl
not_odd_n u (Slt rd rs1 rs2) p n m x y = refl
not_odd_n u (Beq rs1 rs2 offset) p n m x y = split (eqb x y) (λ e. rw e) (λ e. rw e)
not_odd_n u (Bne rs1 rs2 offset) p n m x y = split (eqb x y) (λ e. rw e) (λ e. rw e)
not_odd_n u (Jmp offset) p n m x y = refl
not_odd_n u (Jal offset) p n m x y = refl
not_odd_n u (Jr rd) p n m x y = refl
not_odd_n u (Jmps offset) p n m x y = refl
not_odd_n u (Jals offset) p n m x y = refl
not_odd_n u (Jrs rd) p n m x y = refl
not_odd_n u (Jalr rd) p n m x y = refl
not_odd_n u (Jalrs rd) p n m x y = refl
not_odd_n u Cpuid p n m x y = refl
not_odd_n true Halt p n m x y = refl
not_odd_n false Halt p n m x y = refl
not_odd_n u (And rd rs1 rs2) p n m x y = refl
not_odd_n u (Or rd rs1 rs2) p n m x y = refl
not_odd_n u (Xor rd rs1 rs2) p n m x y = refl
not_odd_n u (Sll rd rs1 rs2) p n m x y = refl
not_odd_n u (Srl rd rs1 rs2) p n m x y = refl
not_odd_n u (Sla rd rs1 rs2) p n m x y = refl
not_odd_n u (Sra rd rs1 rs2) p n m x y = refl
not_odd_n u (Sltu rd rs1 rs2) p n m x y = refl
not_odd_n u (Mul rd rs1 rs2) p n m x y = refl
not_odd_n u (Div rd rs1 rs2) p n m x y = refl
not_odd_n u (Mod rd rs1 rs2) p n m x y = refl
not_odd_n u (Mulh rd rs1 rs2) p n m x y = refl
not_odd_n u (Divu rd rs1 rs2) p n m x y = refl
not_odd_n u (Ldb rd base offset) p n m x y = refl
not_odd_n u (Ldh rd base offset) p n m x y = refl
not_odd_n u (Stb rd base offset) p n m x y = refl
not_odd_n u (Sth rd base offset) p n m x y = refl
not_odd_n u (Ldil rd imm) p n m x y = refl
not_odd_n u (Ldih rd imm) p n m x y = refl
not_odd_n u (Unknown high low) p n m x y = refl
not_odd_n true Iret p n m x y = refl
not_odd_n false Iret p n m x y = refl
not_odd_n u (Syscall imm) p n m x y = refl
not_odd_n true (Mfsr rd sr) p n m x y = refl
not_odd_n false (Mfsr rd sr) p n m x y = refl
not_odd_n true (Mtsr rs sr) p n m x y = refl
not_odd_n false (Mtsr rs sr) p n m x y = refl

not_odd_s : (i : ShortInstruction) (p n : ℕ) (m : Mode) (x y : ℕ)
    → odd Short (is_mul (DecShort i)) (is_div (DecShort i)) (operands_s i) (effect_s i n x y) (predict (DecShort i) p m)
    ≡
    false
unfolding odd odd_load odd_store odd_wait odd_swap odd_mode odd_bounds bad_width same_mode
    operands_of operands_s effect_s is_mul is_div bit predict predict_by back_to bare plain writes unary binary reads
    loading storing branching nothing written no_result no_access no_marks goes_on goes_by marked stops resumes
    identifies gives reaches branches jumps links raises sets inquires privileged
not_odd_s (ShortMov rd rs1) p n m x y = refl
not_odd_s (ShortAdd rd rs1 rs2) p n m x y = refl
not_odd_s (ShortAddi rd imm) p n m x y = refl
not_odd_s (ShortLd rd rs1) p n m x y = refl
not_odd_s (ShortSt rd rs1) p n m x y = refl
not_odd_s (ShortBz rd offset) p n m x y = split (eqb x 0) (λ e. rw e) (λ e. rw e)
not_odd_s (ShortBnz rd offset) p n m x y = split (eqb x 0) (λ e. rw e) (λ e. rw e)
not_odd_s (ShortJr rd) p n m x y = refl
not_odd_s (ShortJal offset) p n m x y = refl
not_odd_s (ShortLdi rd imm) p n m x y = refl
not_odd_s ShortRet p n m x y = refl
not_odd_s (ShortUnknown half) p n m x y = refl

pub not_odd : (u : Bool) (i : Decoded) (p : ℕ) (m : Mode) (x y : ℕ)
    → odd (kind i) (is_mul i) (is_div i) (operands_of i) (effect_of u i p x y) (predict i p m) ≡ false
unfolding operands_of effect_of kind
not_odd u (DecNormal i) p m x y = not_odd_n u i p (fall p Normal) m x y
not_odd u (DecShort i) p m x y = not_odd_s i p (fall p Short) m x y

-- what every instruction's tests say of its effect e, one by one
pub record Even (i : Decoded) (p : ℕ) (m : Mode) (e : Effect) : Type 0 where
  pub load : odd_load (is_mul i) (is_div i) (operands_of i) e (predict i p m) ≡ false
  pub store : odd_store (operands_of i) e ≡ false
  pub wait : odd_wait (is_mul i) (is_div i) (operands_of i) e (predict i p m) ≡ false
  pub latency : (operands_of i).latency ≡ cond (is_mul i) (Some mul_latency) (cond (is_div i) (Some div_latency) None)
  pub swap : odd_swap e.branch_new_mode (predict i p m) e.redirect ≡ false
  pub mode : odd_mode (kind i) e.branch_new_mode e.redirect ≡ false
  pub bounds : odd_bounds (operands_of i) e ≡ false

pub even : (u : Bool) (i : Decoded) (p : ℕ) (m : Mode) (x y : ℕ) → Even i p m (effect_of u i p x y)
unfolding odd
even u i p m x y =
    let e = effect_of u i p x y in
    let o = operands_of i in
    let g = predict i p m in
    let r₀ = or_parts (odd_load (is_mul i) (is_div i) o e g) _ (not_odd u i p m x y) in
    let r₁ = or_parts (odd_store o e) _ r₀.1 in
    let r₂ = or_parts (odd_wait (is_mul i) (is_div i) o e g) _ r₁.1 in
    let r₃ = or_parts (odd_swap e.branch_new_mode g e.redirect) _ r₂.1 in
    let r₄ = or_parts (odd_mode (kind i) e.branch_new_mode e.redirect) _ r₃.1 in
    record {
      load = r₀.0;
      store = r₁.0;
      wait = r₂.0;
      latency = latency_is i;
      swap = r₃.0;
      mode = r₄.0;
      bounds = r₄.1;
    }

-- a short instruction's registers are below 32
pub gpr_ok : (r : ℕ) → ltb (gpr r) 32 ≡ true
unfolding gpr
gpr_ok r = split (ltb r 15) (λ e. rw e (lt-ltb r 32 (let h = ltb-true r 15 e in omega arith))) (λ e. rw e)

pub short_ok : (i : ShortInstruction) → ok_operands (operands_s i) ≡ true
unfolding ok_operands ok_dest operands_s bare plain writes unary binary reads loading storing branching
short_ok (ShortMov rd rs1) = rw (gpr_ok rd, gpr_ok rs1)
short_ok (ShortAdd rd rs1 rs2) = rw (gpr_ok rd, gpr_ok rs1, gpr_ok rs2)
short_ok (ShortAddi rd imm) = rw (gpr_ok rd)
short_ok (ShortLd rd rs1) = rw (gpr_ok rd, gpr_ok rs1)
short_ok (ShortSt rd rs1) = rw (gpr_ok rd, gpr_ok rs1)
short_ok (ShortBz rd offset) = rw (gpr_ok rd)
short_ok (ShortBnz rd offset) = rw (gpr_ok rd)
short_ok (ShortJr rd) = rw (gpr_ok rd)
short_ok (ShortJal offset) = refl
short_ok (ShortLdi rd imm) = rw (gpr_ok rd)
short_ok ShortRet = refl
short_ok (ShortUnknown h) = refl

-- a guess not gone against is the way taken
settle_on : (h : Option Place) (f : ℕ) (m : Mode) → mispredict false h f m ≡ None → (target_or h f ≡ f) ×
    (mode_or h m ≡ m)
unfolding mispredict target_or mode_or
settle_on None f m e = (refl, refl)
settle_on (Some t) f m e = (cc, cc)

settle_if : (n b : Bool) (t : Place) (f : ℕ) (m : Mode)
    → mispredict (is_some (cond n (Some t) None)) (cond b (Some t) None) f m ≡ None
    → (target_or (cond b (Some t) None) f ≡ target_or (cond n (Some t) None) f) ×
    (mode_or (cond b (Some t) None) m ≡ mode_or (cond n (Some t) None) m)
unfolding mispredict target_or mode_or
settle_if true true t f m e = (refl, refl)
settle_if true false t f m e = (cc, cc)
settle_if false true t f m e = (cc, cc)
settle_if false false t f m e = (refl, refl)

settle_n : (u : Bool) (i : Instruction) (p x y f : ℕ)
    → mispredict (is_some (predict (DecNormal i) p Normal)) (effect_n u i (fall p Normal) x y).redirect f Normal ≡
    None
    → (target_or (effect_n u i (fall p Normal) x y).redirect f ≡ target_or (predict (DecNormal i) p Normal) f)
    × (mode_or (effect_n u i (fall p Normal) x y).redirect Normal ≡ mode_or (predict (DecNormal i) p Normal) Normal)
unfolding predict predict_by back_to operands_of operands_n effect_n target_or mode_or offset32 bare plain writes
    unary binary reads loading storing branching nothing written no_result no_access no_marks goes_on goes_by marked
    stops resumes identifies gives reaches branches jumps links raises sets inquires privileged
settle_n u Nop p x y f e = settle_on _ f Normal e
settle_n u (Ld rd base offset) p x y f e = settle_on _ f Normal e
settle_n u (St rd base offset) p x y f e = settle_on _ f Normal e
settle_n u (Add rd rs1 rs2) p x y f e = settle_on _ f Normal e
settle_n u (Addi rd rs1 imm) p x y f e = settle_on _ f Normal e
settle_n u (Sub rd rs1 rs2) p x y f e = settle_on _ f Normal e
settle_n u (Slt rd rs1 rs2) p x y f e = settle_on _ f Normal e
settle_n u (Beq rs1 rs2 offset) p x y f e = settle_if (is_negative (word_of offset)) (eqb x y)
    (record { pc = offset32 (fall p Normal) offset; mode = Normal }) f Normal e
settle_n u (Bne rs1 rs2 offset) p x y f e = settle_if (is_negative (word_of offset)) (not (eqb x y))
    (record { pc = offset32 (fall p Normal) offset; mode = Normal }) f Normal e
settle_n u (Jmp offset) p x y f e = settle_on _ f Normal e
settle_n u (Jal offset) p x y f e = settle_on _ f Normal e
settle_n u (Jr rd) p x y f e = settle_on _ f Normal e
settle_n u (Jmps offset) p x y f e = settle_on _ f Normal e
settle_n u (Jals offset) p x y f e = settle_on _ f Normal e
settle_n u (Jrs rd) p x y f e = settle_on _ f Normal e
settle_n u (Jalr rd) p x y f e = settle_on _ f Normal e
settle_n u (Jalrs rd) p x y f e = settle_on _ f Normal e
settle_n u Cpuid p x y f e = settle_on _ f Normal e
settle_n u Halt p x y f e = settle_on _ f Normal e
settle_n u (And rd rs1 rs2) p x y f e = settle_on _ f Normal e
settle_n u (Or rd rs1 rs2) p x y f e = settle_on _ f Normal e
settle_n u (Xor rd rs1 rs2) p x y f e = settle_on _ f Normal e
settle_n u (Sll rd rs1 rs2) p x y f e = settle_on _ f Normal e
settle_n u (Srl rd rs1 rs2) p x y f e = settle_on _ f Normal e
settle_n u (Sla rd rs1 rs2) p x y f e = settle_on _ f Normal e
settle_n u (Sra rd rs1 rs2) p x y f e = settle_on _ f Normal e
settle_n u (Sltu rd rs1 rs2) p x y f e = settle_on _ f Normal e
settle_n u (Mul rd rs1 rs2) p x y f e = settle_on _ f Normal e
settle_n u (Div rd rs1 rs2) p x y f e = settle_on _ f Normal e
settle_n u (Mod rd rs1 rs2) p x y f e = settle_on _ f Normal e
settle_n u (Mulh rd rs1 rs2) p x y f e = settle_on _ f Normal e
settle_n u (Divu rd rs1 rs2) p x y f e = settle_on _ f Normal e
settle_n u (Ldb rd base offset) p x y f e = settle_on _ f Normal e
settle_n u (Ldh rd base offset) p x y f e = settle_on _ f Normal e
settle_n u (Stb rd base offset) p x y f e = settle_on _ f Normal e
settle_n u (Sth rd base offset) p x y f e = settle_on _ f Normal e
settle_n u (Ldil rd imm) p x y f e = settle_on _ f Normal e
settle_n u (Ldih rd imm) p x y f e = settle_on _ f Normal e
settle_n u (Unknown high low) p x y f e = settle_on _ f Normal e
settle_n u Iret p x y f e = settle_on _ f Normal e
settle_n u (Syscall imm) p x y f e = settle_on _ f Normal e
settle_n u (Mfsr rd sr) p x y f e = settle_on _ f Normal e
settle_n u (Mtsr rs sr) p x y f e = settle_on _ f Normal e

settle_s : (i : ShortInstruction) (p x y f : ℕ)
    → mispredict (is_some (predict (DecShort i) p Short)) (effect_s i (fall p Short) x y).redirect f Short ≡ None
    → (target_or (effect_s i (fall p Short) x y).redirect f ≡ target_or (predict (DecShort i) p Short) f)
    × (mode_or (effect_s i (fall p Short) x y).redirect Short ≡ mode_or (predict (DecShort i) p Short) Short)
unfolding predict predict_by back_to operands_of operands_s effect_s target_or mode_or offset32 bare plain writes
    unary binary reads loading storing branching nothing written no_result no_access no_marks goes_on goes_by marked
    stops resumes identifies gives reaches branches jumps links raises sets inquires privileged
settle_s (ShortMov rd rs1) p x y f e = settle_on _ f Short e
settle_s (ShortAdd rd rs1 rs2) p x y f e = settle_on _ f Short e
settle_s (ShortAddi rd imm) p x y f e = settle_on _ f Short e
settle_s (ShortLd rd rs1) p x y f e = settle_on _ f Short e
settle_s (ShortSt rd rs1) p x y f e = settle_on _ f Short e
settle_s (ShortBz rd offset) p x y f e = settle_if (is_negative (word_of offset)) (eqb x 0)
    (record { pc = offset32 (fall p Short) offset; mode = Short }) f Short e
settle_s (ShortBnz rd offset) p x y f e = settle_if (is_negative (word_of offset)) (not (eqb x 0))
    (record { pc = offset32 (fall p Short) offset; mode = Short }) f Short e
settle_s (ShortJr rd) p x y f e = settle_on _ f Short e
settle_s (ShortJal offset) p x y f e = settle_on _ f Short e
settle_s (ShortLdi rd imm) p x y f e = settle_on _ f Short e
settle_s ShortRet p x y f e = settle_on _ f Short e
settle_s (ShortUnknown half) p x y f e = settle_on _ f Short e

pub settle : (u : Bool) (i : Decoded) (p : ℕ) (m : Mode) (x y f : ℕ) → kind i ≡ m → mispredict
    (is_some (predict i p m)) (effect_of u i p x y).redirect f m ≡ None
    → (target_or (effect_of u i p x y).redirect f ≡ target_or (predict i p m) f) ×
    (mode_or (effect_of u i p x y).redirect m ≡ mode_or (predict i p m) m)
unfolding kind effect_of
settle u (DecNormal i) p Normal x y f k e = settle_n u i p x y f e
settle u (DecNormal i) p Short x y f k e = (cc, cc)
settle u (DecShort i) p Normal x y f k e = (cc, cc)
settle u (DecShort i) p Short x y f k e = settle_s i p x y f e

-- an instruction of its mode, whose registers, if it is Normal, are below 32
unfoldable pub ok_in : Decoded → Mode → Bool
ok_in (DecNormal i) Normal = ok_operands (operands_n i)
ok_in (DecNormal i) Short = false
ok_in (DecShort i) Normal = false
ok_in (DecShort i) Short = true

pub ok_kind : (i : Decoded) (m : Mode) → ok_in i m ≡ true → kind i ≡ m
unfolding ok_in kind
ok_kind (DecNormal i) Normal e = refl
ok_kind (DecNormal i) Short e = cc
ok_kind (DecShort i) Normal e = cc
ok_kind (DecShort i) Short e = refl

pub ok_dest_lem : (i : Decoded) (m : Mode) → ok_in i m ≡ true → ok_dest (operands_of i).dest ≡ true
unfolding ok_in operands_of ok_operands
ok_dest_lem (DecNormal i) Normal e =
    (and_parts (ltb (operands_n i).src_b 32) _ (and_parts (ltb (operands_n i).src_a 32) _ e).1).1
ok_dest_lem (DecNormal i) Short e = cc
ok_dest_lem (DecShort i) m e =
    (and_parts (ltb (operands_s i).src_b 32) _ (and_parts (ltb (operands_s i).src_a 32) _ (short_ok i)).1).1

-- the destination of an effect is in bounds where the instruction's is
pub dest_in : (e : Effect) (d : Option ℕ) → ok_dest d ≡ true → ok_dest (dest_of e d) ≡ true
unfolding dest_of ok_dest
dest_in e d h = split e.alu.writes (λ z. rw z h) (λ z. rw z)

-- the width of an effect and the number of sources are in bounds
pub width_in : (u : Bool) (i : Decoded) (p x y : ℕ) → bad_width (effect_of u i p x y).access.mem_size ≡ false
unfolding odd_bounds
width_in u i p x y = (or_parts (bad_width (effect_of u i p x y).access.mem_size) _ (even u i p Normal x y).bounds).0

sources_rest : (i : Decoded) → (ltb 2 (operands_of i).n_srcs || (not (ltb 0 (operands_of i).n_srcs) && not
    (eqb (operands_of i).src_a 0))) ≡ false
unfolding odd_bounds
sources_rest i = (or_parts (bad_width (effect_of false i 0 0 0).access.mem_size) _ (even false i 0 Normal 0 0).bounds).1

pub sources_in : (i : Decoded) → ltb 2 (operands_of i).n_srcs ≡ false
sources_in i = (or_parts (ltb 2 (operands_of i).n_srcs) _ (sources_rest i)).0

-- no source: the first is R0
pub no_source : (i : Decoded) → ltb 0 (operands_of i).n_srcs ≡ false → (operands_of i).src_a ≡ 0
no_source i e = eqb-true (operands_of i).src_a 0
    (not-false _ (and_r (not (ltb 0 (operands_of i).n_srcs)) _
    (or_parts (ltb 2 (operands_of i).n_srcs) _ (sources_rest i)).1 (rw e)))

pub on_on : (g h : Option Place) (p : ℕ) (m : Mode) → (is_some h || is_some g) ≡ false
    → mispredict (is_some g) h p m ≡ None
unfolding mispredict
on_on None None p m e = refl
on_on None (Some t) p m e = cc
on_on (Some t) None p m e = cc
on_on (Some t) (Some r) p m e = cc

slow_rest : (i : Decoded) →
    ((is_mul i && is_div i) || (not (ltb 1 (operands_of i).n_srcs) && not (eqb (operands_of i).src_b 0))) ≡
    false
unfolding odd_wait
slow_rest i = (or_parts ((is_mul i || is_div i) && (is_some (effect_of false i 0 0 0).redirect || is_some
    (predict i 0 Normal))) _ (even false i 0 Normal 0 0).wait).1

pub slow_one : (i : Decoded) → (is_mul i && is_div i) ≡ false
slow_one i = (or_parts (is_mul i && is_div i) _ (slow_rest i)).0

-- the waits: 2 for a multiply, 15 for a divide
waits_by : (u v : Bool) → (u && v) ≡ false
    → wait_of (cond u (Some mul_latency) (cond v (Some div_latency) None)) ≡ 2 * bit u + 15 * bit v
unfolding wait_of bit
waits_by true true h = cc
waits_by true false h = refl
waits_by false true h = refl
waits_by false false h = refl

pub waits_is : (i : Decoded) → waits i ≡ 2 * bit (is_mul i) + 15 * bit (is_div i)
unfolding waits
waits_is i = rw (even false i 0 Normal 0 0).latency (waits_by (is_mul i) (is_div i) (slow_one i))

-- what a load does and does not
pub record Plain (i : Decoded) (p : ℕ) (m : Mode) (e : Effect) : Type 0 where
  pub straight : (q : ℕ) → mispredict (is_some (predict i p m)) e.redirect q m ≡ None
  pub quick : waits i ≡ 0
  pub is_store : (operands_of i).is_store ≡ false
  pub cpuid : e.marks.cpuid ≡ false
  pub exception : is_some e.marks.exception ≡ false
  pub mem_size : eqb e.access.mem_size 0 ≡ false
  pub writes : e.alu.writes ≡ true

pub load_plain : (i : Decoded) (p : ℕ) (m : Mode) (e : Effect) → Even i p m e → (operands_of i).is_load ≡ true
    → Plain i p m e
unfolding odd_load bit
load_plain i p m e v z =
    let o = operands_of i in
    let g = predict i p m in
    let r₁ = or_parts (is_mul i || is_div i) _ (and_r o.is_load _ v.load z) in
    let r₂ = or_parts (is_some e.redirect || is_some g) _ r₁.1 in
    let r₃ = or_parts (o.is_store || e.marks.cpuid) _ r₂.1 in
    let r₄ = or_parts (is_some e.marks.exception || eqb e.access.mem_size 0) _ r₃.1 in
    let slow = or_parts (is_mul i) (is_div i) r₁.0 in
    let marks = or_parts o.is_store _ r₃.0 in
    let access = or_parts (is_some e.marks.exception) _ r₄.0 in
    record {
      straight = λ q. on_on g _ q m r₂.0;
      quick = waits_is i ∙ rw (slow.0, slow.1);
      is_store = marks.0;
      cpuid = marks.1;
      exception = access.0;
      mem_size = access.1;
      writes = not-false e.alu.writes r₄.1;
    }

-- what a store does not
pub record Stores (i : Decoded) (e : Effect) : Type 0 where
  pub dest : (e.alu.writes && is_some (operands_of i).dest) ≡ false
  pub exception : is_some e.marks.exception ≡ false
  pub mem_size : eqb e.access.mem_size 0 ≡ false

pub store_plain : (i : Decoded) (p : ℕ) (m : Mode) (e : Effect) → Even i p m e → (operands_of i).is_store ≡ true
    → Stores i e
unfolding odd_store
store_plain i p m e v z =
    let o = operands_of i in
    let r₀ = or_parts (e.alu.always_writes && not (e.alu.writes && is_some o.dest)) _ v.store in
    let r₁ = or_parts (e.alu.writes && is_some o.dest) _ (and_r o.is_store _ r₀.1 z) in
    let r₂ = or_parts (is_some e.marks.exception) _ r₁.1 in
    record { dest = r₁.0; exception = r₂.0; mem_size = r₂.1 }

-- what is written back in any case has a destination
force_by : (f w d : Bool) → (f && not (w && d)) ≡ false → (f || (w && d)) ≡ (w && d)
force_by true true true e = refl
force_by true true false e = cc
force_by true false d e = cc
force_by false w d e = refl

pub force_none : (i : Decoded) (p : ℕ) (m : Mode) (e : Effect) → Even i p m e
    → (e.alu.always_writes || (e.alu.writes && is_some (operands_of i).dest))
    ≡ (e.alu.writes && is_some (operands_of i).dest)
unfolding odd_store
force_none i p m e v =
    let o = operands_of i in
    force_by e.alu.always_writes e.alu.writes (is_some o.dest)
    (or_parts (e.alu.always_writes && not (e.alu.writes && is_some o.dest)) _ v.store).0

-- multiplies and divides
bits : (u v : Bool) → 0 < 2 * bit u + 15 * bit v → (u || v) ≡ true
unfolding bit
bits true v h = refl
bits false true h = refl
bits false false h = absurd (omega arith)

pub slow_straight : (i : Decoded) (p : ℕ) (m : Mode) (e : Effect) → Even i p m e → (q : ℕ) → 0 < waits i
    → mispredict (is_some (predict i p m)) e.redirect q m ≡ None
unfolding odd_wait
slow_straight i p m e v q h =
    on_on (predict i p m) _ q m
    (and_r (is_mul i || is_div i) _
    (or_parts _ ((is_mul i && is_div i) || (not (ltb 1 (operands_of i).n_srcs) && not
    (eqb (operands_of i).src_b 0))) v.wait).0
    (bits (is_mul i) (is_div i) (subst (λ (n : ℕ). 0 < n) (waits_is i) h)))

-- a load does not wait
pub load_quick : (i : Decoded) → (operands_of i).is_load ≡ true → waits i ≡ 0
load_quick i e = (load_plain i 0 Normal _ (even false i 0 Normal 0 0) e).quick

pub slow_load : (i : Decoded) → 0 < waits i → (operands_of i).is_load ≡ false
slow_load i h = false_from_ne_true (operands_of i).is_load
    (λ e. let z = load_quick i e in omega arith)

bits_in : (u v : Bool) → (u && v) ≡ false → 2 * bit u + 15 * bit v ≤ 15
unfolding bit
bits_in true true e = absurd (false≢true (sym e))
bits_in true false e = omega arith
bits_in false true e = omega arith
bits_in false false e = omega arith

pub waits_in : (i : Decoded) → waits i ≤ 15
waits_in i = let e = waits_is i in let h = bits_in (is_mul i) (is_div i) (slow_one i) in omega arith

-- fewer than two sources: the second is R0
pub few : (i : Decoded) → ltb 1 (operands_of i).n_srcs ≡ false → (operands_of i).src_b ≡ 0
few i e = eqb-true (operands_of i).src_b 0
    (not-false _ (and_r (not (ltb 1 (operands_of i).n_srcs)) _
    (or_parts (is_mul i && is_div i) _ (slow_rest i)).1 (rw e)))

-- a change of mode: the mode that a jump, never guessed, goes to
swap_by : (n : Option Mode) (g h : Option Place) (f : ℕ) (m : Mode) → odd_swap n g h ≡ false
    → is_some (mispredict (is_some g) h f m) ≡ false → (k : Mode) → unwrap_or n k ≡ k
unfolding odd_swap mispredict
swap_by None g h f m o e k = refl
swap_by (Some n) (Some t) h f m o e k = cc
swap_by (Some n) None None f m o e k = cc
swap_by (Some n) None (Some t) f m o e k = cc

pub mode_eq : (n m : Mode) → same_mode n m ≡ true → n ≡ m
unfolding same_mode
mode_eq Normal Normal e = refl
mode_eq Normal Short e = cc
mode_eq Short Normal e = cc
mode_eq Short Short e = refl

swap_to : (n : Option Mode) (g h : Option Place) (m : Mode) → odd_swap n g h ≡ false
    → unwrap_or n (mode_or h m) ≡ mode_or h m
unfolding odd_swap mode_or
swap_to None g h m o = refl
swap_to (Some n) (Some t) h m o = cc
swap_to (Some n) None None m o = cc
swap_to (Some n) None (Some t) m o = mode_eq n t.mode (not-false _ o)

pub swap_kept : (i : Decoded) (p : ℕ) (m : Mode) (e : Effect) → Even i p m e → (f : ℕ)
    → is_some (mispredict (is_some (predict i p m)) e.redirect f m) ≡ false
    → (k : Mode) → unwrap_or e.branch_new_mode k ≡ k
swap_kept i p m e v f h k = swap_by _ (predict i p m) e.redirect f m v.swap h k

pub swap_new : (i : Decoded) (p : ℕ) (m : Mode) (e : Effect) → Even i p m e
    → unwrap_or e.branch_new_mode (mode_or e.redirect m) ≡ mode_or e.redirect m
swap_new i p m e v = swap_to _ (predict i p m) e.redirect m v.swap

-- the retired mode: the mode that an instruction goes on in
stays_by : (n : Option Mode) (g h : Option Place) (m : Mode) → odd_swap n g h ≡ false → odd_mode m n h ≡ false
    → unwrap_or n m ≡ mode_or h m
unfolding odd_swap odd_mode mode_or
stays_by None g None m o q = refl
stays_by None g (Some t) m o q = mode_eq m t.mode (not-false _ q)
stays_by (Some n) (Some t) h m o q = cc
stays_by (Some n) None None m o q = cc
stays_by (Some n) None (Some t) m o q = mode_eq n t.mode (not-false _ o)

pub mode_stays : (i : Decoded) (p : ℕ) (m : Mode) (e : Effect) → Even i p m e → kind i ≡ m
    → unwrap_or e.branch_new_mode m ≡ mode_or e.redirect m
mode_stays i p m e v k =
    stays_by e.branch_new_mode (predict i p m) e.redirect m v.swap
    (subst (λ (j : Mode). odd_mode j e.branch_new_mode e.redirect ≡ false) k v.mode)

-- a redirect leads where the instruction goes
pub turned : (g : Bool) (h : Option Place) (f : ℕ) (m : Mode) (q : Place) → mispredict g h f m ≡ Some q
    → (q.pc ≡ target_or h f) × (q.mode ≡ mode_or h m)
unfolding mispredict target_or mode_or
turned false None f m q e = (cc, cc)
turned false (Some t) f m q e = (cc, cc)
turned true None f m q e = (cc, cc)
turned true (Some t) f m q e = (cc, cc)
