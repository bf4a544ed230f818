-- The walk: an instruction's latches as functions of the state that it starts from; when it is due.
use Prim.Native.Nat.{◌*◌, ◌+◌, ◌<◌, suc, zero, ℕ}
use lib.Dec.{eqb}
use lib.ListN.{get_or, length}
use mathlib.Core.Bool.{Bool, ◌&&◌, cond, false, false≢true, not, true}
use mathlib.Core.List.{List, [], ◌++◌}
use mathlib.Core.Path.{◌∙◌, ◌≡◌, ap, refl, sym}
use Rattle.std.specs.Prelude.{None, Option, Some, is_some}
use Rattle.isa.proofs.Bools.{split}
use Rattle.isa.proofs.Machine.{step, walk}
use Rattle.isa.specs.Effect.{fall}
use Rattle.isa.specs.Inquiries.{fill}
use Rattle.isa.specs.Machine.{Arch, Program, dest_of, effect_at, first, instruction_at, open_at, request_of, rest}
use Rattle.isa.specs.Machine.{step_by, value_at}
use Rattle.isa.specs.Operands.{ok_dest, operands_of}
use Rattle.isa.specs.Redirects.{mode_or, target_or}
use Rattle.isa.specs.Registers.{is_dest, put_reg, read_reg, write_cpuid, write_reg}
use Rattle.isa.specs.Short.{decoded_of}
use Rattle.isa.specs.Waits.{is_used_load, waits}
use Rattle.latch.specs.Decode.{id_ex_by, id_ex_of}
use Rattle.latch.specs.Execute.{ex_mem_of, mispredict}
use Rattle.latch.specs.Forwarding.{cpuid_word, from_mem_wb}
use Rattle.latch.specs.Memory.{dest_after, loads, mem_wb_of, passed_on, requests, stores, value_after, writes_after}
use Rattle.latch.specs.Retire.{retire_cpuid, retire_reg, retired_mode, retired_pc, retired_regs}
use Rattle.word.specs.Words.{bit}
use Rattle.accuracy.proofs.Filled.{even_filled, fill_by, way_filled}
use Rattle.accuracy.proofs.Instructions.{Even, Plain, Stores, force_none, kind, load_plain, mode_stays, settle}
use Rattle.accuracy.proofs.Instructions.{slow_straight, store_plain, swap_kept, swap_new, turned}
use Rattle.accuracy.proofs.Registers.{cpu_z_same, fwd_mw, put_z_same, xm_regs, zero_cpu}
use Rattle.accuracy.specs.Count.{is_redirect, predict_at}
use Rattle.accuracy.specs.Names.{Effect, ExMem, IdEx, IfId, MemWb, Mode, Place}

unfoldable pub turn_at : Program → Arch → Option Place
turn_at prog w = mispredict (is_some (predict_at prog w)) (effect_at prog (instruction_at prog w) w).redirect
    (fall w.pc w.mode) w.mode

swerve_by : (g : Bool) (h : Option Place) (p : ℕ) (m : Mode) → is_some (mispredict g h p m) ≡ cond g (not (is_some h))
    (is_some h)
unfolding mispredict
swerve_by false h p m = refl
swerve_by true None p m = refl
swerve_by true (Some t) p m = refl

pub swerve_turn : (prog : Program) (w : Arch) → is_some (turn_at prog w) ≡ is_redirect prog w
unfolding turn_at is_redirect
swerve_turn prog w = swerve_by (is_some (predict_at prog w)) _ _ _

unfoldable pub due : Program → Arch → ℕ → ℕ
due prog w zero = 5 + waits (instruction_at prog (walk prog w zero))
due prog w (suc n) = due prog w n + 1 + waits (instruction_at prog (walk prog w (suc n)))
    + bit (is_used_load (instruction_at prog (walk prog w n)) (instruction_at prog (walk prog w (suc n)))) + 2 * bit
    (is_redirect prog (walk prog w n))

-- the latches of the instruction at w
unfoldable pub dx_at : Program → Arch → List ℕ → IdEx
dx_at prog w rs = id_ex_of (is_some (predict_at prog w)) (instruction_at prog w) w.pc w.mode rs

unfoldable pub eff_of : Program → Arch → Effect
eff_of prog w = effect_at prog (instruction_at prog w) w

-- the same with the special register that it asks for open
unfoldable pub open_of : Program → Arch → Effect
open_of prog w = open_at prog (instruction_at prog w) w

-- what every instruction's tests say, of the instruction at w
even_at : (prog : Program) (w : Arch) → Even (instruction_at prog w) w.pc w.mode (eff_of prog w)
unfolding eff_of effect_at open_at
even_at prog w = even_filled prog.user (instruction_at prog w) w.pc w.mode _ _ _

-- its way does not hang on what is said
pub way_at : (prog : Program) (w : Arch) → (eff_of prog w).redirect ≡ (open_of prog w).redirect
unfolding eff_of open_of effect_at open_at
way_at prog w = way_filled prog.user (instruction_at prog w) w.pc _ _ _

-- its effect, where what is said is what the program says
pub filled_at : (prog : Program) (w : Arch) (c : Option (Option ℕ))
    → ((n : ℕ) → (open_of prog w).inquiry ≡ Some n → c ≡ prog.table n)
    → fill c (open_of prog w) ≡ eff_of prog w
unfolding eff_of open_of effect_at
filled_at prog w c h = fill_by (open_of prog w).inquiry (open_of prog w) prog.table c refl h

unfoldable pub xm_at : Program → Arch → ExMem
xm_at prog w = ex_mem_of (dx_at prog w []) (eff_of prog w)

-- IF/ID holds what address p and mode m offer
pub record At (prog : Program) (l : IfId) (p : ℕ) (m : Mode) : Type 0 where
  pub valid : l.valid ≡ true
  pub pc : l.pc ≡ p
  pub mode : l.mode ≡ m
  pub instruction : decoded_of l.raw ≡ prog.instruction p m

unfoldable pub mw_at : Program → Arch → MemWb
mw_at prog w = mem_wb_of (xm_at prog w) (prog.take (xm_at prog w).mem_size (first w.answers))

pub latch_at : (prog : Program) (w : Arch) (rs : List ℕ) (e : Effect) → ex_mem_of (dx_at prog w rs) e ≡ ex_mem_of
    (dx_at prog w []) e
unfolding ex_mem_of dx_at id_ex_of id_ex_by
latch_at prog w rs e = refl

-- a load there is a load of the walk, and so for a store
kept : (t l z : Bool) → (l ≡ true → t ≡ false) → (l ≡ true → z ≡ false) → (cond t false l && not z) ≡ l
kept true true z h k = sym (h refl)
kept false true z h k = rw (k refl)
kept true false z h k = refl
kept false false z h k = refl

kept_1 : (t l : Bool) → (l ≡ true → t ≡ false) → cond t false l ≡ l
kept_1 true true h = sym (h refl)
kept_1 false true h = refl
kept_1 true false h = refl
kept_1 false false h = refl

pub load_facts : (prog : Program) (w : Arch) → (operands_of (instruction_at prog w)).is_load ≡ true → Plain
    (instruction_at prog w) w.pc w.mode (eff_of prog w)
load_facts prog w e = load_plain (instruction_at prog w) w.pc w.mode _ (even_at prog w) e

store_facts : (prog : Program) (w : Arch) → (operands_of (instruction_at prog w)).is_store ≡ true → Stores
    (instruction_at prog w) (eff_of prog w)
store_facts prog w e = store_plain (instruction_at prog w) w.pc w.mode _ (even_at prog w) e

pub ld_at : (prog : Program) (w : Arch) → loads (xm_at prog w) ≡ (operands_of (instruction_at prog w)).is_load
unfolding loads xm_at ex_mem_of dx_at id_ex_of id_ex_by instruction_at
ld_at prog w = kept (is_some (eff_of prog w).marks.exception) (operands_of (instruction_at prog w)).is_load
    (eqb (eff_of prog w).access.mem_size 0)
    (λ e. (load_facts prog w e).exception) (λ e. (load_facts prog w e).mem_size)

pub load_at : (prog : Program) (w : Arch) → (xm_at prog w).is_load ≡
    (operands_of (instruction_at prog w)).is_load
unfolding xm_at ex_mem_of dx_at id_ex_of id_ex_by instruction_at
load_at prog w = kept_1 (is_some (eff_of prog w).marks.exception)
    (operands_of (instruction_at prog w)).is_load
    (λ e. (load_facts prog w e).exception)

pub st_at : (prog : Program) (w : Arch) → stores (xm_at prog w) ≡ (operands_of (instruction_at prog w)).is_store
unfolding stores xm_at ex_mem_of dx_at id_ex_of id_ex_by instruction_at
st_at prog w = kept (is_some (eff_of prog w).marks.exception) (operands_of (instruction_at prog w)).is_store
    (eqb (eff_of prog w).access.mem_size 0)
    (λ e. (store_facts prog w e).exception) (λ e. (store_facts prog w e).mem_size)

mem_any : (l : ExMem) (u v : ℕ) → (loads l ≡ true → u ≡ v) → mem_wb_of l u ≡ mem_wb_of l v
unfolding mem_wb_of passed_on dest_after writes_after value_after
mem_any l u v h = split (loads l) (λ e. rw (h e)) (λ e. rw e)

pub mem_at : (prog : Program) (w : Arch) (v : ℕ) →
    (loads (xm_at prog w) ≡ true → prog.take (xm_at prog w).mem_size (first w.answers) ≡ v) → mem_wb_of
    (xm_at prog w) v ≡ mw_at prog w
unfolding mw_at
mem_at prog w v h = mem_any (xm_at prog w) v (prog.take (xm_at prog w).mem_size (first w.answers))
    (λ e. sym (h e))

put_none : (d : Option ℕ) (v : ℕ) (rs : List ℕ) → is_some d ≡ false → write_reg d v rs ≡ rs
unfolding write_reg put_reg
put_none None v rs e = refl
put_none (Some d) v rs e = cc

put_if : (d : Option ℕ) (v : ℕ) (rs : List ℕ) → cond (is_some d) (write_reg d v rs) rs ≡ write_reg d v rs
unfolding write_reg put_reg
put_if None v rs = refl
put_if (Some d) v rs = refl

drop_dest : (w : Bool) (d : Option ℕ) → (w && is_some d) ≡ false → is_some (cond w d None) ≡ false
drop_dest true d e = e
drop_dest false d e = refl

store_none : (prog : Program) (w : Arch) → (operands_of (instruction_at prog w)).is_store ≡ true → is_some
    (dest_of (eff_of prog w) (operands_of (instruction_at prog w)).dest) ≡ false
unfolding dest_of effect_at eff_of
store_none prog w e = drop_dest (eff_of prog w).alu.writes (operands_of (instruction_at prog w)).dest
    (store_facts prog w e).dest

-- what memory's latch writes, as a function of being a load or a store and of writing
form : Bool → Bool → Bool → Option ℕ → ℕ → ℕ → List ℕ → List ℕ
form ld st wb d x y rs = cond (cond ld true (cond st false wb)) (retire_reg (cond ld d (cond st None d))
    (cond ld x (cond st 0 y)) rs) rs

form_at : (prog : Program) (w : Arch) → retired_regs (mw_at prog w) prog.features w.reg
    ≡ form (loads (xm_at prog w)) (stores (xm_at prog w)) (xm_at prog w).writeback
    (dest_of (eff_of prog w) (operands_of (instruction_at prog w)).dest)
    (prog.take (eff_of prog w).access.mem_size (first w.answers)) (eff_of prog w).alu.value
    (retire_cpuid (eff_of prog w).marks.cpuid prog.features w.reg)
unfolding form retired_regs mw_at mem_wb_of passed_on dest_after writes_after value_after xm_at ex_mem_of dx_at
    id_ex_of id_ex_by instruction_at
form_at prog w = refl

and_dest : (w : Bool) (d : Option ℕ) → (w && is_some d) ≡ is_some (cond w d None)
and_dest true d = refl
and_dest false d = refl

wb_at : (prog : Program) (w : Arch) → (xm_at prog w).writeback ≡ is_some
    (dest_of (eff_of prog w) (operands_of (instruction_at prog w)).dest)
unfolding xm_at ex_mem_of dx_at id_ex_of id_ex_by instruction_at dest_of
wb_at prog w = force_none (instruction_at prog w) w.pc w.mode _ (even_at prog w)
    ∙ and_dest (eff_of prog w).alu.writes (operands_of (instruction_at prog w)).dest

commit_form : (load store : Bool) (d : Option ℕ) (x y : ℕ) (rs : List ℕ) → get_or rs 0 0 ≡ 0 →
    (store ≡ true → is_some d ≡ false)
    → form load store (is_some d) d x y rs ≡ write_reg d (cond load x y) rs
unfolding form
commit_form true store d x y rs z h = put_z_same d x rs z
commit_form false true d x y rs z h = sym (put_none d y rs (h refl))
commit_form false false d x y rs z h = ap (λ (l : List ℕ). cond (is_some d) l rs) (put_z_same d y rs z) ∙ put_if d y
    rs

pub commit_at : (prog : Program) (w : Arch) → get_or w.reg 0 0 ≡ 0 → retired_regs (mw_at prog w) prog.features
    w.reg ≡ (step prog w).reg
unfolding step step_by value_at eff_of
commit_at prog w z =
    let d = dest_of (eff_of prog w) (operands_of (instruction_at prog w)).dest in
    let rs = write_cpuid (eff_of prog w).marks.cpuid prog.features w.reg in
    let x = prog.take (eff_of prog w).access.mem_size (first w.answers) in
    let y = (eff_of prog w).alu.value in
    form_at prog w
    ∙ ap (λ (l : List ℕ). form (loads (xm_at prog w)) (stores (xm_at prog w)) (xm_at prog w).writeback d x y l)
    (cpu_z_same _ _ _ z)
    ∙ ap (λ (b : Bool). form (loads (xm_at prog w)) (stores (xm_at prog w)) b d x y rs) (wb_at prog w)
    ∙ ap (λ (b : Bool). form b (stores (xm_at prog w)) (is_some d) d x y rs) (ld_at prog w)
    ∙ ap (λ (b : Bool). form (operands_of (instruction_at prog w)).is_load b (is_some d) d x y rs) (st_at prog w)
    ∙ commit_form (operands_of (instruction_at prog w)).is_load (operands_of (instruction_at prog w)).is_store
    d
    x y rs (zero_cpu _ _ _ z) (store_none prog w)

-- EX/MEM's write, likewise
xm_form : (prog : Program) (w : Arch) → xm_regs (xm_at prog w) prog.features w.reg
    ≡ form false false (xm_at prog w).writeback
    (dest_of (eff_of prog w) (operands_of (instruction_at prog w)).dest)
    0 (eff_of prog w).alu.value (retire_cpuid (eff_of prog w).marks.cpuid prog.features w.reg)
unfolding form xm_regs xm_at ex_mem_of dx_at id_ex_of id_ex_by instruction_at
xm_form prog w = refl

pub xm_regs_at : (prog : Program) (w : Arch) → get_or w.reg 0 0 ≡ 0 →
    (operands_of (instruction_at prog w)).is_load ≡ false → xm_regs (xm_at prog w) prog.features w.reg ≡
    (step prog w).reg
unfolding step step_by value_at eff_of
xm_regs_at prog w z e =
    let d = dest_of (eff_of prog w) (operands_of (instruction_at prog w)).dest in
    let rs = write_cpuid (eff_of prog w).marks.cpuid prog.features w.reg in
    let y = (eff_of prog w).alu.value in
    xm_form prog w
    ∙ ap (λ (l : List ℕ). form false false (xm_at prog w).writeback d 0 y l) (cpu_z_same _ _ _ z)
    ∙ ap (λ (b : Bool). form false false b d 0 y rs) (wb_at prog w)
    ∙ commit_form false false d 0 y rs (zero_cpu _ _ _ z) (λ q. absurd (false≢true q))
    ∙ rw e

asked_xm : (prog : Program) (w : Arch) → w.requests ++ cond (xm_at prog w).valid
    (request_of (operands_of (instruction_at prog w)).is_load (operands_of (instruction_at prog w)).is_store
    (xm_at prog w).mem_addr (xm_at prog w).mem_size (xm_at prog w).store_value) []
    ≡ (step prog w).requests
unfolding xm_at ex_mem_of dx_at id_ex_of id_ex_by step step_by effect_at instruction_at eff_of
asked_xm prog w = refl

valid_left : (prog : Program) (w : Arch) → cond
    ((xm_at prog w).valid && (operands_of (instruction_at prog w)).is_load) (rest w.answers) w.answers ≡ cond
    (operands_of (instruction_at prog w)).is_load (rest w.answers) w.answers
unfolding xm_at ex_mem_of
valid_left prog w = refl

pub asked_at : (prog : Program) (w : Arch) → w.requests ++ requests (xm_at prog w) ≡ (step prog w).requests
unfolding requests step step_by
asked_at prog w = rw (ld_at prog w, st_at prog w) (asked_xm prog w)

pub left_at : (prog : Program) (w : Arch) → cond ((xm_at prog w).valid && loads (xm_at prog w)) (rest w.answers)
    w.answers ≡ (step prog w).answers
unfolding step step_by
left_at prog w = rw (ld_at prog w) (valid_left prog w)

pub load_turn : (prog : Program) (w : Arch) → (operands_of (instruction_at prog w)).is_load ≡ true → turn_at prog w
    ≡ None
unfolding turn_at predict_at eff_of
load_turn prog w e = (load_facts prog w e).straight _

pub slow_turn : (prog : Program) (w : Arch) → 0 < waits (instruction_at prog w) → turn_at prog w ≡ None
unfolding turn_at predict_at eff_of
slow_turn prog w e = slow_straight (instruction_at prog w) w.pc w.mode _ (even_at prog w) _ e

-- where it goes, if its guess holds and if not
pub next_guessed : (prog : Program) (w : Arch) → kind (instruction_at prog w) ≡ w.mode → turn_at prog w ≡ None
    → ((step prog w).pc ≡ target_or (predict_at prog w) (fall w.pc w.mode)) ×
    ((step prog w).mode ≡ mode_or (predict_at prog w) w.mode)
unfolding turn_at predict_at step step_by eff_of open_of open_at
next_guessed prog w k e = rw (way_at prog w)
    (settle prog.user (instruction_at prog w) w.pc w.mode _ _ (fall w.pc w.mode)
    k (rw (way_at prog w) at e))

pub next_turned : (prog : Program) (w : Arch) (q : Place) → turn_at prog w ≡ Some q
    → (q.pc ≡ (step prog w).pc) × (q.mode ≡ (step prog w).mode)
unfolding turn_at step step_by
next_turned prog w q e = turned _ _ _ _ q e

-- retirement leaves the fetch mode alone
pub mode_kept : (prog : Program) (w : Arch) → is_some (turn_at prog w) ≡ false → (k : Mode)
    → retired_mode (mw_at prog w) k ≡ k
unfolding turn_at predict_at retired_mode mw_at mem_wb_of passed_on dest_after writes_after value_after xm_at
    ex_mem_of dx_at id_ex_of id_ex_by instruction_at eff_of
mode_kept prog w e k = swap_kept (instruction_at prog w) w.pc w.mode _ (even_at prog w) _ e k

pub mode_new : (prog : Program) (w : Arch) → retired_mode (mw_at prog w) (step prog w).mode ≡ (step prog w).mode
unfolding retired_mode mw_at mem_wb_of passed_on dest_after writes_after value_after xm_at ex_mem_of dx_at id_ex_of
    id_ex_by effect_at instruction_at step step_by eff_of
mode_new prog w = swap_new (instruction_at prog w) w.pc w.mode _ (even_at prog w)

-- the place after retirement is the step's
to_or : (g : Option Place) (f : ℕ) → cond (is_some g) (target_or g 0) f ≡ target_or g f
unfolding target_or
to_or None f = refl
to_or (Some t) f = refl

pub pc_at : (prog : Program) (w : Arch) (q : ℕ) → retired_pc (mw_at prog w) q ≡ (step prog w).pc
unfolding retired_pc mw_at mem_wb_of passed_on dest_after writes_after value_after xm_at ex_mem_of dx_at id_ex_of
    id_ex_by effect_at instruction_at step step_by eff_of
pc_at prog w q = to_or (eff_of prog w).redirect (fall w.pc w.mode)

pub mode_at : (prog : Program) (w : Arch) → kind (instruction_at prog w) ≡ w.mode → retired_mode (mw_at prog w)
    w.mode ≡ (step prog w).mode
unfolding retired_mode mw_at mem_wb_of passed_on dest_after writes_after value_after xm_at ex_mem_of dx_at id_ex_of
    id_ex_by effect_at instruction_at step step_by eff_of
mode_at prog w k = mode_stays (instruction_at prog w) w.pc w.mode _ (even_at prog w) k

-- forwarding from MEM/WB over the file that it has been written to changes nothing
same_word : (p q : Bool) (x f r v : ℕ) → cond p x (cpuid_word q f r (cond p x (cpuid_word q f r v))) ≡ cond p x
    (cpuid_word q f r v)
unfolding cpuid_word
same_word true q x f r v = refl
same_word false true x f r v = split (eqb 1 r)
    (λ e. rw e)
    (λ e. split (eqb 2 r) (λ g. rw (e, g)) (λ g. rw (e, g)))
same_word false false x f r v = refl

twice : (l : MemWb) (f r v : ℕ) → from_mem_wb l f r (from_mem_wb l f r v) ≡ from_mem_wb l f r v
unfolding from_mem_wb
twice l f r v = same_word (l.valid && (l.writeback && is_dest l.dest r)) (l.valid && l.cpuid) l.value f r v

pub settled : (l : MemWb) (f : ℕ) (rs : List ℕ) (r : ℕ) → ok_dest l.dest ≡ true → length rs ≡ 32 → eqb r 0 ≡ false
    → from_mem_wb l f r (read_reg (retired_regs l f rs) r) ≡ read_reg (retired_regs l f rs) r
settled l f rs r h n z = ap (from_mem_wb l f r) (sym (fwd_mw l f rs r h n z)) ∙ twice l f r (read_reg rs r) ∙ fwd_mw l
    f rs r h n z
