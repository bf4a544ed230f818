-- Laws of the register file, and the forwarding law. Assumes nothing.
use Prim.Native.Nat.{◌<◌, suc, zero, ℕ}
use borrow.Author.Tests.{eqb-false, eqb-true, lt-ltb, ltb-false, ltb-true, ne_eqb}
use lib.Dec.{eqb, ltb}
use lib.ListN.{get_or, length, length-set, set}
use lib.Seq.{get_or-set_other, get_or-set_same, set-get_or}
use mathlib.Core.Bool.{Bool, ◌&&◌, and-false, cond, false, false≢true, true}
use mathlib.Core.List.{List}
use mathlib.Core.Path.{◌∙◌, ◌≡◌, ap, refl, sym}
use native.Mathlib.Omega.{arith}
use Rattle.std.specs.Prelude.{None, Option, Some}
use Rattle.isa.proofs.Bools.{split}
use Rattle.isa.specs.Operands.{ok_dest}
use Rattle.isa.specs.Registers.{is_dest, is_reg, put_reg, read_reg, write_cpuid, write_reg}
use Rattle.latch.specs.Forwarding.{cpuid_word, forward_from, from_ex_mem, from_mem_wb}
use Rattle.latch.specs.Retire.{retire_cpuid, retire_reg, retired_regs}
use Rattle.stages.specs.Forwarding.{forwarded}
use Rattle.accuracy.specs.Names.{ExMem, MemWb, PipelineCpu}

pos_of : (r : ℕ) → (r ≡ 0 → ⊥) → 0 < r
pos_of zero h = absurd (h refl)
pos_of (suc r) h = omega arith

-- a register that is not R0, below 32
pub is_reg_lem : (r : ℕ) → eqb r 0 ≡ false → ltb r 32 ≡ true → is_reg r ≡ true
unfolding is_reg
is_reg_lem r z h = rw (lt-ltb 0 r (pos_of r (eqb-false r 0 z)), h)

no_reg : (r : ℕ) → ltb r 32 ≡ false → is_reg r ≡ false
unfolding is_reg
no_reg r k = rw k (and-false (ltb 0 r))

-- what a register reads after a write
pub read_set : (rs : List ℕ) (i v r : ℕ) → length rs ≡ 32 → i < 32 → eqb r 0 ≡ false
    → read_reg (set rs i v) r ≡ cond (eqb i r) v (read_reg rs r)
unfolding read_reg
read_set rs i v r n h z = split (ltb r 32)
    (λ k. split (eqb i r)
    (λ e. rw (is_reg_lem r z k, e) (ap (λ (k : ℕ). get_or (set rs i v) k 0) (sym (eqb-true i r e)) ∙ get_or-set_same rs i v
    0 (omega arith)))
    (λ e. rw (is_reg_lem r z k, e) (get_or-set_other rs i r v 0 (λ q. eqb-false i r e (sym q)))))
    (λ k. let b = ltb-false r 32 k in rw (no_reg r k, ne_eqb i r (λ q. omega arith)))

-- R0 put back to 0 is not seen
pub read_zero : (rs : List ℕ) (r : ℕ) → length rs ≡ 32 → eqb r 0 ≡ false → read_reg (set rs 0 0) r ≡ read_reg rs r
read_zero rs r n z = read_set rs 0 0 r n (omega arith) z ∙ rw (ne_eqb 0 r (λ q. eqb-false r 0 z (sym q)))

zero_reg : (d : ℕ) → eqb d 0 ≡ true → is_reg d ≡ false
unfolding is_reg
zero_reg d e = rw (eqb-true d 0 e)

-- what a register reads after a write to d
pub read_put : (d : Option ℕ) (v : ℕ) (rs : List ℕ) (r : ℕ) → ok_dest d ≡ true → length rs ≡ 32 → eqb r 0 ≡ false
    → read_reg (write_reg d v rs) r ≡ cond (is_dest d r) v (read_reg rs r)
unfolding write_reg put_reg is_dest ok_dest
read_put None v rs r h n z = refl
read_put (Some d) v rs r h n z = split (eqb d 0)
    (λ e. rw (zero_reg d e, ne_eqb d r (λ q. eqb-false r 0 z (sym q ∙ eqb-true d 0 e))))
    (λ e. rw (is_reg_lem d e h) (read_set rs d v r n (ltb-true d 32 h) z))

pub length_put : (d : Option ℕ) (v : ℕ) (rs : List ℕ) → length (write_reg d v rs) ≡ length rs
unfolding write_reg put_reg
length_put None v rs = refl
length_put (Some d) v rs = split (is_reg d) (λ e. rw e (length-set rs d v)) (λ e. rw e)

pub length_cpu : (c : Bool) (f : ℕ) (rs : List ℕ) → length (write_cpuid c f rs) ≡ length rs
unfolding write_cpuid
length_cpu false f rs = refl
length_cpu true f rs = simp length-set

pub length_cpu_z : (c : Bool) (f : ℕ) (rs : List ℕ) → length (retire_cpuid c f rs) ≡ length rs
unfolding retire_cpuid
length_cpu_z false f rs = refl
length_cpu_z true f rs = simp length-set

pub read_put_z : (d : Option ℕ) (v : ℕ) (rs : List ℕ) (r : ℕ) → ok_dest d ≡ true → length rs ≡ 32 → eqb r 0 ≡ false
    → read_reg (retire_reg d v rs) r ≡ cond (is_dest d r) v (read_reg rs r)
unfolding retire_reg put_reg write_reg
read_put_z None v rs r h n z = read_put None v rs r h n z
read_put_z (Some d) v rs r h n z =
    read_zero (write_reg (Some d) v rs) r (length_put (Some d) v rs ∙ n) z ∙ read_put (Some d) v rs r h n z

pub read_cpu_z : (c : Bool) (f : ℕ) (rs : List ℕ) (r : ℕ) → length rs ≡ 32 → eqb r 0 ≡ false
    → read_reg (retire_cpuid c f rs) r ≡ cpuid_word c f r (read_reg rs r)
unfolding retire_cpuid cpuid_word
read_cpu_z false f rs r n z = refl
read_cpu_z true f rs r n z =
    read_zero (set (set rs 1 0x53524332) 2 f) r (simp length-set n) z
    ∙ read_set (set rs 1 0x53524332) 2 f r (length-set rs 1 0x53524332 ∙ n) (omega arith) z
    ∙ ap (λ (k : ℕ). cond (eqb 2 r) f k) (read_set rs 1 0x53524332 r n (omega arith) z)
    ∙ split (eqb 1 r)
    (λ e. rw (e, ne_eqb 2 r (λ q. let u = eqb-true 1 r e in omega arith)))
    (λ e. rw e)

-- where R0 is 0, the two ways to write agree, and R0 stays 0
zero_same : (rs : List ℕ) → get_or rs 0 0 ≡ 0 → set rs 0 0 ≡ rs
zero_same rs e = ap (λ (v : ℕ). set rs 0 v) (sym e) ∙ set-get_or rs 0 0

reg_zero : (d : ℕ) → is_reg d ≡ true → d ≡ 0 → ⊥
unfolding is_reg
reg_zero d e q = let z : ◌≡◌ {A = Bool} false true = sym (rw q) ∙ e in absurd (false≢true z)

pub zero_put : (d : Option ℕ) (v : ℕ) (rs : List ℕ) → get_or rs 0 0 ≡ 0 → get_or (write_reg d v rs) 0 0 ≡ 0
unfolding write_reg put_reg
zero_put None v rs e = e
zero_put (Some d) v rs e = split (is_reg d)
    (λ z. rw z (get_or-set_other rs d 0 v 0 (λ q. reg_zero d z (sym q)) ∙ e))
    (λ z. rw z e)

pub zero_cpu : (c : Bool) (f : ℕ) (rs : List ℕ) → get_or rs 0 0 ≡ 0 → get_or (write_cpuid c f rs) 0 0 ≡ 0
unfolding write_cpuid
zero_cpu false f rs e = e
zero_cpu true f rs e = get_or-set_other (set rs 1 0x53524332) 2 0 f 0 (λ q. omega arith) ∙ get_or-set_other rs 1 0
    0x53524332 0 (λ q. omega arith) ∙ e

pub put_z_same : (d : Option ℕ) (v : ℕ) (rs : List ℕ) → get_or rs 0 0 ≡ 0 → retire_reg d v rs ≡ write_reg d v rs
unfolding retire_reg put_reg write_reg
put_z_same None v rs e = refl
put_z_same (Some d) v rs e = zero_same (write_reg (Some d) v rs) (zero_put (Some d) v rs e)

pub cpu_z_same : (c : Bool) (f : ℕ) (rs : List ℕ) → get_or rs 0 0 ≡ 0 → retire_cpuid c f rs ≡ write_cpuid c f rs
unfolding retire_cpuid write_cpuid
cpu_z_same false f rs e = refl
cpu_z_same true f rs e = zero_same (write_cpuid true f rs) (zero_cpu true f rs e)

-- the forwarding law, latch by latch
mw_law : (valid wb c : Bool) (d : Option ℕ) (val f : ℕ) (rs : List ℕ) (r : ℕ) → ok_dest d ≡ true
    → length rs ≡ 32 → eqb r 0 ≡ false
    → cond (valid && (wb && is_dest d r)) val (cpuid_word (valid && c) f r (read_reg rs r))
    ≡ read_reg (cond valid (cond wb (retire_reg d val (retire_cpuid c f rs)) (retire_cpuid c f rs)) rs) r
unfolding cpuid_word
mw_law false wb c d val f rs r h n z = refl
mw_law true false c d val f rs r h n z = sym (read_cpu_z c f rs r n z)
mw_law true true c d val f rs r h n z =
    sym (read_put_z d val (retire_cpuid c f rs) r h (length_cpu_z c f rs ∙ n) z ∙ ap
    (λ (k : ℕ). cond (is_dest d r) val k)
    (read_cpu_z c f rs r n z))

pub fwd_mw : (l : MemWb) (f : ℕ) (rs : List ℕ) (r : ℕ) → ok_dest l.dest ≡ true → length rs ≡ 32 → eqb r 0 ≡ false
    → from_mem_wb l f r (read_reg rs r) ≡ read_reg (retired_regs l f rs) r
unfolding from_mem_wb retired_regs
fwd_mw l f rs r h n z = mw_law l.valid l.writeback l.cpuid l.dest l.value f rs r h n z

-- EX/MEM's writes
unfoldable pub xm_regs : ExMem → ℕ → List ℕ → List ℕ
xm_regs l f rs = cond l.valid
    (cond l.writeback (retire_reg l.dest l.alu_result (retire_cpuid l.cpuid f rs))
    (retire_cpuid l.cpuid f rs)) rs

pub fwd_xm : (l : ExMem) (f : ℕ) (rs : List ℕ) (r : ℕ) → ok_dest l.dest ≡ true → length rs ≡ 32 → eqb r 0 ≡ false
    → l.is_load ≡ false → from_ex_mem l f r (read_reg rs r) ≡ read_reg (xm_regs l f rs) r
unfolding from_ex_mem xm_regs
fwd_xm l f rs r h n z e = rw e (mw_law l.valid l.writeback l.cpuid l.dest l.alu_result f rs r h n
    z)

xm_load : (valid wb c : Bool) (d : Option ℕ) (val f : ℕ) (v r : ℕ) → c ≡ false
    → cond (valid && (wb && (false && is_dest d r))) val (cpuid_word (valid && c) f r v) ≡ v
unfolding cpuid_word
xm_load false wb c d val f v r e = refl
xm_load true false true d val f v r e = cc
xm_load true false false d val f v r e = refl
xm_load true true true d val f v r e = cc
xm_load true true false d val f v r e = refl

pub fwd_load : (l : ExMem) (f v r : ℕ) → l.is_load ≡ true → l.cpuid ≡ false → from_ex_mem l f r v ≡ v
unfolding from_ex_mem
fwd_load l f v r e c = rw e (xm_load l.valid l.writeback l.cpuid l.dest l.alu_result f v r c)

-- the forwarding law of a whole state: a register's value after MEM/WB's and then EX/MEM's writes
length_put_z : (d : Option ℕ) (v : ℕ) (rs : List ℕ) → length (retire_reg d v rs) ≡ length rs
unfolding retire_reg put_reg write_reg
length_put_z None v rs = refl
length_put_z (Some d) v rs = length-set (write_reg (Some d) v rs) 0 0 ∙ length_put (Some d) v rs

length_by : (v w c : Bool) (d : Option ℕ) (x f : ℕ) (rs : List ℕ) → length
    (cond v (cond w (retire_reg d x (retire_cpuid c f rs)) (retire_cpuid c f rs)) rs) ≡ length rs
length_by false w c d x f rs = refl
length_by true false c d x f rs = length_cpu_z c f rs
length_by true true c d x f rs = length_put_z d x (retire_cpuid c f rs) ∙ length_cpu_z c f rs

length_wb : (l : MemWb) (f : ℕ) (rs : List ℕ) → length (retired_regs l f rs) ≡ length rs
unfolding retired_regs
length_wb l f rs = length_by l.valid l.writeback l.cpuid l.dest l.value f rs

pub zero_read : (rs : List ℕ) (r : ℕ) → eqb r 0 ≡ true → 0 ≡ read_reg rs r
unfolding read_reg
zero_read rs r z = rw (zero_reg r z)

pub fwd_law : (s : PipelineCpu) (r : ℕ) → ok_dest s.stages.mem_wb.dest ≡ true
    → ok_dest s.stages.ex_mem.dest ≡ true →
    length s.reg ≡ 32 → s.stages.ex_mem.is_load ≡ false
    → forwarded s.stages s.reg r ≡ read_reg
    (xm_regs s.stages.ex_mem s.stages.features (retired_regs s.stages.mem_wb s.stages.features
    s.reg))
    r
unfolding forwarded forward_from
fwd_law s r h k n e = split (eqb r 0)
    (λ z. rw z (zero_read _ r z))
    (λ z. rw (z, fwd_mw s.stages.mem_wb s.stages.features s.reg r h n z)
    (fwd_xm s.stages.ex_mem s.stages.features
    (retired_regs s.stages.mem_wb s.stages.features s.reg) r k
    (length_wb s.stages.mem_wb s.stages.features s.reg ∙ n) z e))
