-- Where the machine halts after N instructions, all done, the pipeline meets neither 12 nor a load without an answer
-- before them. Assumes nothing.
use Prim.Native.Nat.{◌<◌, suc, ℕ}
use borrow.Author.Tests.{ltb-false, ltb-true}
use lib.Dec.{ltb}
use mathlib.Core.Bool.{Bool, ◌&&◌, cond, false, false≢true, not, true}
use mathlib.Core.List.{List}
use mathlib.Core.Path.{◌∙◌, ◌≡◌, ap, refl, sym}
use native.Mathlib.Omega.{arith}
use Rattle.accuracy.proofs.Inv.{Live, Mw, Xm}
use Rattle.accuracy.proofs.Path.{eff_of, ld_at, mw_at, xm_at}
use Rattle.std.proofs.lemmas.Bool.{and_parts, not-false, or_parts}
use Rattle.isa.proofs.Bools.{and_r, split}
use Rattle.isa.proofs.Machine.{did_next, did_walk, walk}
use Rattle.isa.specs.Machine.{Arch, Program, effect_at, instruction_at, is_barred, is_empty, machine, stops_at}
use Rattle.isa.specs.Operands.{operands_of}
use Rattle.latch.specs.Execute.{ex_mem_of}
use Rattle.latch.specs.Latches.{empty_ex_mem, empty_mem_wb}
use Rattle.latch.specs.Memory.{loads, mem_wb_of, passed_on}
use Rattle.latch.specs.Retire.{halts, is_faulty}
use Rattle.pipeline.specs.Retire.{retire}
use Rattle.stages.specs.Advance.{awake}
use Rattle.stages.specs.Counting.{count_retired}
use Rattle.stages.specs.Loads.{loads_in, want_load}
use Rattle.stages.specs.Refusals.{faulty}
use Rattle.stages.specs.Retire.{retire_stages}
use Rattle.runs.specs.Names.{ExMem, MemWb, PipelineCpu, Request}

-- a load left after retirement is EX/MEM's, and no HALT has retired
want_by : (h : Bool) (l : ExMem) → ((cond h empty_ex_mem l).valid && loads (cond h empty_ex_mem l)) ≡ true
    → (h ≡ false) × ((l.valid && loads l) ≡ true)
unfolding empty_ex_mem
want_by true l e = (cc, cc)
want_by false l e = (refl, e)

-- the same of a state
want_is : (s : PipelineCpu) → want_load s.stages ≡ true
    → (halts s.stages.mem_wb ≡ false) × ((s.stages.ex_mem.valid && loads s.stages.ex_mem) ≡ true)
unfolding want_load loads_in retire retire_stages count_retired
want_is s e = want_by (halts s.stages.mem_wb) s.stages.ex_mem (and_parts (awake s.stages) _ e).1

module _ (prog : Program) (w : Arch) where
  -- the machine's path, with no stopping
  abbrev W : ℕ → Arch
  W k = walk prog w k

  -- MEM/WB with an instruction that is not barred
  mw_sound : (v : Arch) → is_barred (effect_at prog (instruction_at prog v) v) ≡ false → is_faulty (mw_at prog v) ≡ false
  unfolding mw_at mem_wb_of passed_on xm_at ex_mem_of eff_of is_faulty is_barred
  mw_sound v e = e

  -- MEM/WB halts with HALT only
  mw_halt : (v : Arch) → halts (mw_at prog v) ≡ (effect_at prog (instruction_at prog v) v).marks.halt
  unfolding halts mw_at mem_wb_of passed_on xm_at ex_mem_of eff_of
  mw_halt v = refl

  module _ (N : ℕ) (did : (machine prog w N).done ≡ N) (down : (machine prog w N).runs ≡ false) where
    -- the machine stops at none of the N undone
    fine : (k : ℕ) → k < N → stops_at prog (instruction_at prog (W k)) (W k) ≡ false
    fine k l = ap (λ (x : Arch). stops_at prog (instruction_at prog x) x)
        (sym (did_walk prog w N did k (omega arith))) ∙ (did_next prog w N did k l).fine

    -- none is barred
    fine_bar : (k : ℕ) → k < N → is_barred (effect_at prog (instruction_at prog (W k)) (W k)) ≡ false
    unfolding stops_at
    fine_bar k l = (or_parts _ _ (fine k l)).0

    -- a load among them has an answer
    fine_load : (k : ℕ) → k < N → (operands_of (instruction_at prog (W k))).is_load ≡ true
        → is_empty (W k).answers ≡ false
    unfolding stops_at
    fine_load k l e =
        and_r _ _ (or_parts (is_barred (effect_at prog (instruction_at prog (W k)) (W k))) _ (fine k l)).1 e

    -- MEM/WB holds nothing barred
    mw_fine : (l : MemWb) (t k n : ℕ) → Mw prog w t l k n → k < N → is_faulty l ≡ false
    unfolding is_faulty empty_mem_wb
    mw_fine l t k n (Mw.gap e) h = rw e
    mw_fine l t k n (Mw.full e d o g) h = rw e (mw_sound (W k) (fine_bar k h))

    -- so 12 does not arise
    pub not_faulty : (s : PipelineCpu) (t : ℕ) (asked : List Request) (l : List ℕ) (k n₁ n₂ : ℕ)
        → Live prog w s t asked l k n₁ n₂ → k < N → faulty s.stages ≡ false
    unfolding faulty
    not_faulty s t asked l k n₁ n₂ lv h =
        let e = mw_fine s.stages.mem_wb t k n₁ lv.mem_wb h in
        split (awake s.stages) (λ z. rw (z, e)) (λ z. rw z)

    -- the last of the N is HALT
    last_halt : (k : ℕ) → suc k ≡ N → (effect_at prog (instruction_at prog (W k)) (W k)).marks.halt ≡ true
    last_halt k e =
        let x = did_next prog w N did k (omega arith) in
        not-false _ (sym (ap (λ (v : Arch). not (effect_at prog (instruction_at prog v) v).marks.halt)
        (did_walk prog w N did k (omega arith))) ∙ sym x.on ∙ ap (λ (n : ℕ). (machine prog w n).runs) e ∙ down)

    -- so what stands behind MEM/WB, where that does not halt, is one of the N
    next_in : (l : MemWb) (t k n : ℕ) → Mw prog w t l k n → k < N → halts l ≡ false → n < N
    next_in l t k n (Mw.gap e) h z = h
    next_in l t k n (Mw.full e d o g) h z = split (ltb (suc k) N)
        (λ q. ltb-true (suc k) N q)
        (λ q. let y = ltb-false (suc k) N q in
        absurd (false≢true
        (sym z ∙ ap (λ (x : MemWb). halts x) e ∙ mw_halt (W k) ∙ last_halt k (omega arith))))

    -- a load in EX/MEM has an answer
    xm_fine : (l : ExMem) (t k n : ℕ) → Xm prog w t l k n → k < N → (l.valid && loads l) ≡ true
        → is_empty (W k).answers ≡ false
    unfolding empty_ex_mem
    xm_fine l t k n (Xm.gap e) h z = absurd (false≢true (rw e at z))
    xm_fine l t k n (Xm.full e d o) h z =
        fine_load k h (sym (ld_at prog (W k)) ∙ ap (λ (x : ExMem). loads x) (sym e) ∙ (and_parts l.valid _ z).1)

    -- so a load wanted has one
    pub has_answer : (s : PipelineCpu) (t : ℕ) (asked : List Request) (l : List ℕ) (k n₁ n₂ : ℕ)
        → Live prog w s t asked l k n₁ n₂ → k < N → want_load s.stages ≡ true → is_empty l ≡ false
    has_answer s t asked l k n₁ n₂ lv h e =
        let x = want_is s e in
        ap (λ (y : List ℕ). is_empty y) lv.answers
        ∙ xm_fine s.stages.ex_mem t n₁ n₂ lv.ex_mem
        (next_in s.stages.mem_wb t k n₁ lv.mem_wb h x.0) x.1
