-- The invariant, and its preservation by a tick.
use Prim.Native.Nat.{◌*◌, ◌+◌, ◌<◌, ◌≤◌, suc, zero, ℕ}
use borrow.Author.Tests.{eqb-false, eqb-true, ltb-false, ltb-true, ne_eqb}
use lib.Dec.{eqb, ltb}
use lib.ListN.{get_or, length}
use mathlib.Core.Bool.{Bool, ◌&&◌, ◌||◌, cond, false, false≢true, not, true}
use mathlib.Core.List.{List, ◌++◌, append-nil}
use mathlib.Core.Path.{◌∙◌, ◌≡◌, ap, refl, subst, sym}
use native.Mathlib.Omega.{arith}
use Rattle.std.specs.Prelude.{None, Option, Some, is_some, unwrap_or}
use Rattle.std.proofs.lemmas.Bool.{and_parts}
use Rattle.isa.proofs.Bools.{split}
use Rattle.isa.proofs.Machine.{step, walk}
use Rattle.isa.specs.Effect.{effect_of, fall}
use Rattle.isa.specs.Inquiries.{fill}
use Rattle.isa.specs.Machine.{Arch, Machine, Program, dest_of, effect_at, first, instruction_at, is_barred, is_empty}
use Rattle.isa.specs.Machine.{machine, machine_by, machine_step, open_at, rest, step_by, stops_at, value_at}
use Rattle.isa.specs.Operands.{ok_dest, operands_of}
use Rattle.isa.specs.Redirects.{mode_or, target_or}
use Rattle.isa.specs.Registers.{is_dest, is_reg, read_reg, write_cpuid}
use Rattle.isa.specs.Short.{decoded_of}
use Rattle.isa.specs.Waits.{is_used, is_used_load, waits}
use Rattle.latch.specs.Decode.{decode_predicted, id_ex_by, id_ex_of, load_use}
use Rattle.latch.specs.Execute.{effect_from, effect_in, ex_mem_of, mispredict, operand_b, raised_or}
use Rattle.latch.specs.Forwarding.{cpuid_word, forward_from, from_ex_mem, from_mem_wb}
use Rattle.latch.specs.Latches.{cleared, empty_ex_mem, empty_id_ex, empty_mem_wb}
use Rattle.latch.specs.Memory.{dest_after, loads, mem_wb_of, passed_on, requests, stores, value_after, writes_after}
use Rattle.latch.specs.Retire.{halts, is_faulty, retired_mode, retired_pc, retired_regs}
use Rattle.pipeline.specs.Advance.{advance, move_of}
use Rattle.pipeline.specs.Retire.{retire}
use Rattle.stages.specs.Advance.{advance_by, advance_stages, id_ex_after, if_id_after, place_after, wait_after}
use Rattle.stages.specs.Counting.{count_retired, counted, flushes, stalls}
use Rattle.stages.specs.Execute.{effect_for, executed, executed_by, inquiry_by, inquiry_of, redirect_by, redirect_of}
use Rattle.stages.specs.Fetch.{fetch_from, fetch_place, fetched, fetches, next_id_ex, place_or, predicted}
use Rattle.stages.specs.Forwarding.{forwarded}
use Rattle.stages.specs.Move.{begins_wait, free_move, hazard, is_slow, is_wait, move, move_from, next_ex_mem}
use Rattle.stages.specs.Move.{proceed_or, waits_on}
use Rattle.stages.specs.Retire.{retire_stages}
use Rattle.word.specs.Words.{bit}
use Rattle.accuracy.proofs.Instructions.{dest_in, few, go_cases, kind, load_quick, ok_dest_lem, ok_kind, ok_in}
use Rattle.accuracy.proofs.Instructions.{slow_load}
use Rattle.accuracy.proofs.Path.{At, asked_at, commit_at, due, dx_at, eff_of, filled_at, latch_at, ld_at, left_at}
use Rattle.accuracy.proofs.Path.{load_at, load_facts, load_turn, mem_at, mode_at, mode_kept, mode_new, mw_at}
use Rattle.accuracy.proofs.Path.{next_guessed, next_turned, open_of, pc_at, settled, slow_turn, swerve_turn, turn_at}
use Rattle.accuracy.proofs.Path.{way_at, xm_regs_at, xm_at}
use Rattle.accuracy.proofs.Registers.{fwd_load, fwd_xm, length_cpu, length_put, read_put, zero_cpu, zero_put}
use Rattle.accuracy.proofs.Registers.{zero_read}
use Rattle.accuracy.specs.Count.{predict_at}
use Rattle.accuracy.specs.Names.{Decoded, Effect, ExMem, IdEx, IfId, MemWb, Mode, Move, PipelineCpu, Place, RawInstr}
use Rattle.accuracy.specs.Names.{Request, Taken, begin_wait, keep_waiting, load_use_stall, proceed, redirect}

-- the move by its five values: armed, more than one tick left, a used load, a multiply or divide in ID/EX, the redirect
unfoldable choose : Bool → Bool → Bool → Bool → Option Place → Move
choose a l z w g = cond (a && l) keep_waiting (cond (not a && (not z && w)) begin_wait (move_from z g))

unfoldable pub ok_at : Program → Arch → Bool
ok_at prog w = ok_in (instruction_at prog w) w.mode

-- a place, or where a redirect leads, by its two parts
parts_or : (g : Option Place) (p : ℕ) (m : Mode)
    → unwrap_or g (record { pc = p; mode = m }) ≡ record { pc = target_or g p; mode = mode_or g m }
unfolding target_or mode_or
parts_or None p m = refl
parts_or (Some t) p m = refl

module _ (prog : Program) (w₀ : Arch) where
  -- MEM/WB: empty, or instruction k, due next
  pub data Mw (t : ℕ) (l : MemWb) (k : ℕ) : ℕ → Type 0 where
    gap : l ≡ empty_mem_wb → Mw t l k k
    full : l ≡ mw_at prog (walk prog w₀ k) → due prog w₀ k ≡ t + 1 → ok_at prog (walk prog w₀ k) ≡ true
        → ((operands_of (instruction_at prog (walk prog w₀ k))).is_load ≡ true → is_empty
        (walk prog w₀ k).answers
        ≡ false) → Mw t l k (suc k)

  pub data Xm (t : ℕ) (l : ExMem) (k : ℕ) : ℕ → Type 0 where
    gap : l ≡ empty_ex_mem → Xm t l k k
    full : l ≡ xm_at prog (walk prog w₀ k) → due prog w₀ k ≡ t + 2 → ok_at prog (walk prog w₀ k) ≡ true → Xm t l k
        (suc k)

  -- the front end, with n the next instruction that EX/MEM has not seen
  pub data Front (fpc : ℕ) (fmode : Mode) (fd : IfId) (dx : IdEx) (armed : Bool) (cycles t n : ℕ) : Type 0 where
    f0 : dx ≡ empty_id_ex → fd.valid ≡ false → armed ≡ false
        → fpc ≡ (walk prog w₀ n).pc → fmode ≡ (walk prog w₀ n).mode
        → due prog w₀ n ≡ t + 5 + waits (instruction_at prog (walk prog w₀ n))
        → Front fpc fmode fd dx armed cycles t n
    f1 : dx ≡ empty_id_ex → At prog fd (walk prog w₀ n).pc (walk prog w₀ n).mode → armed ≡ false
        → fpc ≡ fall (walk prog w₀ n).pc (walk prog w₀ n).mode → fmode ≡ (walk prog w₀ n).mode
        → due prog w₀ n ≡ t + 4 + waits (instruction_at prog (walk prog w₀ n)) → ok_at prog (walk prog w₀ n) ≡ true
        → Front fpc fmode fd dx armed cycles t n
    f2 : (rs : List ℕ) → dx ≡ dx_at prog (walk prog w₀ n) rs
        → At prog fd (target_or (predict_at prog (walk prog w₀ n))
        (fall (walk prog w₀ n).pc (walk prog w₀ n).mode))
        (mode_or (predict_at prog (walk prog w₀ n)) (walk prog w₀ n).mode)
        → fpc ≡ fall fd.pc fd.mode → fmode ≡ fd.mode
        → (armed ≡ false → due prog w₀ n ≡ t + 3 + waits (instruction_at prog (walk prog w₀ n)))
        → (armed ≡ true → (suc (due prog w₀ n) ≡ t + 3 + cycles) × (1 ≤ cycles) ×
        (cycles ≤ waits (instruction_at prog (walk prog w₀ n))))
        → ok_at prog (walk prog w₀ n) ≡ true → ok_in (decoded_of fd.raw) fd.mode ≡ true
        → Front fpc fmode fd dx armed cycles t n

  abbrev pub FrontOf : PipelineCpu → ℕ → ℕ → Type 0
  FrontOf s t n = Front s.stages.fetch_at.pc s.stages.fetch_at.mode s.stages.if_id
      s.stages.id_ex s.stages.ex_armed
      s.stages.ex_cycles_left t n

  -- the retire place is the machine's
  abbrev pub PlaceIs : PipelineCpu → Arch → Type 0
  PlaceIs s w = (s.stages.retire_at.pc ≡ w.pc) × (s.stages.retire_at.mode ≡ w.mode)

  pub record Live (s : PipelineCpu) (t : ℕ) (asked : List Request) (left : List ℕ) (k n₁ n₂ : ℕ) : Type 0 where
    pub running : s.stages.running ≡ true
    pub features : s.stages.features ≡ prog.features
    pub user : s.stages.user ≡ prog.user
    pub count : s.counts.instructions_executed ≡ k
    pub reg : s.reg ≡ (walk prog w₀ k).reg
    pub place : PlaceIs s (walk prog w₀ k)
    pub mem_wb : Mw t s.stages.mem_wb k n₁
    pub ex_mem : Xm t s.stages.ex_mem n₁ n₂
    pub front : FrontOf s t n₂
    pub asks : asked ≡ (walk prog w₀ n₁).requests
    pub answers : left ≡ (walk prog w₀ n₁).answers
    pub runs : machine prog w₀ k ≡ record { arch = walk prog w₀ k; runs = true; done = k }

  -- after retirement
  pub record Mid (s : PipelineCpu) (t : ℕ) (asked : List Request) (left : List ℕ) (n₁ n₂ : ℕ) : Type 0 where
    pub running : s.stages.running ≡ true
    pub features : s.stages.features ≡ prog.features
    pub user : s.stages.user ≡ prog.user
    pub count : s.counts.instructions_executed ≡ n₁
    pub reg : s.reg ≡ (walk prog w₀ n₁).reg
    pub place : PlaceIs s (walk prog w₀ n₁)
    pub still : (r : ℕ) → eqb r 0 ≡ false → from_mem_wb s.stages.mem_wb prog.features r (read_reg s.reg r) ≡
        read_reg s.reg r
    pub ex_mem : Xm t s.stages.ex_mem n₁ n₂
    pub front : FrontOf s t n₂
    pub asks : asked ≡ (walk prog w₀ n₁).requests
    pub answers : left ≡ (walk prog w₀ n₁).answers
    pub runs : machine prog w₀ n₁ ≡ record { arch = walk prog w₀ n₁; runs = true; done = n₁ }

  -- with a redirect at k nothing is close behind it
  due_suc : (n : ℕ) → due prog w₀ (suc n) ≡ due prog w₀ n + 1 + waits (instruction_at prog (walk prog w₀ (suc n)))
      + bit (is_used_load (instruction_at prog (walk prog w₀ n)) (instruction_at prog (walk prog w₀ (suc n)))) + 2 * bit
      (is_some (turn_at prog (walk prog w₀ n)))
  unfolding due
  due_suc n = rw (swerve_turn prog (walk prog w₀ n))

  due_far : (t k : ℕ) → due prog w₀ k ≡ t + 1 → is_some (turn_at prog (walk prog w₀ k)) ≡ true
      → t + 4 + waits (instruction_at prog (walk prog w₀ (suc k))) ≤ due prog w₀ (suc k)
  unfolding bit
  due_far t k d z = rw (due_suc k, d, z) (omega arith)

  mode_is : (s : PipelineCpu) (k : ℕ) → s.stages.mem_wb ≡ mw_at prog (walk prog w₀ k) → s.stages.fetch_at.mode ≡
      (walk prog w₀ (suc k)).mode → retired_mode s.stages.mem_wb
      s.stages.fetch_at.mode ≡ s.stages.fetch_at.mode
  unfolding walk
  mode_is s k e q = rw (e, q) (mode_new prog (walk prog w₀ k))

  turned_mode : (s : PipelineCpu) (t k : ℕ) → s.stages.mem_wb ≡ mw_at prog (walk prog w₀ k) → due prog w₀ k ≡ t + 1
      → t + 4 + waits (instruction_at prog (walk prog w₀ (suc k))) ≤ due prog w₀ (suc k) → FrontOf s t (suc k) →
      retired_mode s.stages.mem_wb s.stages.fetch_at.mode ≡ s.stages.fetch_at.mode
  turned_mode s t k e d h (f0 a b c p q u) = mode_is s k e q
  turned_mode s t k e d h (f1 a b c p q u o) = mode_is s k e q
  turned_mode s t k e d h (f2 rs a b p q u v o o2) = split s.stages.ex_armed
      (λ z. let y = v z in absurd (omega arith))
      (λ z. let y = u z in absurd (omega arith))

  -- the mode that fetch is in is not disturbed by retirement
  mode_same : (s : PipelineCpu) (t k n₁ n₂ : ℕ) → Mw t s.stages.mem_wb k n₁ → Xm t
      s.stages.ex_mem n₁ n₂ → FrontOf s t
      n₂
      → retired_mode s.stages.mem_wb s.stages.fetch_at.mode ≡ s.stages.fetch_at.mode
  unfolding retired_mode empty_mem_wb
  mode_same s t k n₁ n₂ (gap e) x fr = rw e
  mode_same s t k n₁ n₂ (full e d o g) (full e2 d2 o2) fr = split (is_some (turn_at prog (walk prog w₀ k)))
      (λ z. let h = due_far t k d z in absurd (omega arith))
      (λ z. rw e (mode_kept prog (walk prog w₀ k) z s.stages.fetch_at.mode))
  mode_same s t k n₁ n₂ (full e d o g) (gap e2) fr = split (is_some (turn_at prog (walk prog w₀ k)))
      (λ z. turned_mode s t k e d (due_far t k d z) fr)
      (λ z. rw e (mode_kept prog (walk prog w₀ k) z s.stages.fetch_at.mode))

  module _ (len : length w₀.reg ≡ 32) (nought : get_or w₀.reg 0 0 ≡ 0) where
    walk_length : (n : ℕ) → length (walk prog w₀ n).reg ≡ 32
    unfolding walk step step_by
    walk_length zero = len
    walk_length (suc n) = length_put _ _ _ ∙ length_cpu _ prog.features _ ∙ walk_length n

    walk_zero : (n : ℕ) → get_or (walk prog w₀ n).reg 0 0 ≡ 0
    unfolding walk step step_by
    walk_zero zero = nought
    walk_zero (suc n) = zero_put _ _ _ (zero_cpu _ _ _ (walk_zero n))

    dest_ok : (w : Arch) → ok_at prog w ≡ true → ok_dest (operands_of (instruction_at prog w)).dest ≡ true
    unfolding ok_at instruction_at
    dest_ok w o = ok_dest_lem (instruction_at prog w) w.mode o

    kind_ok : (w : Arch) → ok_at prog w ≡ true → kind (instruction_at prog w) ≡ w.mode
    unfolding ok_at instruction_at
    kind_ok w o = ok_kind (instruction_at prog w) w.mode o

    ok_cond : (a b : Bool) (d : Option ℕ) → ok_dest d ≡ true → ok_dest (cond a d (cond b None d)) ≡ true
    unfolding ok_dest
    ok_cond true b d e = e
    ok_cond false true d e = refl
    ok_cond false false d e = e

    mw_ok : (w : Arch) → ok_at prog w ≡ true → ok_dest (mw_at prog w).dest ≡ true
    unfolding mw_at mem_wb_of passed_on dest_after writes_after value_after xm_at ex_mem_of dx_at id_ex_of id_ex_by
        instruction_at
    mw_ok w o = ok_cond (loads (xm_at prog w)) (stores (xm_at prog w)) _ (dest_in (eff_of prog w) _ (dest_ok w o))

    -- retirement
    still_mw : (l : MemWb) (t k n₁ : ℕ) → Mw t l k n₁ → (r : ℕ) → eqb r 0 ≡ false
        → from_mem_wb l prog.features r (read_reg (retired_regs l prog.features (walk prog w₀ k).reg) r) ≡
        read_reg (retired_regs l prog.features (walk prog w₀ k).reg) r
    unfolding from_mem_wb cpuid_word empty_mem_wb retired_regs
    still_mw l t k n₁ (gap e) r z = rw e
    still_mw l t k n₁ (full e d o g) r z = settled l prog.features (walk prog w₀ k).reg r
        (rw e (mw_ok (walk prog w₀ k) o)) (walk_length k) z

    pub regs_mw : (l : MemWb) (t k n₁ : ℕ) → Mw t l k n₁ → retired_regs l prog.features (walk prog w₀ k).reg ≡
        (walk prog w₀ n₁).reg
    unfolding retired_regs empty_mem_wb walk
    regs_mw l t k n₁ (gap e) = rw e
    regs_mw l t k n₁ (full e d o g) = rw e (commit_at prog (walk prog w₀ k) (walk_zero k))

    pub place_mw : (l : MemWb) (t k n₁ : ℕ) → Mw t l k n₁
        → (retired_pc l (walk prog w₀ k).pc ≡ (walk prog w₀ n₁).pc) ×
        (retired_mode l (walk prog w₀ k).mode ≡ (walk prog w₀ n₁).mode)
    unfolding retired_pc retired_mode empty_mem_wb walk
    place_mw l t k n₁ (gap e) = (rw e, rw e)
    place_mw l t k n₁ (full e d o g) = (
      rw e (pc_at prog (walk prog w₀ k) _),
      rw e
          (mode_at prog (walk prog w₀ k) (kind_ok (walk prog w₀ k) o)),
    )

    pub count_mw : (l : MemWb) (t k n₁ : ℕ) → Mw t l k n₁ → k + bit l.valid ≡ n₁
    unfolding bit empty_mem_wb mw_at mem_wb_of passed_on dest_after writes_after value_after xm_at ex_mem_of
    count_mw l t k n₁ (gap e) = rw e (omega arith)
    count_mw l t k n₁ (full e d o g) = rw e (omega arith)

    isa_by : (w : Arch) (i : Decoded) (m : Machine) (k : ℕ) → m ≡ record { arch = w; runs = true; done = k } →
        instruction_at prog w ≡ i
        → is_barred (effect_at prog i w) ≡ false → ((operands_of i).is_load ≡ true → is_empty w.answers ≡ false)
        → machine_by prog (instruction_at prog m.arch) m ≡ record
        { arch = step_by prog i w; runs = not (effect_at prog i w).marks.halt; done = suc k }
    unfolding machine_by stops_at
    isa_by w i m k e q h g = ap (λ (x : Machine). machine_by prog (instruction_at prog x.arch) x) e ∙ rw q
        (split (operands_of i).is_load
        (λ z. rw (h, z, g z)) (λ z. rw (h, z)))

    pub isa_mw : (l : MemWb) (t k n₁ : ℕ) → Mw t l k n₁ → is_faulty l ≡ false → machine prog w₀ k ≡ record
        { arch = walk prog w₀ k; runs = true; done = k }
        → machine prog w₀ n₁ ≡ record { arch = walk prog w₀ n₁; runs = not (halts l); done = n₁ }
    unfolding halts empty_mem_wb walk machine machine_step step mw_at mem_wb_of passed_on dest_after writes_after
        value_after xm_at ex_mem_of dx_at id_ex_of id_ex_by effect_at instruction_at is_barred is_faulty eff_of
    isa_mw l t k n₁ (gap e) h u = rw e u
    isa_mw l t k n₁ (full e d o g) h u = isa_by (walk prog w₀ k) (instruction_at prog (walk prog w₀ k))
        (machine prog w₀ k) k u refl (rw e at h) g
        ∙ rw e refl

    pub retire_live : (s : PipelineCpu) (t : ℕ) (asked : List Request) (left : List ℕ) (k n₁ n₂ : ℕ) → Live s t
        asked left k n₁ n₂
        → is_faulty s.stages.mem_wb ≡ false → halts s.stages.mem_wb ≡ false → Mid
        (retire s) t asked left n₁ n₂
    unfolding retire retire_stages count_retired
    retire_live s t asked left k n₁ n₂ i nf h = record {
      running = rw h i.running;
      features = i.features;
      user = i.user;
      count = rw i.count (count_mw s.stages.mem_wb t k n₁ i.mem_wb);
      reg = rw (i.features, i.reg) (regs_mw s.stages.mem_wb t k n₁ i.mem_wb);
      place = (
        rw i.place.0 (place_mw s.stages.mem_wb t k n₁ i.mem_wb).0,
        rw i.place.1 (place_mw s.stages.mem_wb t k n₁ i.mem_wb).1,
      );
      still = λ r z. rw (i.features, i.reg) (still_mw s.stages.mem_wb t k n₁ i.mem_wb r z);
      ex_mem = rw h i.ex_mem;
      front = rw (h, mode_same s t k n₁ n₂ i.mem_wb i.ex_mem i.front) i.front;
      asks = i.asks;
      answers = i.answers;
      runs = isa_mw s.stages.mem_wb t k n₁ i.mem_wb nf i.runs ∙ rw h;
    }

    zero_zero : (rs qs : List ℕ) → read_reg rs 0 ≡ read_reg qs 0
    unfolding read_reg is_reg
    zero_zero rs qs = refl

    -- the forwarding law: what is forwarded to the instruction n₂ is the walk's register
    use_by : (p q r : Bool) → (not p && (q || r)) ≡ false → p ≡ false → (q ≡ false) × (r ≡ false)
    use_by true q r e z = (cc, cc)
    use_by false true r e z = (cc, cc)
    use_by false false r e z = (refl, e)

    use_a : (d : Option ℕ) (a b : ℕ) → is_used d a b ≡ false → eqb a 0 ≡ false → is_dest d a ≡ false
    unfolding is_used is_dest
    use_a None a b e z = refl
    use_a (Some d) a b e z = split (eqb d 0)
        (λ q. ne_eqb d a (λ u. eqb-false a 0 z (sym u ∙ eqb-true d 0 q)))
        (λ q. (use_by (eqb d 0) (eqb d a) (eqb d b) e q).0)

    use_b : (d : Option ℕ) (a b : ℕ) → is_used d a b ≡ false → eqb b 0 ≡ false → is_dest d b ≡ false
    unfolding is_used is_dest
    use_b None a b e z = refl
    use_b (Some d) a b e z = split (eqb d 0)
        (λ q. ne_eqb d b (λ u. eqb-false b 0 z (sym u ∙ eqb-true d 0 q)))
        (λ q. (use_by (eqb d 0) (eqb d a) (eqb d b) e q).1)

    xm_ok : (w : Arch) → ok_at prog w ≡ true → ok_dest (xm_at prog w).dest ≡ true
    unfolding xm_at ex_mem_of dx_at id_ex_of id_ex_by instruction_at
    xm_ok w o = dest_in (eff_of prog w) _ (dest_ok w o)

    hits_end : (e : Effect) (d : Option ℕ) (r : ℕ) → is_dest d r ≡ false → is_dest (dest_of e d) r ≡ false
    unfolding dest_of is_dest
    hits_end e d r h = split e.alu.writes (λ z. rw z h) (λ z. rw z)

    xm_cpu : (w : Arch) → (xm_at prog w).cpuid ≡ (eff_of prog w).marks.cpuid
    unfolding xm_at ex_mem_of dx_at id_ex_of id_ex_by instruction_at
    xm_cpu w = refl

    load_cpu : (w : Arch) → (operands_of (instruction_at prog w)).is_load ≡ true → (eff_of prog w).marks.cpuid ≡ false
    unfolding eff_of effect_at
    load_cpu w e = (load_facts prog w e).cpuid

    fwd_held : (w : Arch) (r : ℕ) → ok_at prog w ≡ true → length w.reg ≡ 32 → eqb r 0 ≡ false →
        (operands_of (instruction_at prog w)).is_load ≡ true → is_dest (operands_of (instruction_at prog w)).dest r
        ≡ false
        → from_ex_mem (xm_at prog w) prog.features r (read_reg w.reg r) ≡ read_reg (step prog w).reg r
    unfolding step step_by eff_of write_cpuid
    fwd_held w r o n z e h =
        let c = load_cpu w e in
        fwd_load (xm_at prog w) prog.features (read_reg w.reg r) r (load_at prog w ∙ e) (xm_cpu w ∙ c)
        ∙ sym (read_put (dest_of (eff_of prog w) (operands_of (instruction_at prog w)).dest)
        (value_at prog (instruction_at prog w) w) _ r (dest_in (eff_of prog w) _ (dest_ok w o))
        (length_cpu (eff_of prog w).marks.cpuid prog.features w.reg ∙ n) z ∙ rw
        (hits_end (eff_of prog w) (operands_of (instruction_at prog w)).dest r h, c))

    fwd_full : (w : Arch) (r : ℕ) → get_or w.reg 0 0 ≡ 0 → ok_at prog w ≡ true → length w.reg ≡ 32 → eqb r 0 ≡
        false → ((operands_of (instruction_at prog w)).is_load ≡ true → is_dest
        (operands_of (instruction_at prog w)).dest r ≡ false)
        → from_ex_mem (xm_at prog w) prog.features r (read_reg w.reg r) ≡ read_reg (step prog w).reg r
    unfolding xm_at ex_mem_of dx_at id_ex_of id_ex_by instruction_at
    fwd_full w r g o n z h = split (operands_of (instruction_at prog w)).is_load
        (λ e. fwd_held w r o n z e (h e))
        (λ e. fwd_xm (xm_at prog w) prog.features w.reg r (xm_ok w o) n z (load_at prog w ∙ e) ∙ ap
        (λ (rs : List ℕ). read_reg rs r) (xm_regs_at prog w g e))

    -- no load in EX/MEM writes r
    abbrev NoLoad : ℕ → ℕ → ℕ → Type 0
    NoLoad n₁ n₂ r = n₂ ≡ suc n₁ → (operands_of (instruction_at prog (walk prog w₀ n₁))).is_load ≡ true → eqb
        r 0 ≡ false → is_dest (operands_of (instruction_at prog (walk prog w₀ n₁))).dest r ≡ false

    fwd_xm_slot : (l : ExMem) (t n₁ n₂ r : ℕ) → Xm t l n₁ n₂ → eqb r 0 ≡ false → NoLoad n₁ n₂ r
        → from_ex_mem l prog.features r (read_reg (walk prog w₀ n₁).reg r) ≡ read_reg (walk prog w₀ n₂).reg r
    unfolding from_ex_mem cpuid_word empty_ex_mem walk
    fwd_xm_slot l t n₁ n₂ r (gap e) z h = rw e
    fwd_xm_slot l t n₁ n₂ r (full e d o) z h = rw e (fwd_full (walk prog w₀ n₁) r (walk_zero n₁) o (walk_length n₁)
        z (λ q. h refl q z))

    pub fwd_mid : (s : PipelineCpu) (t : ℕ) (asked : List Request) (left : List ℕ) (n₁ n₂ : ℕ) → Mid s t asked left
        n₁ n₂ → (r : ℕ) → NoLoad n₁ n₂ r
        → forwarded s.stages s.reg r ≡ read_reg (walk prog w₀ n₂).reg r
    unfolding forwarded forward_from
    fwd_mid s t asked left n₁ n₂ i r h = split (eqb r 0)
        (λ z. rw z (zero_read _ r z))
        (λ z. rw (z, i.features, i.still r z, i.reg) (fwd_xm_slot s.stages.ex_mem t n₁ n₂ r i.ex_mem z h))

    -- EX/MEM holds no load that the instruction about to execute reads
    abbrev W : ℕ → Arch
    W n = walk prog w₀ n

    abbrev I : ℕ → Decoded
    I n = instruction_at prog (walk prog w₀ n)

    used_none : (t n : ℕ) → due prog w₀ n ≡ t + 2 → due prog w₀ (suc n) ≡ t + 3 → is_used_load (I n) (I (suc n)) ≡
        false
    unfolding bit
    used_none t n d e = split (is_used_load (I n) (I (suc n)))
        (λ z. let q = due_suc n in let q2 = rw z at q in absurd (omega arith))
        (λ z. z)

    load_uses : (i j : Decoded) → is_used_load i j ≡ false → (operands_of i).is_load ≡ true → is_used
        (operands_of i).dest (operands_of j).src_a (operands_of j).src_b ≡ false
    unfolding is_used_load
    load_uses i j e z = rw z at e

    clear_a : (l : ExMem) (t n₁ n₂ : ℕ) → Xm t l n₁ n₂ → due prog w₀ n₂ ≡ t + 3 → NoLoad n₁ n₂
        (operands_of (I n₂)).src_a
    clear_a l t n₁ n₂ (gap e) d = λ q. absurd (omega arith)
    clear_a l t n₁ n₂ (full e u o) d = λ q e z. use_a _ _ _ (load_uses (I n₁) (I (suc n₁)) (used_none t n₁ u d) e) z

    clear_b : (l : ExMem) (t n₁ n₂ : ℕ) → Xm t l n₁ n₂ → due prog w₀ n₂ ≡ t + 3 → NoLoad n₁ n₂
        (operands_of (I n₂)).src_b
    clear_b l t n₁ n₂ (gap e) d = λ q. absurd (omega arith)
    clear_b l t n₁ n₂ (full e u o) d = λ q e z. use_b _ _ _ (load_uses (I n₁) (I (suc n₁)) (used_none t n₁ u d) e) z

    -- the back end: EX/MEM moves on
    xm_valid : (w : Arch) → ((xm_at prog w).valid && loads (xm_at prog w)) ≡ loads (xm_at prog w)
    unfolding xm_at ex_mem_of
    xm_valid w = refl

    load_is : (w : Arch) → (operands_of (instruction_at prog w)).is_load ≡ true →
        ((xm_at prog w).valid && loads (xm_at prog w)) ≡ true
    load_is w z = xm_valid w ∙ ld_at prog w ∙ z

    mem_slot : (t n₁ n₂ : ℕ) (left : List ℕ) (l : ExMem) (v : ℕ) → left ≡ (W n₁).answers →
        ((l.valid && loads l) ≡ true → (is_empty left ≡ false) × (prog.take l.mem_size (first left) ≡ v))
        → Xm t l n₁ n₂ → Mw (suc t) (mem_wb_of l v) n₁ n₂
    unfolding mem_wb_of passed_on dest_after writes_after value_after empty_ex_mem xm_at ex_mem_of
    mem_slot t n₁ n₂ left l v a h (gap e) = gap (rw e)
    mem_slot t n₁ n₂ left l v a h (full e d o) = full
        (rw e (mem_at prog (W n₁) v (λ z. (λ j. prog.take (sym e j).mem_size (first (sym a j))) ∙
        (h (rw e z)).1))) (omega arith) o
        (λ z. sym (ap (λ (x : List ℕ). is_empty x) a) ∙ (h (rw e (load_is (W n₁) z))).0)

    asks_slot : (t n₁ n₂ : ℕ) (asked : List Request) (l : ExMem) → asked ≡ (W n₁).requests → Xm t l n₁ n₂ → asked
        ++ requests l ≡ (W n₂).requests
    unfolding requests empty_ex_mem walk
    asks_slot t n₁ n₂ asked l a (gap e) = rw (e, a) (append-nil _)
    asks_slot t n₁ n₂ asked l a (full e d o) = rw (e, a) (asked_at prog (W n₁))

    left_slot : (t n₁ n₂ : ℕ) (left : List ℕ) (l : ExMem) → left ≡ (W n₁).answers → Xm t l n₁ n₂ → cond
        (l.valid && loads l) (rest left) left ≡ (W n₂).answers
    unfolding empty_ex_mem walk
    left_slot t n₁ n₂ left l a (gap e) = rw (e, a)
    left_slot t n₁ n₂ left l a (full e d o) = rw (e, a) (left_at prog (W n₁))

    turn_used : (n : ℕ) (q : Place) (j : Decoded) → turn_at prog (W n) ≡ Some q → is_used_load (I n) j ≡ false
    unfolding is_used_load
    turn_used n p j e = split (operands_of (I n)).is_load
        (λ z. let q = load_turn prog (W n) z in cc)
        (λ z. rw z)

    module _ (s : PipelineCpu) (t : ℕ) (asked : List Request) (left : List ℕ) (n₁ n₂ : ℕ)
        (mid : Mid s t asked left n₁ n₂) where
      -- the instruction in ID/EX, executed
      abbrev op_b : List ℕ → ℕ
      op_b rs =
          operand_b s.stages.ex_mem s.stages.mem_wb s.stages.features s.reg (dx_at prog (W n₂) rs)

      op_b_at : (rs : List ℕ) → due prog w₀ n₂ ≡ t + 3 → op_b rs ≡ read_reg (W n₂).reg (operands_of (I n₂)).src_b
      unfolding operand_b forwarded dx_at id_ex_of id_ex_by instruction_at
      op_b_at rs d = split (ltb 1 (operands_of (I n₂)).n_srcs)
          (λ z. rw z (fwd_mid s t asked left n₁ n₂ mid _ (clear_b s.stages.ex_mem t n₁ n₂ mid.ex_mem d)))
          (λ z. rw (z, few (I n₂) z) (zero_zero rs (W n₂).reg))

      -- what ID/EX does is what the path's instruction does
      effect_at_lem : (rs : List ℕ) → due prog w₀ n₂ ≡ t + 3 → effect_for s.stages s.reg (dx_at prog
          (W n₂) rs) ≡ open_of prog (W n₂)
      unfolding effect_for effect_from forwarded dx_at id_ex_of id_ex_by instruction_at effect_in raised_or open_of
          open_at
      effect_at_lem rs d =
          ap (λ (u : Bool). effect_of u (I n₂) (W n₂).pc (forwarded s.stages s.reg (operands_of
          (I n₂)).src_a)
          (op_b rs)) mid.user
          ∙ ap (λ (x : ℕ). effect_of prog.user (I n₂) (W n₂).pc x (op_b rs))
          (fwd_mid s t asked left n₁ n₂ mid _ (clear_a s.stages.ex_mem t n₁ n₂ mid.ex_mem d))
          ∙ ap (λ (y : ℕ). effect_of prog.user (I n₂) (W n₂).pc
          (read_reg (W n₂).reg (operands_of (I n₂)).src_a) y) (op_b_at rs d)

      -- what ID/EX asks for is what the path's instruction asks for
      inquire : IdEx → Option ℕ
      inquire l = cond l.valid (effect_for s.stages s.reg l).inquiry None

      inquire_at : (rs : List ℕ) → due prog w₀ n₂ ≡ t + 3
          → inquire (dx_at prog (W n₂) rs) ≡ (open_of prog (W n₂)).inquiry
      unfolding inquire dx_at id_ex_of id_ex_by
      inquire_at rs d = ap (λ (e : Effect). e.inquiry) (effect_at_lem rs d)

      asks_at : (rs : List ℕ) → s.stages.id_ex ≡ dx_at prog (W n₂) rs → due prog w₀ n₂ ≡ t + 3
          → inquiry_of s.stages s.reg ≡ (open_of prog (W n₂)).inquiry
      unfolding inquiry_of inquiry_by inquire
      asks_at rs e d = ap (λ (l : IdEx). inquire l) e ∙ inquire_at rs d

      -- c is what the program says of the special register that ID/EX asks for
      abbrev Says : Option (Option ℕ) → Type 0
      Says c = (n : ℕ) → inquiry_of s.stages s.reg ≡ Some n → c ≡ prog.table n

      -- ID/EX, executed
      run : Option (Option ℕ) → IdEx → ExMem
      run c l = cond l.valid (ex_mem_of l (fill c (effect_for s.stages s.reg l))) empty_ex_mem

      run_at : (c : Option (Option ℕ)) (rs : List ℕ) → due prog w₀ n₂ ≡ t + 3
          → ((n : ℕ) → (open_of prog (W n₂)).inquiry ≡ Some n → c ≡ prog.table n)
          → run c (dx_at prog (W n₂) rs) ≡ xm_at prog (W n₂)
      unfolding run dx_at id_ex_of id_ex_by xm_at
      run_at c rs d h = ap (λ (e : Effect). ex_mem_of (dx_at prog (W n₂) rs) e)
          (ap (fill c) (effect_at_lem rs d) ∙ filled_at prog (W n₂) c h) ∙ latch_at prog (W n₂) rs (eff_of prog (W n₂))

      execute_at : (c : Option (Option ℕ)) (rs : List ℕ) → Says c → s.stages.id_ex ≡ dx_at prog (W n₂) rs
          → due prog w₀ n₂ ≡ t + 3 → executed s.stages s.reg c ≡ xm_at prog (W n₂)
      unfolding executed executed_by run
      execute_at c rs h e d = ap (λ (l : IdEx). run c l) e ∙ run_at c rs d (λ n q. h n (asks_at rs e d ∙ q))

      -- the redirect of ID/EX
      bend : IdEx → Option Place
      bend l = cond l.valid (mispredict l.predicted_taken (effect_for s.stages s.reg l).redirect
          (fall l.pc l.mode) l.mode) None

      bend_at : (rs : List ℕ) → due prog w₀ n₂ ≡ t + 3 → bend (dx_at prog (W n₂) rs) ≡ turn_at prog (W n₂)
      unfolding bend dx_at id_ex_of id_ex_by instruction_at turn_at predict_at eff_of
      bend_at rs d = ap (λ (g : Option Place). mispredict (is_some (predict_at prog (W n₂))) g
          (fall (W n₂).pc (W n₂).mode) (W n₂).mode)
          (ap (λ (e : Effect). e.redirect) (effect_at_lem rs d) ∙ sym (way_at prog (W n₂)))

      turn_at_lem : (rs : List ℕ) → s.stages.id_ex ≡ dx_at prog (W n₂) rs → due prog w₀ n₂ ≡ t + 3 → redirect_of
          s.stages s.reg ≡ turn_at
          prog (W n₂)
      unfolding redirect_of redirect_by bend
      turn_at_lem rs e d = ap (λ (l : IdEx). bend l) e ∙ bend_at rs d

      execute_none : (c : Option (Option ℕ)) → s.stages.id_ex ≡ empty_id_ex → executed s.stages s.reg c ≡ empty_ex_mem
      unfolding executed executed_by run empty_id_ex
      execute_none c e = ap (λ (l : IdEx). run c l) e

      redirect_none : s.stages.id_ex ≡ empty_id_ex → redirect_of s.stages s.reg ≡ None
      unfolding redirect_of redirect_by bend empty_id_ex
      redirect_none e = ap (λ (l : IdEx). bend l) e

      assemble : (s' : PipelineCpu) (v n₃ : ℕ) → ((s.stages.ex_mem.valid && loads s.stages.ex_mem) ≡ true →
          (is_empty left ≡ false) × (prog.take s.stages.ex_mem.mem_size (first left) ≡ v))
          → s'.stages.running ≡ s.stages.running → s'.stages.features ≡ s.stages.features
          → s'.stages.user ≡ s.stages.user → s'.counts.instructions_executed
          ≡
          s.counts.instructions_executed → s'.reg ≡ s.reg
          → s'.stages.retire_at.pc ≡ s.stages.retire_at.pc → s'.stages.retire_at.mode ≡
          s.stages.retire_at.mode → s'.stages.mem_wb ≡ mem_wb_of s.stages.ex_mem v
          → Xm (suc t) s'.stages.ex_mem n₂ n₃ → FrontOf s' (suc t) n₃
          → Live s' (suc t) (asked ++ requests s.stages.ex_mem) (cond (s.stages.ex_mem.valid && loads
          s.stages.ex_mem)
          (rest left) left) n₁ n₂ n₃
      assemble s' v n₃ h r1 r2 ru r3 r4 r6 r7 r5 x fr = record {
        running = r1 ∙ mid.running;
        features = r2 ∙ mid.features;
        user = ru ∙ mid.user;
        count = r3 ∙ mid.count;
        reg = r4 ∙ mid.reg;
        place = (r6 ∙ mid.place.0, r7 ∙ mid.place.1);
        mem_wb = rw r5 (mem_slot t n₁ n₂ left s.stages.ex_mem v mid.answers h mid.ex_mem);
        ex_mem = x;
        front = fr;
        asks = asks_slot t n₁ n₂ asked s.stages.ex_mem mid.asks mid.ex_mem;
        answers = left_slot t n₁ n₂ left s.stages.ex_mem mid.answers mid.ex_mem;
        runs = mid.runs;
      }

      -- the moves
      hazard_none : s.stages.id_ex ≡ empty_id_ex → hazard s.stages ≡ false
      unfolding hazard load_use empty_id_ex
      hazard_none e = split s.stages.if_id.valid
          (λ z. rw z (ap
          (λ (l : IdEx). l.valid &&
          (l.is_load && is_used l.dest (operands_of (decoded_of s.stages.if_id.raw)).src_a
          (operands_of (decoded_of s.stages.if_id.raw)).src_b)) e))
          (λ z. rw z)

      chosen : move_of s ≡ choose s.stages.ex_armed (ltb 1 s.stages.ex_cycles_left) (hazard s.stages)
          (s.stages.id_ex.valid && ltb 0 (waits s.stages.id_ex.decoded)) (redirect_of s.stages
          s.reg)
      unfolding move free_move waits_on begins_wait is_slow choose
      chosen = refl

      move_is : (a l z w : Bool) (g : Option Place) → s.stages.ex_armed ≡ a → ltb 1
          s.stages.ex_cycles_left ≡ l → hazard s.stages ≡ z
          → (s.stages.id_ex.valid && ltb 0 (waits s.stages.id_ex.decoded)) ≡ w → redirect_of
          s.stages s.reg ≡ g → move_of s
          ≡ choose a l z w g
      move_is a l z w g p1 p2 p3 p4 p5 = cc chosen

      move_empty : s.stages.id_ex ≡ empty_id_ex → s.stages.ex_armed ≡ false → move_of s ≡ proceed
      unfolding choose move_from proceed_or empty_id_ex
      move_empty e a = move_is false (ltb 1 s.stages.ex_cycles_left) false false None a refl (hazard_none e)
          (ap (λ (l : IdEx). l.valid && ltb 0 (waits l.decoded)) e) (redirect_none e)

      slow_is : (rs : List ℕ) → s.stages.id_ex ≡ dx_at prog (W n₂) rs →
          (s.stages.id_ex.valid && ltb 0 (waits s.stages.id_ex.decoded)) ≡ ltb 0 (waits (I n₂))
      unfolding dx_at id_ex_of id_ex_by instruction_at
      slow_is rs e = ap (λ (l : IdEx). l.valid && ltb 0 (waits l.decoded)) e

      -- fetching behind a guess: what stood in IF/ID is decoded
      place_is : (g : Option Place) (p : ℕ) (m : Mode) → predicted s.stages.if_id ≡ g
          → s.stages.fetch_at.pc ≡ p → s.stages.fetch_at.mode ≡ m →
          fetch_place proceed s.stages ≡ record { pc = target_or g p; mode = mode_or g m }
      unfolding fetch_place fetch_from place_or
      place_is g p m e1 e2 e3 = (λ j. unwrap_or (e1 j) (record { pc = e2 j; mode = e3 j })) ∙ parts_or g p m

      fetched_is : (p : ℕ) (m : Mode) (i : RawInstr) → fetch_place proceed s.stages ≡ record { pc = p; mode = m }
          → decoded_of i ≡
          prog.instruction (fetch_place proceed s.stages).pc (fetch_place proceed s.stages).mode
          → At prog (fetched s.stages.running s.stages.if_id (fetch_place proceed s.stages) i) p m
      unfolding fetched
      fetched_is p m i e h = record {
        valid = ap (λ (b : Bool). (fetched b s.stages.if_id (fetch_place proceed s.stages) i).valid)
            mid.running;
        pc = ap (λ (b : Bool). (fetched b s.stages.if_id (fetch_place proceed s.stages) i).pc)
            mid.running ∙ ap
            (λ (q : Place). q.pc) e;
        mode = ap (λ (b : Bool). (fetched b s.stages.if_id (fetch_place proceed s.stages) i).mode)
            mid.running ∙ ap
            (λ (q : Place). q.mode) e;
        instruction = ap (λ (b : Bool). decoded_of (fetched b s.stages.if_id (fetch_place proceed
            s.stages) i).raw)
            mid.running ∙ h ∙ ap (λ (q : Place). prog.instruction q.pc q.mode) e;
      }

      abbrev OnPath : ℕ → Type 0
      OnPath m = At prog s.stages.if_id (W m).pc (W m).mode

      aim_at : (m : ℕ) → OnPath m → predicted s.stages.if_id ≡ predict_at prog (W m)
      unfolding predicted predict_at instruction_at
      aim_at m e = rw (e.valid, e.instruction, e.pc, e.mode)

      next_dx : (m : ℕ) → OnPath m → next_id_ex s.stages s.reg ≡ dx_at prog (W m) s.reg
      unfolding next_id_ex decode_predicted dx_at predict_at instruction_at
      next_dx m e = rw (e.valid, e.instruction, e.pc, e.mode)

      fpc_is : (p : ℕ) (m : Mode) → fetch_place proceed s.stages ≡ record { pc = p; mode = m } → cond
          s.stages.running
          (fall (fetch_place proceed s.stages).pc (fetch_place proceed s.stages).mode)
          (fetch_place proceed s.stages).pc ≡ fall p m
      fpc_is p m e = ap (λ (b : Bool). cond b (fall (fetch_place proceed s.stages).pc (fetch_place proceed
          s.stages).mode)
          (fetch_place proceed s.stages).pc) mid.running ∙ ap (λ (q : Place). fall q.pc q.mode) e

      fetched_ok : (i : RawInstr) → ok_in (decoded_of i) (fetch_place proceed s.stages).mode ≡ true → ok_in
          (decoded_of (fetched s.stages.running s.stages.if_id (fetch_place proceed s.stages) i).raw)
          (fetched s.stages.running s.stages.if_id (fetch_place proceed s.stages) i).mode ≡ true
      unfolding fetched
      fetched_ok i o = ap (λ (b : Bool). ok_in (decoded_of (fetched b s.stages.if_id (fetch_place proceed
          s.stages) i).raw)
          (fetched b s.stages.if_id (fetch_place proceed s.stages) i).mode) mid.running ∙ o

      front_flow : (m : ℕ) (inp : Taken) → OnPath m → s.stages.fetch_at.pc ≡ fall (W m).pc (W m).mode →
          s.stages.fetch_at.mode ≡ (W m).mode
          → decoded_of inp.raw ≡ prog.instruction (fetch_place proceed s.stages).pc (fetch_place proceed
          s.stages).mode →
          due prog w₀ m ≡ suc t + 3 + waits (I m) → ok_at prog (W m) ≡ true → ok_in (decoded_of inp.raw)
          (fetch_place proceed s.stages).mode ≡ true
          → FrontOf (advance proceed s inp) (suc t) m
      unfolding advance advance_by advance_stages id_ex_after if_id_after is_wait wait_after place_after counted
          stalls flushes place_or fetch_from next_ex_mem
      front_flow m inp e p q h d o oi =
          let pl = place_is (predict_at prog (W m)) (fall (W m).pc (W m).mode) (W m).mode (aim_at m e) p q
          in
          let fe = fetched_is _ _ inp.raw pl h in
          f2 s.reg (next_dx m e) fe
          (fpc_is _ _ pl ∙ (λ j. fall (sym fe.pc j) (sym fe.mode j)))
          (ap (λ (x : Place). x.mode) pl ∙ sym fe.mode)
          (λ z. d) (λ z. absurd (false≢true z)) o (fetched_ok inp.raw oi)

      aim_none : s.stages.if_id.valid ≡ false → predicted s.stages.if_id ≡ None
      unfolding predicted
      aim_none e = rw e

      front_fetch : (m : ℕ) (inp : Taken) → s.stages.id_ex ≡ empty_id_ex → s.stages.if_id.valid ≡ false
          → s.stages.fetch_at.pc ≡
          (W m).pc → s.stages.fetch_at.mode ≡ (W m).mode
          → decoded_of inp.raw ≡ prog.instruction (fetch_place proceed s.stages).pc (fetch_place proceed
          s.stages).mode →
          due prog w₀ m ≡ suc t + 4 + waits (I m) → ok_in (decoded_of inp.raw)
          (fetch_place proceed s.stages).mode ≡ true
          → FrontOf (advance proceed s inp) (suc t) m
      unfolding advance advance_by advance_stages id_ex_after if_id_after is_wait wait_after place_after counted
          stalls flushes place_or fetch_from next_ex_mem instruction_at target_or mode_or next_id_ex ok_at
      front_fetch m inp x e p q h d oi =
          let pl = place_is None (W m).pc (W m).mode (aim_none e) p q in
          let fe = fetched_is _ _ inp.raw pl h in
          f1 (rw e) fe refl (fpc_is _ _ pl) (ap (λ (x : Place). x.mode) pl) d
          ((λ j. ok_in (sym fe.instruction j) (sym fe.mode j)) ∙ fetched_ok inp.raw oi)

      -- the way the tick of an instruction in ID/EX ends
      abbrev pub Ahead : Move → Taken → Type 0
      Ahead m inp = (n₃ : ℕ) × Live (advance m s inp) (suc t) (asked ++ requests s.stages.ex_mem)
          (cond (s.stages.ex_mem.valid && loads s.stages.ex_mem) (rest left) left) n₁ n₂ n₃

      module _ (inp : Taken) (hv : (s.stages.ex_mem.valid && loads s.stages.ex_mem) ≡ true →
          (is_empty left ≡ false) ×
          (prog.take s.stages.ex_mem.mem_size (first left) ≡ inp.answer))
          (hi : (m : Move) → move_of s ≡ m → fetches m ≡ true → (decoded_of inp.raw ≡ prog.instruction
          (fetch_place m s.stages).pc (fetch_place m s.stages).mode) ×
          (ok_in (decoded_of inp.raw) (fetch_place m s.stages).mode ≡ true))
          (hc : is_wait (move_of s) ≡ false → Says inp.special) where
        by_move : (m : Move) → move_of s ≡ m → Ahead m inp → Ahead (move_of s) inp
        by_move m e h = subst (λ (k : Move). Ahead k inp) (sym e) h

        -- ID/EX empty
        go_f0 : s.stages.id_ex ≡ empty_id_ex → s.stages.if_id.valid ≡ false
            → s.stages.ex_armed ≡ false → s.stages.fetch_at.pc ≡
            (W n₂).pc → s.stages.fetch_at.mode ≡ (W n₂).mode
            → due prog w₀ n₂ ≡ t + 5 + waits (I n₂) → Ahead (move_of s) inp
        unfolding advance advance_by advance_stages id_ex_after if_id_after is_wait wait_after place_after counted
            stalls flushes place_or fetch_from next_ex_mem fetches
        go_f0 x e a p q d =
            let mv = move_empty x a in
            by_move proceed mv (
              n₂,
              assemble (advance proceed s inp) inp.answer n₂ hv refl refl refl refl refl refl
                  refl refl
                  (gap (execute_none inp.special x))
                  (front_fetch n₂ inp x e p q (hi proceed mv refl).0 (omega arith) (hi proceed mv refl).1),
            )

        go_f1 : s.stages.id_ex ≡ empty_id_ex → OnPath n₂ → s.stages.ex_armed ≡ false
            → s.stages.fetch_at.pc ≡ fall (W n₂).pc
            (W n₂).mode → s.stages.fetch_at.mode ≡ (W n₂).mode
            → due prog w₀ n₂ ≡ t + 4 + waits (I n₂) → ok_at prog (W n₂) ≡ true → Ahead (move_of s) inp
        unfolding advance advance_by advance_stages id_ex_after if_id_after is_wait wait_after place_after counted
            stalls flushes place_or fetch_from next_ex_mem fetches
        go_f1 x e a p q d o =
            let mv = move_empty x a in
            by_move proceed mv (
              n₂,
              assemble (advance proceed s inp) inp.answer n₂ hv refl refl refl refl refl refl
                  refl refl
                  (gap (execute_none inp.special x))
                  (front_flow n₂ inp e p q (hi proceed mv refl).0 (omega arith) o (hi proceed mv refl).1),
            )

        -- ID/EX full: instruction n₂, guessed behind
        module _ (rs : List ℕ) (dxe : s.stages.id_ex ≡ dx_at prog (W n₂) rs)
            (fde : At prog s.stages.if_id (target_or (predict_at prog (W n₂)) (fall (W n₂).pc (W n₂).mode))
            (mode_or (predict_at prog (W n₂)) (W n₂).mode))
            (fpce : s.stages.fetch_at.pc ≡ fall s.stages.if_id.pc s.stages.if_id.mode)
            (fme : s.stages.fetch_at.mode ≡ s.stages.if_id.mode)
            (okn : ok_at prog (W n₂) ≡ true) (okf : ok_in (decoded_of s.stages.if_id.raw)
            s.stages.if_id.mode ≡ true)
          where
            -- where the guess holds, IF/ID is on the path
            fd_next : turn_at prog (W n₂) ≡ None → OnPath (suc n₂)
            unfolding walk
            fd_next e = let g = next_guessed prog (W n₂) (kind_ok (W n₂) okn) e in record {
              valid = fde.valid;
              pc = fde.pc ∙ sym g.0;
              mode = fde.mode ∙ sym g.1;
              instruction =
                  fde.instruction ∙ (λ j. prog.instruction (sym g.0 j) (sym g.1 j));
            }

            fpc_next : turn_at prog (W n₂) ≡ None → s.stages.fetch_at.pc ≡ fall (W (suc n₂)).pc (W
                (suc n₂)).mode
            fpc_next e = let h = fd_next e in fpce ∙ (λ j. fall (h.pc j) (h.mode j))

            fmode_next : turn_at prog (W n₂) ≡ None → s.stages.fetch_at.mode ≡ (W (suc n₂)).mode
            fmode_next e = fme ∙ (fd_next e).mode

            ok_next : turn_at prog (W n₂) ≡ None → ok_at prog (W (suc n₂)) ≡ true
            unfolding ok_at instruction_at
            ok_next e = let h = fd_next e in (λ j. ok_in (sym h.instruction j) (sym h.mode j)) ∙ okf

            hazard_load : hazard s.stages ≡ true → (operands_of (I n₂)).is_load ≡ true
            unfolding hazard load_use dx_at id_ex_of id_ex_by instruction_at
            hazard_load e = sym (ap (λ (l : IdEx). l.is_load) dxe) ∙ (and_parts s.stages.id_ex.is_load _
                (and_parts s.stages.id_ex.valid _ (and_parts s.stages.if_id.valid _ e).1).1).0

            hazard_next : turn_at prog (W n₂) ≡ None → hazard s.stages ≡ is_used_load (I n₂) (I (suc n₂))
            unfolding hazard load_use dx_at id_ex_of id_ex_by instruction_at is_used_load
            hazard_next e = let h = fd_next e in
                (λ j. h.valid j && (s.stages.id_ex.valid && (s.stages.id_ex.is_load && is_used
                s.stages.id_ex.dest
                (operands_of (h.instruction j)).src_a (operands_of (h.instruction j)).src_b)))
                ∙ ap (λ (l : IdEx). l.valid &&
                (l.is_load && is_used l.dest (operands_of (I (suc n₂))).src_a
                (operands_of (I (suc n₂))).src_b)) dxe

            -- the next one's due time
            due_next : (b : Bool) → turn_at prog (W n₂) ≡ None → is_used_load (I n₂) (I (suc n₂)) ≡ b
                → due prog w₀ (suc n₂) ≡ due prog w₀ n₂ + 1 + waits (I (suc n₂)) + bit b
            unfolding bit
            due_next b e h = due_suc n₂ ∙ rw (e, h) (omega arith)

            -- ID/EX executes in a move m that is no wait
            executes : (m : Move) → move_of s ≡ m → is_wait m ≡ false → due prog w₀ n₂ ≡ t + 3
                → executed s.stages s.reg inp.special ≡ xm_at prog (W n₂)
            executes m mv w d = execute_at inp.special rs (hc (ap is_wait mv ∙ w)) dxe d

            go_stall : due prog w₀ n₂ ≡ t + 3 → hazard s.stages ≡ true → move_of s ≡ load_use_stall None
                → Ahead (load_use_stall None) inp
            unfolding advance advance_by advance_stages id_ex_after if_id_after is_wait wait_after place_after counted
                stalls flushes place_or fetch_from next_ex_mem bit target_or mode_or
            go_stall d h mv =
                let eo = load_turn prog (W n₂) (hazard_load h) in
                let dn = due_next true eo (sym (hazard_next eo) ∙ h) in (
                  suc n₂,
                  assemble (advance (load_use_stall None) s inp) inp.answer (suc n₂) hv refl refl refl refl refl
                      refl refl
                      refl
                      (full (executes _ mv refl d) (omega arith) okn)
                      (f1 refl (fd_next eo) refl (fpc_next eo) (fmode_next eo) (omega arith) (ok_next eo)),
                )

            go_flow : due prog w₀ n₂ ≡ t + 3 → hazard s.stages ≡ false → turn_at prog (W n₂) ≡ None
                → move_of s ≡ proceed →
                Ahead
                proceed inp
            unfolding advance advance_by advance_stages id_ex_after if_id_after is_wait wait_after place_after counted
                stalls flushes place_or fetch_from next_ex_mem bit fetches
            go_flow d h eo mv =
                let dn = due_next false eo (sym (hazard_next eo) ∙ h) in (
                  suc n₂,
                  assemble (advance proceed s inp) inp.answer (suc n₂) hv refl refl refl refl refl refl refl
                      refl
                      (full (executes _ mv refl d) (omega arith) okn)
                      (front_flow (suc n₂) inp (fd_next eo) (fpc_next eo) (fmode_next eo) (hi proceed mv refl).0
                      (omega arith) (ok_next eo) (hi proceed mv refl).1),
                )

            due_flush : (q : Place) → due prog w₀ n₂ ≡ t + 3 → turn_at prog (W n₂) ≡ Some q
                → due prog w₀ (suc n₂) ≡ suc t + 5 + waits (I (suc n₂))
            unfolding bit
            due_flush q d e = due_suc n₂ ∙ rw (d, turn_used n₂ q (I (suc n₂)) e, e) (omega arith)

            go_flush : due prog w₀ n₂ ≡ t + 3 → (q : Place) → turn_at prog (W n₂) ≡ Some q
                → move_of s ≡ redirect q → Ahead (redirect q) inp
            unfolding advance advance_by advance_stages id_ex_after if_id_after is_wait wait_after place_after counted
                stalls flushes place_or fetch_from next_ex_mem cleared walk
            go_flush d q e mv =
                let g = next_turned prog (W n₂) q e in (
                  suc n₂,
                  assemble (advance (redirect q) s inp) inp.answer (suc n₂) hv refl refl refl refl refl refl
                      refl refl
                      (full (executes _ mv refl d) (omega arith) okn)
                      (f0 refl refl refl g.0 g.1 (due_flush q d e)),
                )

            go_hold : s.stages.ex_armed ≡ true → suc (due prog w₀ n₂) ≡ t + 3 + s.stages.ex_cycles_left → 1 <
                s.stages.ex_cycles_left → s.stages.ex_cycles_left ≤ waits (I n₂) → Ahead keep_waiting inp
            unfolding advance advance_by advance_stages id_ex_after if_id_after is_wait wait_after place_after counted
                stalls flushes place_or fetch_from next_ex_mem
            go_hold a d l w = (
              n₂,
              assemble (advance keep_waiting s inp) inp.answer n₂ hv refl refl refl refl refl
                  refl refl
                  refl (gap refl)
                  (f2 rs dxe fde fpce fme (λ z. absurd (false≢true (sym z)))
                  (λ z. (omega arith, omega arith, omega arith)) okn okf),
            )

            waits_dx : waits s.stages.id_ex.decoded ≡ waits (I n₂)
            unfolding dx_at id_ex_of id_ex_by instruction_at
            waits_dx = ap (λ (l : IdEx). waits l.decoded) dxe

            go_arm : due prog w₀ n₂ ≡ t + 3 + waits (I n₂) → 0 < waits (I n₂) → Ahead begin_wait inp
            unfolding advance advance_by advance_stages id_ex_after if_id_after is_wait wait_after place_after counted
                stalls flushes place_or fetch_from next_ex_mem
            go_arm d l = let q = waits_dx in (
              n₂,
              assemble (advance begin_wait s inp) inp.answer n₂ hv refl refl
                  refl refl
                  refl refl refl refl (gap refl)
                  (f2 rs dxe fde fpce fme (λ z. absurd (false≢true (sym z)))
                  (λ z. (omega arith, omega arith, omega arith)) okn okf),
            )

            -- not waiting
            go_free : s.stages.ex_armed ≡ false → due prog w₀ n₂ ≡ t + 3 + waits (I n₂) → Ahead (move_of s) inp
            unfolding choose move_from proceed_or
            go_free a d = split (hazard s.stages)
                (λ h. let q = load_quick (I n₂) (hazard_load h) in
                let d3 : due prog w₀ n₂ ≡ t + 3 = omega arith in
                let mv = move_is false _ true _ None a refl h refl
                (turn_at_lem rs dxe d3 ∙ load_turn prog (W n₂) (hazard_load h)) in
                by_move (load_use_stall None) mv (go_stall d3 h mv))
                (λ h. split (ltb 0 (waits (I n₂)))
                (λ w. by_move begin_wait (move_is false _ false true _ a refl h (slow_is rs dxe ∙ w) refl)
                (go_arm d (ltb-true 0 (waits (I n₂)) w)))
                (λ w. let z = ltb-false 0 (waits (I n₂)) w in
                let d3 : due prog w₀ n₂ ≡ t + 3 = omega arith in
                let r = turn_at_lem rs dxe d3 in
                go_cases (turn_at prog (W n₂))
                (λ e. let mv = move_is false (ltb 1 s.stages.ex_cycles_left) false false None a refl h
                (slow_is rs dxe ∙ w) (r ∙ e) in by_move proceed mv (go_flow d3 h e mv))
                (λ q e. let mv = move_is false (ltb 1 s.stages.ex_cycles_left) false false (Some q)
                a refl h (slow_is rs dxe ∙ w) (r ∙ e) in by_move (redirect q) mv (go_flush d3 q e mv))))

            go_waiting : s.stages.ex_armed ≡ true → suc (due prog w₀ n₂) ≡ t + 3 + s.stages.ex_cycles_left → 1 ≤
                s.stages.ex_cycles_left → s.stages.ex_cycles_left ≤ waits (I n₂) → Ahead (move_of s) inp
            unfolding choose move_from proceed_or
            go_waiting a d l w = split (ltb 1 s.stages.ex_cycles_left)
                (λ h. by_move keep_waiting (move_is true true _ _ _ a h refl refl refl)
                (go_hold a d (ltb-true 1 s.stages.ex_cycles_left h) w))
                (λ h. let z = ltb-false 1 s.stages.ex_cycles_left h in
                let d3 : due prog w₀ n₂ ≡ t + 3 = omega arith in
                let ls : 0 < waits (I n₂) = omega arith in
                let eo = slow_turn prog (W n₂) ls in
                split (hazard s.stages)
                (λ hz. absurd (false≢true (sym (slow_load (I n₂) ls) ∙ hazard_load hz)))
                (λ hz. let mv = move_is true false false (ltb 0 (waits (I n₂))) None a h hz (slow_is rs dxe)
                (turn_at_lem rs dxe d3 ∙ eo) in by_move proceed mv (go_flow d3 hz eo mv)))

        go_front : FrontOf s t n₂ → Ahead (move_of s) inp
        go_front (f0 a b c p q d) = go_f0 a b c p q d
        go_front (f1 a b c p q d o) = go_f1 a b c p q d o
        go_front (f2 rs a b p q u w o o2) = split s.stages.ex_armed
            (λ z. let r = w z in go_waiting rs a b p q o o2 z r.0 r.1 r.2)
            (λ z. go_free rs a b p q o o2 z (u z))

        pub next_live : Ahead (move_of s) inp
        next_live = go_front mid.front
