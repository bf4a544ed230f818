-- Read this first: what is claimed of the pipeline, and the definitions that it rests on, in the order of RULES.
-- word: Words. isa: Short (short decode), Operands, Effect (execute), Waits (MUL to MOD, used loads, prediction),
-- Registers, Redirects, Refusals (1), Inquiries (special registers), Machine (the one-at-a-time machine). latch:
-- Latches, Decode, Forwarding, Execute, Memory, Retire, Bounds (refusal 11 of each latch). origin: Origins (where a
-- value comes from). stages: Forwarding, Execute, Counting, Retire, Move, Fetch, Advance (the tick's moves), Refusals
-- (11, 12), Loads. pipeline: Retire, Advance, Start, Refusals (13), Ask (asking), Tick (3, 4, 10), Turn (a source's
-- tick).
-- Here: Count (M, D, L, R, the formula), Accuracy (RULES 15.6), Asking, Example, Waits (rows of waits for the memory).
use Rattle.std.specs.Prelude.{suc, ℕ, length, Bool, false, true, List, ◌++◌, ◌∷◌, ◌≡◌, Option, Ok, Err}
use Rattle.isa.specs.Machine.{Arch, Program, Source}
use Rattle.isa.specs.Operands.{ok_dest}
use Rattle.isa.specs.Registers.{read_reg}
use Rattle.isa.specs.Short.{decoded_of}
use Rattle.latch.specs.Decode.{id_ex_of}
use Rattle.latch.specs.Execute.{operand_b}
use Rattle.latch.specs.Forwarding.{forward_from}
use Rattle.latch.specs.Memory.{mem_wb_of}
use Rattle.latch.specs.Retire.{retired_regs}
use Rattle.origin.specs.Origins.{origins_of, value_from}
use Rattle.pipeline.specs.Start.{fresh}
use Rattle.pipeline.specs.Tick.{tick, ticked}
use Rattle.stages.specs.Forwarding.{forwarded}
use Rattle.stages.specs.Refusals.{out_of_bounds}
use Rattle.accuracy.specs.Accuracy.{Agree, AgreeSaid, Demand3, Demand3For, Retires, Run, after, first_offer}
use Rattle.accuracy.specs.Accuracy.{first_said, offered, one, said}
use Rattle.accuracy.specs.Asking.{Asking, replies}
use Rattle.accuracy.specs.Example.{Example}
use Rattle.accuracy.specs.Names.{Decoded, ExMem, Given, MemWb, Mode, PipelineCpu, Place, Refusal, Stages, Start}
use Rattle.accuracy.specs.Waits.{WaitRows}

-- Everything claimed; proved in proofs/Claims.antt.
pub record Claims : Type 0 where
  pub demand3 : Demand3
  pub demand3_for : Demand3For
  -- The tick of RULES 15.6 is the only one that raises the retired count from N - 1 to N.
  pub only : (prog : Program) (w : Arch) (r : Run) (ts : List Given) (N : ℕ) (x : Retires prog w r ts N)
      (pre post : List Given) (here : Given) → ts ≡ pre ++ here ∷ post
      → suc (after r pre).state.counts.instructions_executed ≡ N
      → (one (after r pre) here).state.counts.instructions_executed ≡ N → (pre ≡ x.pre) × (here ≡ x.here)
  -- Its number is the tick counter.
  pub numbered : (r : Run) (ts : List Given) → r.accepted ≡ r.state.counts.cycles
      → (after r ts).accepted ≡ (after r ts).state.counts.cycles
  -- The premise, RULES 15.4, holds wherever the offers agree with any instructions and what was said with any table, as
  -- those of one who answers what is asked from a fixed source do.
  pub premise : (f : ℕ → Mode → Decoded) (l : List (Place × Decoded)) → Agree f l → Agree (first_offer l) l
  pub premise_said : (g : ℕ → Option (Option ℕ)) (l : List (ℕ × Option (Option ℕ))) → AgreeSaid g l → AgreeSaid (first_said l) l
  pub answered : (src : Source) (vs : List ℕ) (r : Run)
      → Agree (λ p m. decoded_of (src.raw p m)) (offered r (replies src vs r))
  pub answered_said : (src : Source) (vs : List ℕ) (r : Run) → AgreeSaid src.table (said r (replies src vs r))
  -- What a list hands on is the state that the tick hands back, and a refused tick hands back the very state.
  pub hands_on : (r : Run) (t : Given) → (one r t).state ≡ (ticked r.state t).state
  pub hands_back : (s : PipelineCpu) (t : Given) (c : Refusal) → (ticked s t).outcome ≡ Err c → (ticked s t).state ≡ s
  pub asking : Asking
  -- A fresh state is in bounds, and an accepted tick keeps the bounds: 11 never arises in a list.
  pub fresh : (v : Start) → out_of_bounds (fresh v).stages ≡ false
  pub keeps : (s : PipelineCpu) (t : Given) (s' : PipelineCpu) → tick s t ≡ Ok s' → out_of_bounds s'.stages ≡ false
  -- Forwarding: for each register its value after MEM/WB's and then EX/MEM's writes, R0 reading as 0, where EX/MEM is
  -- no load or store (that neither holds an exception, MTSR, IRET or HALT is not needed for the registers).
  pub forwarding : (l : Stages) (rs : List ℕ) (r v : ℕ) → ok_dest l.mem_wb.dest ≡ true
      → ok_dest l.ex_mem.dest ≡ true → length rs ≡ 32 → l.ex_mem.is_load ≡ false
      → l.ex_mem.is_store ≡ false
      → forwarded l rs r
      ≡ read_reg (retired_regs (mem_wb_of l.ex_mem v) l.features (retired_regs l.mem_wb l.features rs)) r
  -- Origins: each operand of an instruction that decode has put into ID/EX is the value that stands at its origin, also
  -- one for which no source is named.
  pub origins : (x : ExMem) (w : MemWb) (f : ℕ) (rs old : List ℕ) (g : Bool) (i : Decoded) (p : ℕ) (m : Mode)
      → let d = id_ex_of g i p m old in
      let o = origins_of x w d in
      (forward_from x w f rs d.src_a ≡ value_from o.a x w f rs d.src_a)
      × (operand_b x w f rs d ≡ value_from o.b x w f rs d.src_b)
  pub example : Example
  pub waits : WaitRows
