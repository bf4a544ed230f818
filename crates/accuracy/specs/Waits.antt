-- Waits told by the memory: rows of single ticks, of retirement by itself, and of lists.
use Rattle.std.specs.Prelude.{ℕ, pos, replicate, slice_index, Bool, cond, false, true, List, []}
use Rattle.std.specs.Prelude.{◌∷◌, ◌≡◌, Option, None, Some, is_some, Result, Ok, Err}
use Rattle.isa.specs.Machine.{Source, zero_start}
use Rattle.latch.specs.Latches.{empty_mem_wb}
use Rattle.pipeline.specs.Ask.{ask}
use Rattle.pipeline.specs.Parts.{retired}
use Rattle.pipeline.specs.Start.{fresh}
use Rattle.pipeline.specs.Tick.{tick}
use Rattle.pipeline.specs.Turn.{reply}
use Rattle.accuracy.specs.Accuracy.{Run, after, begin, one}
use Rattle.accuracy.specs.Names.{Add, Addi, BadAnswer, BadOffer, BadRegister, BadWait, Beq, Faulty, Given, Halt}
use Rattle.accuracy.specs.Names.{IllegalInstruction, Instruction, Ld, MemWb, Mul, Nop, OutOfBounds, PipelineCpu}
use Rattle.accuracy.specs.Names.{RawNormal, Refusal, Wanted}
use Rattle.accuracy.specs.Samples.{nothing, source_of}

-- the fresh state, but for whether it runs, MEM/WB, and the ticks left of a wait
unfoldable pub state : Bool → MemWb → ℕ → PipelineCpu
state running w n =
    let s = fresh zero_start in
    record s { stages = record s.stages { running = running; mem_wb = w; wait_left = n } }

-- the fresh state with n ticks left of a wait
unfoldable pub in_wait : ℕ → PipelineCpu
in_wait n = state true empty_mem_wb n

-- an instruction or none, an answer or none, a wait told with a fetch and one with a load
unfoldable pub given : Option Instruction → Option ℕ → ℕ → ℕ → Given
given None a f l = record nothing { answer = a; fetch_wait = f; load_wait = l }
given (Some i) a f l =
    record nothing { offer = Some (RawNormal i); answer = a; fetch_wait = f; load_wait = l }

-- nothing is wanted
unfoldable pub unasked : Wanted
unasked = record { fetch = None; request = None; special = None; origins = None }

-- the refusal, or whether the machine runs and the ticks that are left of a wait
unfoldable pub outcome : Result PipelineCpu Refusal → Result (Bool × ℕ) Refusal
outcome (Err c) = Err c
outcome (Ok s) = Ok (s.stages.running, s.stages.wait_left)

-- a valid HALT in MEM/WB
unfoldable pub halt_latch : MemWb
halt_latch = record empty_mem_wb { valid = true; halt = true }

-- a valid exception in MEM/WB
unfoldable pub fault_latch : MemWb
fault_latch = record empty_mem_wb { valid = true; exception = Some IllegalInstruction }

-- a tick with the first wait told where it has an offer, and the second where it has an answer
unfoldable pub with_waits : ℕ × ℕ → Given → Given
with_waits w t = record t {
  fetch_wait = cond (is_some t.offer) w.0 0;
  load_wait = cond (is_some t.answer) w.1 0;
}

-- the ticks of a list that are asked for, answered from a source, with load answer v, and for each the waits that are
-- told with its fetch and with its load
unfoldable pub delayed_replies : Source → ℕ → List (ℕ × ℕ) → Run → List Given
delayed_replies src v [] r = []
delayed_replies src v (w ∷ ws) r =
    with_waits w (reply src v r.state)
    ∷ delayed_replies src v ws (one r (with_waits w (reply src v r.state)))

-- the run of these instructions that they make
unfoldable pub delayed_run : List Instruction → ℕ → List (ℕ × ℕ) → Run
delayed_run is v ws = after (begin zero_start) (delayed_replies (source_of is) v ws (begin zero_start))

-- whether the machine runs; ticks accepted, waits told, retired, stalls, flushes, and register r
unfoldable pub seen : ℕ → Run → Bool × List ℕ
seen r x = (
  x.state.stages.running,
  x.accepted ∷ x.waits ∷ x.state.counts.instructions_executed ∷ x.state.counts.stall_cycles
      ∷ x.state.counts.flush_events ∷ slice_index x.state.reg r ∷ [],
)

-- BEQ R0,R0,0; HALT
unfoldable pub branching : List Instruction
branching = Beq 0 0 (pos 0) ∷ Halt ∷ []

-- LD R5,R0+8; ADD R6,R5,R5; HALT
unfoldable pub loading : List Instruction
loading = Ld 5 0 (pos 8) ∷ Add 6 5 5 ∷ Halt ∷ []

-- ADDI R3,R0,7; MUL R4,R3,R3; HALT
unfoldable pub multiplying : List Instruction
multiplying = Addi 3 0 (pos 7) ∷ Mul 4 3 3 ∷ Halt ∷ []

pub record WaitRows : Type 0 where
  -- the most that can be told with a fetch
  pub fetch_most : outcome (tick (in_wait 0) (given (Some Nop) None 1000 0)) ≡ Ok (true, 1000)
  pub fetch_over : outcome (tick (in_wait 0) (given (Some Nop) None 1001 0)) ≡ Err BadWait
  -- none with a load that is not wanted, and 4 comes before 24
  pub no_load : outcome (tick (in_wait 0) (given (Some Nop) None 0 1)) ≡ Err BadWait
  pub answer_first : outcome (tick (in_wait 0) (given (Some Nop) (Some 0) 0 1)) ≡ Err BadAnswer
  -- in a wait nothing is wanted
  pub goes_on : outcome (tick (in_wait 1) nothing) ≡ Ok (true, 0)
  pub no_offer : outcome (tick (in_wait 1) (given (Some Nop) None 0 0)) ≡ Err BadOffer
  pub register_first : outcome (tick (in_wait 1) (given (Some (Add 32 0 0)) None 0 0)) ≡ Err BadRegister
  pub no_answer : outcome (tick (in_wait 1) (given None (Some 0) 0 0)) ≡ Err BadAnswer
  pub no_wait : outcome (tick (in_wait 1) (given None None 1 0)) ≡ Err BadWait
  -- the most that can be left
  pub most : outcome (tick (in_wait 2000) nothing) ≡ Ok (true, 1999)
  pub over : outcome (tick (in_wait 2001) nothing) ≡ Err OutOfBounds
  -- a machine that does not run waits too, in a running tick with a stall
  pub stopped : tick (state false empty_mem_wb 1) nothing ≡ Ok (record (state false empty_mem_wb 0) {
    counts = record {
      cycles = 1;
      running_cycles = 1;
      instructions_executed = 0;
      stall_cycles = 1;
      flush_events = 0;
    };
  })
  -- 12 in a wait is given by retirement by itself alone, which leaves the wait as it is
  pub fault_asked : ask (state true fault_latch 1) ≡ Ok unasked
  pub fault_ticked : outcome (tick (state true fault_latch 1) nothing) ≡ Ok (true, 0)
  pub fault_retired : outcome (retired (state true fault_latch 1)) ≡ Err Faulty
  pub halt_retired : outcome (retired (state true halt_latch 3)) ≡ Ok (false, 3)
  -- HALT, wait 2 with its fetch only: the tick before the last, and the last
  pub halt_runs : (delayed_run (Halt ∷ []) 0 ((2, 0) ∷ replicate 5 (0, 0))).state.stages.running ≡ true
  pub halt : seen 0 (delayed_run (Halt ∷ []) 0 ((2, 0) ∷ replicate 6 (0, 0))) ≡ (false, 7 ∷ 2 ∷ 1 ∷ 2 ∷ 0 ∷ 0 ∷ [])
  -- the same with wait 1 with every fetch
  pub halts_runs : (delayed_run (Halt ∷ []) 0 (replicate 8 (1, 0))).state.stages.running ≡ true
  pub halts : seen 0 (delayed_run (Halt ∷ []) 0 (replicate 9 (1, 0))) ≡ (false, 9 ∷ 4 ∷ 1 ∷ 4 ∷ 0 ∷ 0 ∷ [])
  -- the waits of flushed fetches count
  pub branch_runs : (delayed_run branching 0 (replicate 14 (1, 0))).state.stages.running ≡ true
  pub branch : seen 0 (delayed_run branching 0 (replicate 15 (1, 0))) ≡ (false, 15 ∷ 7 ∷ 2 ∷ 7 ∷ 1 ∷ 0 ∷ [])
  -- wait 3 with the load, answer 21
  pub load_runs : (delayed_run loading 21 (replicate 10 (0, 3))).state.stages.running ≡ true
  pub load : seen 6 (delayed_run loading 21 (replicate 11 (0, 3))) ≡ (false, 11 ∷ 3 ∷ 3 ∷ 4 ∷ 0 ∷ 42 ∷ [])
  -- wait 2 with every fetch, beside the wait of MUL in EX
  pub multiply_runs : (delayed_run multiplying 0 (replicate 20 (2, 0))).state.stages.running ≡ true
  pub multiply : seen 4 (delayed_run multiplying 0 (replicate 21 (2, 0))) ≡ (false, 21 ∷ 12 ∷ 3 ∷ 14 ∷ 0 ∷ 49 ∷ [])
