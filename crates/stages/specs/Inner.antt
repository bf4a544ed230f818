-- Definitions that only the contracts of inner functions cite. No claim and no public promise rests on them.
use Rattle.std.specs.Prelude.{◌<◌, ℕ, Bool, ◌&&◌, false, List, ◌≡◌, None}
use Rattle.latch.specs.Decode.{load_use}
use Rattle.latch.specs.Latches.{empty_ex_mem}
use Rattle.stages.specs.Advance.{advance_by}
use Rattle.stages.specs.Counting.{counter_full, is_full}
use Rattle.stages.specs.Execute.{effect_for, executed_by, inquiry_of, redirect_of}
use Rattle.stages.specs.Fetch.{fetch_from}
use Rattle.stages.specs.Move.{move_from}
use Rattle.stages.specs.Names.{Counters, Front, Operands, Plan, Stages, Taken, begin_wait}
use Rattle.stages.specs.Plans.{id_ex_from}

-- b tells whether n is full, and if not there is room for one more
pub record Tells (n : ℕ) (b : Bool) : Type 0 where
  pub is : b ≡ is_full n
  pub room : b ≡ false → n < 18446744073709551615

-- room for one more in each counter
pub record Room (c : Counters) : Type 0 where
  pub cycles : c.cycles < 18446744073709551615
  pub running_cycles : c.running_cycles < 18446744073709551615
  pub instructions_executed : c.instructions_executed < 18446744073709551615
  pub stall_cycles : c.stall_cycles < 18446744073709551615
  pub flush_events : c.flush_events < 18446744073709551615

-- b tells whether one of the counters is full, and if not there is room in each
pub record TellsAll (c : Counters) (b : Bool) : Type 0 where
  pub is : b ≡ counter_full c
  pub room : b ≡ false → Room c

-- the stages after the move of a plan, with the next EX/MEM so far
unfoldable pub move_on : Plan → Stages → List ℕ → Taken → Stages
move_on p l rs x = advance_by p.step p.ex_mem (id_ex_from l.if_id p.front rs) p.place l x

-- an instruction in IF/ID with operands o uses the load in ID/EX
unfoldable pub uses_load : Stages → Operands → Bool
uses_load l o = l.if_id.valid && load_use l.id_ex o.src_a o.src_b

-- the plan where a multiply or divide begins its wait
unfoldable pub held_plan : Stages → Front → Plan
held_plan l f = record
    { step = begin_wait; ex_mem = empty_ex_mem; inquiry = None; front = f; place = l.fetch_at }

-- the plan where ID/EX executes
unfoldable pub moved_plan : Stages → List ℕ → Bool → Front → Plan
moved_plan l rs used f = record {
  step = move_from used (redirect_of l rs);
  ex_mem = executed_by l.id_ex (effect_for l rs l.id_ex);
  inquiry = inquiry_of l rs;
  front = f;
  place = fetch_from (move_from used (redirect_of l rs)) f.predicted l.fetch_at;
}
