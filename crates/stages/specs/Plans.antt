-- The plan of a tick in which no wait goes on, made once MEM/WB has retired, and the stages behind it.
use Rattle.std.specs.Prelude.{ℕ, Bool, ◌&&◌, cond, List, Option, is_some}
use Rattle.isa.specs.Inquiries.{mfsr_with}
use Rattle.isa.specs.Operands.{operands_of}
use Rattle.isa.specs.Short.{decoded_of}
use Rattle.latch.specs.Decode.{id_ex_by}
use Rattle.latch.specs.Execute.{ex_mem_of}
use Rattle.latch.specs.Latches.{empty_ex_mem, empty_id_ex}
use Rattle.stages.specs.Advance.{advance_by}
use Rattle.stages.specs.Execute.{effect_for, executed_by}
use Rattle.stages.specs.Fetch.{fetch_place, fetches, predicted}
use Rattle.stages.specs.Move.{free_move, inquiry_in, is_wait}
use Rattle.stages.specs.Names.{ExMem, Front, IdEx, IfId, Move, Plan, Stages, Taken, keep_waiting}

-- IF/ID decoded, with its operands and the prediction
unfoldable pub front_of : IfId → Front
front_of f = record {
  decoded = decoded_of f.raw;
  operands = operands_of (decoded_of f.raw);
  predicted = predicted f;
}

-- the next ID/EX, by the front
unfoldable pub id_ex_from : IfId → Front → List ℕ → IdEx
id_ex_from l f rs =
    cond l.valid (id_ex_by (is_some f.predicted) f.decoded f.operands l.pc l.mode rs) empty_id_ex

-- the next EX/MEM of a move, as far as it is known before something is said of the special register asked for
unfoldable pub open_ex_mem : Move → Stages → List ℕ → ExMem
open_ex_mem m l rs = cond (is_wait m) empty_ex_mem (executed_by l.id_ex (effect_for l rs l.id_ex))

-- the move, the next EX/MEM so far, the special register asked for, the front and the place to fetch from
unfoldable pub plan_of : Stages → List ℕ → Plan
plan_of l rs = record {
  step = free_move l rs;
  ex_mem = open_ex_mem (free_move l rs) l rs;
  inquiry = inquiry_in (free_move l rs) l rs;
  front = front_of l.if_id;
  place = fetch_place (free_move l rs) l;
}

-- whether a plan fetches; a machine that has halted does not
unfoldable pub plan_fetches : Stages → Plan → Bool
plan_fetches l p = l.running && fetches p.step

-- the next EX/MEM, so far x, with what is said (c) of the special register that the plan asks for (q); d: ID/EX
unfoldable pub said_ex_mem : Option ℕ → ExMem → IdEx → Option (Option ℕ) → ExMem
said_ex_mem q x d c = cond (is_some q) (ex_mem_of d (mfsr_with c)) x

-- the stages after the move of a plan
unfoldable pub advance_plan : Plan → Stages → List ℕ → Taken → Stages
advance_plan p l rs x =
    advance_by p.step (said_ex_mem p.inquiry p.ex_mem l.id_ex x.special)
    (id_ex_from l.if_id p.front rs) p.place l x

-- the stages after a wait that goes on
unfoldable pub waited : Stages → Taken → Stages
waited l x = advance_by keep_waiting empty_ex_mem l.id_ex l.fetch_at l x
