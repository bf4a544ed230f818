-- The stages after a move.
use Rattle.std.specs.Prelude.{◌-◌, ℕ, nat_lt, Bool, ◌&&◌, cond, not, List, is_some}
use Rattle.isa.specs.Effect.{fall}
use Rattle.isa.specs.Waits.{waits}
use Rattle.latch.specs.Latches.{cleared, empty_id_ex}
use Rattle.latch.specs.Memory.{mem_wb_of}
use Rattle.stages.specs.Fetch.{fetch_place, fetched, next_id_ex, place_or}
use Rattle.stages.specs.Move.{is_wait, next_ex_mem}
use Rattle.stages.specs.Names.{ExMem, IdEx, IfId, Move, Place, RawInstr, Stages, Taken, begin_wait, keep_waiting}
use Rattle.stages.specs.Names.{load_use_stall, proceed, redirect}

-- Each part of the stages after a move. p: the place fetched from; i: the instruction offered; d: IF/ID decoded.

-- the fetch place: behind a used load it is held, unless the tick redirects; a running machine moves on
unfoldable pub place_after : Move → Place → Stages → Place
place_after keep_waiting p l = l.fetch_at
place_after begin_wait p l = l.fetch_at
place_after (load_use_stall g) p l = place_or g l.fetch_at
place_after proceed p l = record { pc = cond l.running (fall p.pc p.mode) p.pc; mode = p.mode }
place_after (redirect t) p l = t

-- IF/ID: a redirect empties what is held or fetched
unfoldable pub if_id_after : Move → Place → RawInstr → Stages → IfId
if_id_after keep_waiting p i l = l.if_id
if_id_after begin_wait p i l = l.if_id
if_id_after (load_use_stall g) p i l = cond (is_some g) (cleared l.if_id) l.if_id
if_id_after proceed p i l = fetched l.running l.if_id p i
if_id_after (redirect t) p i l = cleared (fetched l.running l.if_id p i)

-- ID/EX
unfoldable pub id_ex_after : Move → IdEx → Stages → IdEx
id_ex_after keep_waiting d l = l.id_ex
id_ex_after begin_wait d l = l.id_ex
id_ex_after (load_use_stall g) d l = empty_id_ex
id_ex_after proceed d l = d
id_ex_after (redirect t) d l = empty_id_ex

-- the wait in EX: a move that is none ends the one that was under way
unfoldable pub wait_after : Move → Stages → ℕ
wait_after keep_waiting l = l.ex_cycles_left - 1
wait_after begin_wait l = waits l.id_ex.decoded
wait_after (load_use_stall g) l = cond l.ex_armed 0 l.ex_cycles_left
wait_after proceed l = cond l.ex_armed 0 l.ex_cycles_left
wait_after (redirect t) l = cond l.ex_armed 0 l.ex_cycles_left

-- e: the next EX/MEM; x: what the tick takes in
unfoldable pub advance_by : Move → ExMem → IdEx → Place → Stages → Taken → Stages
advance_by m e d p l x = record {
  fetch_at = place_after m p l;
  retire_at = l.retire_at;
  running = l.running;
  user = l.user;
  features = l.features;
  if_id = if_id_after m p x.raw l;
  id_ex = id_ex_after m d l;
  ex_mem = e;
  mem_wb = mem_wb_of l.ex_mem x.answer;
  ex_cycles_left = wait_after m l;
  ex_armed = is_wait m;
  wait_left = x.wait;
}

unfoldable pub advance_stages : Move → Stages → List ℕ → Taken → Stages
advance_stages m l rs x = advance_by m (next_ex_mem m l rs x.special) (next_id_ex l rs) (fetch_place m l) l x

-- ticks are left of a wait for the memory
unfoldable pub waits_for_memory : Stages → Bool
waits_for_memory l = nat_lt 0 l.wait_left

-- whether a tick moves anything: that of a running machine that does not wait for the memory
unfoldable pub awake : Stages → Bool
awake l = l.running && not (waits_for_memory l)

-- one of those ticks
unfoldable pub wait_for_memory : Stages → Stages
wait_for_memory l = record l { wait_left = l.wait_left - 1 }
