-- The move: what the rest of a tick does once MEM/WB has retired (continue or begin a wait in EX, hold the front
-- end behind a used load, go on, or redirect).
use Rattle.std.specs.Prelude.{ℕ, nat_lt, Bool, ◌&&◌, cond, false, not, true, List, Option, None, Some}
use Rattle.isa.specs.Operands.{operands_of}
use Rattle.isa.specs.Short.{decoded_of}
use Rattle.isa.specs.Waits.{waits}
use Rattle.latch.specs.Decode.{load_use}
use Rattle.latch.specs.Latches.{empty_ex_mem}
use Rattle.stages.specs.Execute.{executed, inquiry_of, redirect_of}
use Rattle.stages.specs.Names.{ExMem, IdEx, Move, Place, Stages}
use Rattle.stages.specs.Names.{begin_wait, keep_waiting, load_use_stall, proceed, redirect}

-- a wait in EX goes on: more than one tick of it is left
unfoldable pub waits_on : Stages → Bool
waits_on l = l.ex_armed && nat_lt 1 l.ex_cycles_left

-- the instruction in IF/ID names the destination of the load in ID/EX
unfoldable pub hazard : Stages → Bool
hazard l =
    l.if_id.valid
    && load_use l.id_ex (operands_of (decoded_of l.if_id.raw)).src_a
    (operands_of (decoded_of l.if_id.raw)).src_b

-- a multiply or divide in ID/EX
unfoldable pub is_slow : IdEx → Bool
is_slow l = l.valid && nat_lt 0 (waits l.decoded)

-- a multiply or divide begins its wait: not where it has just waited, and not before a used load
unfoldable pub begins_wait : Stages → Bool → Bool
begins_wait l used = not l.ex_armed && (not used && is_slow l.id_ex)

unfoldable pub proceed_or : Option Place → Move
proceed_or None = proceed
proceed_or (Some t) = redirect t

-- a used load comes first, then the redirect
unfoldable pub move_from : Bool → Option Place → Move
move_from used g = cond used (load_use_stall g) (proceed_or g)

-- the move where no wait goes on
unfoldable pub free_move : Stages → List ℕ → Move
free_move l rs = cond (begins_wait l (hazard l)) begin_wait (move_from (hazard l) (redirect_of l rs))

unfoldable pub move : Stages → List ℕ → Move
move l rs = cond (waits_on l) keep_waiting (free_move l rs)

-- a wait in EX
unfoldable pub is_wait : Move → Bool
is_wait keep_waiting = true
is_wait begin_wait = true
is_wait (load_use_stall g) = false
is_wait proceed = false
is_wait (redirect t) = false

-- the next EX/MEM of a move: in a wait nothing leaves EX
unfoldable pub next_ex_mem : Move → Stages → List ℕ → Option (Option ℕ) → ExMem
next_ex_mem m l rs c = cond (is_wait m) empty_ex_mem (executed l rs c)

-- the special register that a move asks for: in a wait nothing executes
unfoldable pub inquiry_in : Move → Stages → List ℕ → Option ℕ
inquiry_in m l rs = cond (is_wait m) None (inquiry_of l rs)
