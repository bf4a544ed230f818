-- Prediction and fetch.
use Rattle.std.specs.Prelude.{ℕ, Bool, cond, false, not, true, List, Option, None, unwrap_or}
use Rattle.isa.specs.Short.{decoded_of}
use Rattle.isa.specs.Waits.{predict}
use Rattle.latch.specs.Decode.{decode_predicted}
use Rattle.latch.specs.Latches.{cleared, empty_id_ex}
use Rattle.stages.specs.Counting.{stalls}
use Rattle.stages.specs.Names.{IdEx, IfId, Move, Place, RawInstr, Stages, begin_wait, keep_waiting}
use Rattle.stages.specs.Names.{load_use_stall, proceed, redirect}

-- the prediction for what IF/ID holds
unfoldable pub predicted : IfId → Option Place
predicted f = cond f.valid (predict (decoded_of f.raw) f.pc f.mode) None

-- a place, or where a redirect leads
unfoldable pub place_or : Option Place → Place → Place
place_or g p = unwrap_or g p

-- the place that a move fetches from, by the prediction, which is followed only where the tick does not redirect
unfoldable pub fetch_from : Move → Option Place → Place → Place
fetch_from keep_waiting g p = p
fetch_from begin_wait g p = p
fetch_from (load_use_stall h) g p = p
fetch_from proceed g p = place_or g p
fetch_from (redirect t) g p = p

unfoldable pub fetch_place : Move → Stages → Place
fetch_place m l = fetch_from m (predicted l.if_id) l.fetch_at

-- whether a move fetches: one that does not hold the front end, a redirect too
unfoldable pub fetches : Move → Bool
fetches m = not (stalls m)

-- the next IF/ID; a machine that has halted fetches nothing
unfoldable pub fetched : Bool → IfId → Place → RawInstr → IfId
fetched false l p i = cleared l
fetched true l p i = record { valid = true; pc = p.pc; mode = p.mode; raw = i }

-- the next ID/EX
unfoldable pub next_id_ex : Stages → List ℕ → IdEx
next_id_ex l rs = cond l.if_id.valid (decode_predicted l.if_id rs) empty_id_ex
