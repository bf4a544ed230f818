-- The order of a turn, and the answers that turns use.
use Rattle.std.specs.Prelude.{◌+◌, ℕ, nat_lt, Bool, ◌&&◌, cond, not, Option, None, Some}
use Rattle.sheet.specs.Names.{CounterFull, End, EndRefused, Faulty, Halted, Loads, Spent}

-- not running, halted; limit used up, spent; a faulty instruction or a counter at its top, refused; a load wanted and no
-- answer left, loads; else the turn ends nothing: it is one more tick
unfoldable pub turn_by : Bool → Bool → Bool → Bool → Bool → Option End
turn_by running spent faulty full unanswered =
    cond (not running) (Some Halted)
    (cond spent (Some Spent)
    (cond faulty (Some (EndRefused Faulty))
    (cond full (Some (EndRefused CounterFull))
    (cond unanswered (Some Loads)
    None))))

-- how many answers are used behind a load, and behind what is none, of n
unfoldable pub used_after : Bool → ℕ → ℕ → ℕ
used_after loads k n = cond (loads && nat_lt k n) (k + 1) k
