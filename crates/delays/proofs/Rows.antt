-- The rows, by computation. Assumes nothing.
use Prim.Native.Nat.{◌<◌, suc, zero, ℕ}
use mathlib.Core.Bool.{true}
use mathlib.Core.Path.{◌≡◌, refl}
use native.Mathlib.Omega.{arith}
use Rattle.accuracy.specs.Count.{count, divides, is_redirect, multiplies, path, predict_at, redirects, retire_tick}
use Rattle.accuracy.specs.Count.{used_loads}
use Rattle.sheet.proofs.OnLiterals.{sheet_on_literals}
use Rattle.trades.specs.Claims.{exchanged, record_bytes}
use Rattle.trades.specs.Rows.{add, ld, nop, three}
use Rattle.trades.specs.Trades.{may_move, may_trade, movable, pairs, places, places_from, touches, trades_at}
use Rattle.delays.specs.Passages.{is_normal, stands}
use Rattle.delays.specs.Rows.{Rows, begin, halt, program, slow_sheet}

-- it comes to record 2 from record 1 alone
enters : (n : ℕ) → n < 4 → stands (path (program slow_sheet) begin (suc n)) 2 ≡ true
    → stands (path (program slow_sheet) begin n) 1 ≡ true
unfolding sheet_on_literals path add ld nop three halt slow_sheet is_normal stands
enters zero l e = cc
enters (suc zero) l e = refl
enters (suc (suc zero)) l e = cc
enters (suc (suc (suc zero))) l e = cc
enters (suc (suc (suc (suc n)))) l e = absurd (omega arith)

pub rows : Rows
unfolding sheet_on_literals path add ld nop three halt slow_sheet is_normal stands retire_tick multiplies divides
    used_loads redirects count is_redirect predict_at exchanged record_bytes may_move may_trade movable pairs places
    places_from touches trades_at
rows = record {
  place = refl;
  passes = record { did = refl; begins = refl; enters = enters; ends = refl };
  before = refl;
  exchanged_before = refl;
}
