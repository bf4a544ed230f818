-- The rows, by computation. Assumes nothing.
use mathlib.Core.Path.{refl}
use Rattle.sheet.proofs.OnLiterals.{sheet_on_literals}
use Rattle.trades.specs.Rows.{Rows, above, add, addi, ld, ldih, ldil, lent, nop, row, three, unknown}
use Rattle.trades.specs.Trades.{count_by, laid, list_by, may_move, may_trade, movable, pairs, places, places_check}
use Rattle.trades.specs.Trades.{places_count, places_from, places_list, touches, trades_at}

pub rows : Rows
unfolding sheet_on_literals above add addi count_by laid ld ldih ldil lent list_by may_move may_trade movable nop
    pairs places places_check places_count places_from places_list row three touches trades_at unknown
rows = record {
  nops = refl;
  others = refl;
  read_behind = refl;
  read_behind_too = refl;
  written_behind = refl;
  written_behind_too = refl;
  both_write = refl;
  into_zero = refl;
  both_into_zero = refl;
  halves = refl;
  other_halves = refl;
  half_read = refl;
  slow = refl;
  addi_reads = refl;
  addi_beside = refl;
  load_first = refl;
  load_behind = refl;
  all_three = refl;
  second_only = refl;
  one = refl;
  empty = refl;
  short = refl;
  shorter = refl;
  no_place = refl;
  length = refl;
  command = refl;
  register = refl;
}
