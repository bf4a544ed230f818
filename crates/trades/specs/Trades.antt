-- Which neighbouring records of a sheet may trade places, and the list of these places.
use Rattle.std.specs.Prelude.{◌*◌, ◌+◌, ◌-◌, ◌/◌, suc, zero, ℕ, ◌==◌, nat_lt, drop, length, slice_get, Bool, ◌&&◌, ◌||◌}
use Rattle.std.specs.Prelude.{cond, false, not, List, [], ◌∷◌, ◌++◌, Option, None, Some, Result, Ok, Err, ⊤}
use Rattle.std.specs.Result.{result_and}
use Rattle.isa.specs.Operands.{operands_of}
use Rattle.isa.specs.Registers.{is_dest}
use Rattle.isa.specs.Short.{decoded_of}
use Rattle.sheet.specs.Records.{within}
use Rattle.sheet.specs.Sheet.{offer_at, sheet_check}
use Rattle.trades.specs.Names.{Normal, Operands, Refusal, ShortList}

-- a record's command is NOP, 10 to 1F, ADDI, LDIL or LDIH; none where there is no record
unfoldable pub may_move : Option ℕ → Bool
may_move None = false
may_move (Some c) = c == 0x00 || (within c 0x10 0x1F || (c == 0x20 || (c == 0x30 || c == 0x31)))

-- what the instruction of record k names, where its command is one of these
unfoldable pub movable : List ℕ → ℕ → Option Operands
movable l k =
    cond (may_move (slice_get l (k * 5))) (Some (operands_of (decoded_of (offer_at l (k * 4) Normal)))) None

-- a non-zero destination that is a source or the destination of the other; R0 stands where there is no source
unfoldable pub touches : Option ℕ → Operands → Bool
touches None o = false
touches (Some d) o = not (d == 0) && (d == o.src_a || (d == o.src_b || is_dest o.dest d))

-- two that may trade places: neither one's destination touches the other
unfoldable pub may_trade : Option Operands → Option Operands → Bool
may_trade None p = false
may_trade (Some o) None = false
may_trade (Some o) (Some p) = not (touches o.dest p || touches p.dest o)

-- records k and k + 1 may trade places
unfoldable pub trades_at : List ℕ → ℕ → Bool
trades_at l k = may_trade (movable l k) (movable l (k + 1))

-- of n places from k on, those whose records may, in rising order
unfoldable pub places_from : List ℕ → ℕ → ℕ → List ℕ
places_from l k zero = []
places_from l k (suc n) = cond (trades_at l k) (k ∷ places_from l (suc k) n) (places_from l (suc k) n)

-- how many neighbouring pairs there are: one less than records
unfoldable pub pairs : List ℕ → ℕ
pairs l = length l / 5 - 1

-- the places of a sheet
unfoldable pub places : List ℕ → List ℕ
places l = places_from l 0 (pairs l)

-- the check of a sheet and of a lent list of n entries: the sheet's, then 15
unfoldable pub places_check : List ℕ → ℕ → Result ⊤ Refusal
places_check l n = result_and (sheet_check l) (cond (nat_lt n (pairs l)) (Err ShortList) (Ok tt))

-- how many places are listed, by that check
unfoldable pub count_by : Result ⊤ Refusal → List ℕ → Result ℕ Refusal
count_by (Err c) ps = Err c
count_by (Ok x) ps = Ok (length ps)

-- a list with these at its front, and behind them what stood there
unfoldable pub laid : List ℕ → List ℕ → List ℕ
laid ps old = ps ++ drop (length ps) old

-- every entry of the lent list then; refused, it is as it was
unfoldable pub list_by : Result ⊤ Refusal → List ℕ → List ℕ → List ℕ
list_by (Err c) ps old = old
list_by (Ok x) ps old = laid ps old

-- the count that is handed back
unfoldable pub places_count : List ℕ → List ℕ → Result ℕ Refusal
places_count l old = count_by (places_check l (length old)) (places l)

-- the lent list then
unfoldable pub places_list : List ℕ → List ℕ → List ℕ
places_list l old = list_by (places_check l (length old)) (places l) old
