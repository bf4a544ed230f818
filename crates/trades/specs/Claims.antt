-- Read this first: what is claimed of the places that are listed. Here: Trades (which places, and the list), Rows.
-- Elsewhere: isa has the one-at-a-time machine and the operands, sheet the records and their check.
use Rattle.std.specs.Prelude.{◌*◌, ◌+◌, ◌≤◌, suc, ℕ, ◌==◌, drop, nat_le, nat_lt, take, Bool, ◌&&◌, ◌||◌, false, true}
use Rattle.std.specs.Prelude.{List, [], ◌++◌, ◌∷◌, ◌≡◌, Ok}
use Rattle.isa.specs.Machine.{Arch, Program, machine, program_of}
use Rattle.sheet.specs.Sheet.{sheet_check, sheet_source}
use Rattle.trades.specs.Names.{Normal, Start}
use Rattle.trades.specs.Rows.{Rows}
use Rattle.trades.specs.Trades.{pairs, places, places_check, trades_at}

-- a number stands in a list
unfoldable pub is_in : ℕ → List ℕ → Bool
is_in k [] = false
is_in k (x ∷ l) = k == x || is_in k l

-- a list rises from k on, and so has no number twice
unfoldable pub rises_from : ℕ → List ℕ → Bool
rises_from k [] = true
rises_from k (x ∷ l) = nat_le k x && rises_from (suc x) l

-- The places listed are exactly the pairs that may trade places, in rising order.
abbrev pub Listed : Type 0
Listed = (l : List ℕ) (k : ℕ) → is_in k (places l) ≡ (nat_lt k (pairs l) && trades_at l k)

abbrev pub Rising : Type 0
Rising = (l : List ℕ) → rises_from 0 (places l) ≡ true

-- A list of 4,095 entries is enough for every sheet that is not refused.
abbrev pub Enough : Type 0
Enough = (l : List ℕ) (n : ℕ) → sheet_check l ≡ Ok tt → 4095 ≤ n → places_check l n ≡ Ok tt

-- the five bytes of record k
unfoldable pub record_bytes : List ℕ → ℕ → List ℕ
record_bytes l k = take 5 (drop (k * 5) l)

-- a sheet with records k and k + 1 exchanged
unfoldable pub exchanged : List ℕ → ℕ → List ℕ
exchanged l k = take (k * 5) l ++ record_bytes l (k + 1) ++ record_bytes l k ++ drop ((k + 2) * 5) l

-- From w on, the machine does two instructions of either program and goes on, and is the same then: its registers, its
-- address and mode, the answers left and the requests made.
pub record EitherOrder (g g' : Program) (w : Arch) : Type 0 where
  pub did : (machine g w 2).done ≡ 2
  pub runs : (machine g w 2).runs ≡ true
  pub same : machine g' w 2 ≡ machine g w 2

-- For every listed place of a sheet that is not refused: the exchanged sheet is not refused either, and whatever the
-- registers, load answers, table, user flag and feature word, a machine that enters at record k in Normal mode does
-- both instructions in either order alike.
pub record Trade (l : List ℕ) (k : ℕ) : Type 0 where
  pub valid : sheet_check (exchanged l k) ≡ Ok tt
  pub alike : (v : Start) (t : List ℕ) (w : Arch) → w.pc ≡ k * 4 → w.mode ≡ Normal
      → EitherOrder (program_of (sheet_source l t) v) (program_of (sheet_source (exchanged l k) t) v) w

abbrev pub Traded : Type 0
Traded = (l : List ℕ) (k : ℕ) → sheet_check l ≡ Ok tt → is_in k (places l) ≡ true → Trade l k

-- Everything claimed; proved in proofs/Claims.antt.
pub record Claims : Type 0 where
  pub listed : Listed
  pub rising : Rising
  pub enough : Enough
  pub traded : Traded
  pub rows : Rows
