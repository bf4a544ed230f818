-- The rows of RULES 29.5: one table, one claim.
use Rattle.std.specs.Prelude.{ℕ, List, [], ◌++◌, ◌∷◌, ◌≡◌, Result, Ok, Err}
use Rattle.trades.specs.Names.{BadCommand, BadLength, BadRegister, Refusal, ShortList}
use Rattle.trades.specs.Trades.{places_count, places_list}

unfoldable pub nop : List ℕ
nop = 0x00 ∷ 0x00 ∷ 0x00 ∷ 0x00 ∷ 0x00 ∷ []

-- three registers
unfoldable pub three : ℕ → ℕ → ℕ → ℕ → List ℕ
three c d a b = c ∷ d ∷ a ∷ b ∷ 0x00 ∷ []

unfoldable pub add : ℕ → ℕ → ℕ → List ℕ
add d a b = three 0x10 d a b

-- a register: LDIL and LDIH of 7, ADDI and LD with R2 and 7
unfoldable pub ldil : ℕ → List ℕ
ldil d = 0x30 ∷ d ∷ 0x00 ∷ 0x00 ∷ 0x07 ∷ []

unfoldable pub ldih : ℕ → List ℕ
ldih d = 0x31 ∷ d ∷ 0x00 ∷ 0x00 ∷ 0x07 ∷ []

unfoldable pub addi : ℕ → List ℕ
addi d = 0x20 ∷ d ∷ 0x02 ∷ 0x00 ∷ 0x07 ∷ []

unfoldable pub ld : ℕ → List ℕ
ld d = 0x21 ∷ d ∷ 0x02 ∷ 0x00 ∷ 0x07 ∷ []

-- no such command, and a register above 31
unfoldable pub unknown : List ℕ
unknown = 0x04 ∷ 0x00 ∷ 0x00 ∷ 0x00 ∷ 0x00 ∷ []

unfoldable pub above : List ℕ
above = add 32 0 0

-- the count and the list for a sheet, lent these entries
unfoldable pub lent : List ℕ → List ℕ → Result ℕ Refusal × List ℕ
lent sheet list = (places_count sheet list, places_list sheet list)

-- lent two entries that hold 9
unfoldable pub row : List ℕ → Result ℕ Refusal × List ℕ
row sheet = lent sheet (9 ∷ 9 ∷ [])

-- a sheet whose only pair is listed, or is not
abbrev pub MayTrade : List ℕ → Type 0
MayTrade sheet = row sheet ≡ (Ok 1, 0 ∷ 9 ∷ [])

abbrev pub MayNot : List ℕ → Type 0
MayNot sheet = row sheet ≡ (Ok 0, 9 ∷ 9 ∷ [])

-- the table
pub record Rows : Type 0 where
  pub nops : MayTrade (nop ++ nop)
  pub others : MayTrade (add 1 2 3 ++ add 4 5 6)
  pub read_behind : MayNot (add 1 2 3 ++ add 4 1 6)
  pub read_behind_too : MayNot (add 1 2 3 ++ add 4 5 1)
  pub written_behind : MayNot (add 1 4 5 ++ add 4 2 3)
  pub written_behind_too : MayNot (add 1 4 5 ++ add 5 2 3)
  pub both_write : MayNot (add 1 2 3 ++ add 1 4 5)
  pub into_zero : MayNot (add 0 1 2 ++ add 1 0 3)
  pub both_into_zero : MayTrade (add 0 1 2 ++ add 0 3 4)
  pub halves : MayNot (ldil 1 ++ ldih 1)
  pub other_halves : MayTrade (ldil 1 ++ ldih 2)
  pub half_read : MayNot (ldil 1 ++ add 3 1 2)
  pub slow : MayTrade (three 0x1B 1 2 3 ++ three 0x1D 4 5 6)
  pub addi_reads : MayNot (addi 1 ++ add 2 3 4)
  pub addi_beside : MayTrade (addi 1 ++ addi 3)
  pub load_first : MayNot (ld 1 ++ nop)
  pub load_behind : MayNot (nop ++ ld 1)
  pub all_three : row (nop ++ nop ++ nop) ≡ (Ok 2, 0 ∷ 1 ∷ [])
  pub second_only : row (ld 1 ++ nop ++ nop) ≡ (Ok 1, 1 ∷ 9 ∷ [])
  -- no pair, and so no entry is needed
  pub one : lent nop [] ≡ (Ok 0, [])
  pub empty : lent [] [] ≡ (Ok 0, [])
  -- 15, behind 6, 5 and 1
  pub short : lent (nop ++ nop) [] ≡ (Err ShortList, [])
  pub shorter : lent (nop ++ nop ++ nop) (9 ∷ []) ≡ (Err ShortList, 9 ∷ [])
  pub no_place : lent (ld 1 ++ nop) [] ≡ (Err ShortList, [])
  pub length : lent (nop ++ unknown ++ above ++ 0x00 ∷ []) [] ≡ (Err BadLength, [])
  pub command : lent (nop ++ unknown ++ above) (9 ∷ []) ≡ (Err BadCommand, 9 ∷ [])
  pub register : lent (nop ++ above ++ unknown) (9 ∷ []) ≡ (Err BadRegister, 9 ∷ [])
