-- What the entries of a log say: registers, retirements, loads and stores.
use Rattle.std.specs.Prelude.{pred, suc, ℕ, set, List, [], ◌++◌, ◌∷◌, ◌≡◌}
use Rattle.std.specs.List.{flat_map}
use Rattle.isa.specs.Machine.{Arch, Program, machine}
use Rattle.isa.specs.Registers.{read_reg}
use Rattle.accuracy.specs.Count.{path}
use Rattle.logs.specs.Names.{Event, Load, Loaded, Request, Retired, Store, Stored, Written}

-- the 81 entries laid over registers
unfoldable pub laid_over : List Event → List ℕ → List ℕ
laid_over [] rs = rs
laid_over (Written register word ∷ es) rs = laid_over es (set rs register word)
laid_over (e ∷ es) rs = laid_over es rs

-- how many 80 entries there are
unfoldable pub retirements : List Event → ℕ
retirements [] = 0
retirements (Retired pc ∷ es) = suc (retirements es)
retirements (e ∷ es) = retirements es

-- the load or store of an 82 or 83 entry, without a load's word
unfoldable pub request_said : Event → List Request
request_said (Loaded addr width word) = Load addr width ∷ []
request_said (Stored addr width word) = Store addr width word ∷ []
request_said e = []

abbrev pub requests_in : List Event → List Request
requests_in es = flat_map request_said es

-- the word of an 82 entry
unfoldable pub word_said : Event → List ℕ
word_said (Loaded addr width word) = word ∷ []
word_said e = []

abbrev pub loaded : List Event → List ℕ
loaded es = flat_map word_said es

-- The N-th 80 entry, with the entries `before` it and the 81 entries directly behind it: its address is that of the
-- machine's N-th instruction; the loads and stores before it are the machine's by then; the 81 entries up to there,
-- laid over registers rs, give the machine's registers after N instructions.
pub record Entered (prog : Program) (w : Arch) (rs : List ℕ) (es before : List Event) (N : ℕ) : Type 0 where
  pub writes : List Event
  pub behind : List Event
  pub split : es ≡ before ++ (Retired (path prog w (pred N)).pc ∷ (writes ++ behind))
  pub nth : suc (retirements before) ≡ N
  pub only_writes : (retirements writes ≡ 0) × (requests_in writes ≡ [])
  pub requests : requests_in before ≡ (machine prog w N).arch.requests
  pub reg : (r : ℕ) → read_reg (laid_over (before ++ writes) rs) r ≡ read_reg (machine prog w N).arch.reg r
