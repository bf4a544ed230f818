-- What rows of ticks are made of.
use Rattle.std.specs.Prelude.{◌/◌, slice_index_or, List, None, Some}
use Rattle.isa.specs.Machine.{Source}
use Rattle.accuracy.specs.Names.{Given, Instruction, RawNormal, Unknown}

-- these instructions at addresses 0, 4 and so on, and no special register
unfoldable pub source_of : List Instruction → Source
source_of is = record {
  raw = λ p m. RawNormal (slice_index_or is (p / 4) (Unknown 0 0));
  table = λ n. Some None;
}

-- a tick that is given nothing
unfoldable pub nothing : Given
nothing = record { offer = None; answer = None; special = None; fetch_wait = 0; load_wait = 0 }
