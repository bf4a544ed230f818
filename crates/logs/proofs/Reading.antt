-- Reading what a list of ticks wrote gives its events. Assumes nothing.
use Prim.Native.Nat.{◌≤◌, ℕ}
use lib.ListN.{length, length-append, take}
use lib.Seq.{length-take-le}
use mathlib.Core.Bool.{true}
use mathlib.Core.List.{List, [], ◌++◌, ◌∷◌, append_assoc}
use mathlib.Core.Path.{◌≡◌, refl}
use Rattle.std.proofs.lemmas.Bool.{and_parts}
use Rattle.cardlog.proofs.RoundTrip.{is_taken, read_end, read_event}
use Rattle.cardlog.specs.Bytes.{bytes, bytes_of}
use Rattle.logs.proofs.Along.{along, from}
use Rattle.logs.proofs.Laid.{front}
use Rattle.logs.proofs.Taken.{all_taken, taken_along}
use Rattle.logs.specs.Logs.{Kept, Reads, done, happened, kept}
use Rattle.logs.specs.Names.{Event, Given}

-- events in a row, whatever stands before them
pub round_trip : (es : List Event) (pre : List ℕ) → all_taken es ≡ true → Reads (pre ++ bytes es) (length pre) es
unfolding Reads bytes all_taken
round_trip [] pre h = read_end pre
round_trip (e ∷ es) pre h = let x = and_parts (is_taken e) (all_taken es) h in (
  read_event e pre (bytes es) x.0,
  rw (length-append pre (bytes_of e), append_assoc pre (bytes_of e) (bytes es)) at
      (round_trip es (pre ++ bytes_of e) x.1),
)

pub taken_all : (ts : List Given) (k : Kept) → all_taken (happened k ts) ≡ true
taken_all ts k =
    let x = along ts k (from k.state) refl in rw (← x.0) (taken_along (done k ts) (from k.state))

pub reads : (k : Kept) (ts : List Given) → k.free ≤ length k.log
    → Reads (take (kept k ts).free (kept k ts).log) k.free (happened k ts)
reads k ts h = rw (front k ts h)
    (rw (length-take-le k.free k.log h) at (round_trip (happened k ts) (take k.free k.log) (taken_all ts k)))
