-- The events in a tick's places, place by place. Assumes nothing.
use Rattle.std.proofs.Common.{ℕ, ◌≡◌, ◌+◌, ◌<◌, ◌≤◌, List, ◌∷◌, length, drop, slice_index_or}
use Rattle.std.proofs.Common.{Option, None, Some, arith, length-append, refl, ◌∙◌}
use Rattle.std.proofs.lemmas.List.{at_drop_more}
use Rattle.cardlog.specs.Bytes.{access_bytes, bytes, bytes_of, four}
use Rattle.cardlog.specs.Events.{present}
use Rattle.cardlog.specs.Names.{Event, Loaded, Retired, Stored, Written}

-- an event takes at most ten bytes
pub few_bytes : (e : Event) → length (bytes_of e) ≤ 10
unfolding bytes_of access_bytes four
few_bytes (Retired pc) = omega arith
few_bytes (Written register word) = omega arith
few_bytes (Loaded addr width word) = omega arith
few_bytes (Stored addr width word) = omega arith

-- and some
pub some_bytes : (e : Event) → 1 ≤ length (bytes_of e)
unfolding bytes_of access_bytes four
some_bytes (Retired pc) = omega arith
some_bytes (Written register word) = omega arith
some_bytes (Loaded addr width word) = omega arith
some_bytes (Stored addr width word) = omega arith

-- from a place on: the event there, if there is one, and then those behind it
pub present_here : (es : List (Option Event)) (i : ℕ) (e : Event) → i < length es → slice_index_or es i None ≡ Some e
    → present (drop i es) ≡ e ∷ present (drop (i + 1) es)
unfolding present
present_here es i e h p = at_drop_more present es i None h ∙ rw p refl

pub absent_here : (es : List (Option Event)) (i : ℕ) → i < length es → slice_index_or es i None ≡ None
    → present (drop i es) ≡ present (drop (i + 1) es)
unfolding present
absent_here es i h p = at_drop_more present es i None h ∙ rw p refl

-- the bytes of the event there stand before the end of all
pub enough : (es : List (Option Event)) (i : ℕ) (e : Event) (next end : ℕ) → i < length es
    → slice_index_or es i None ≡ Some e → next + length (bytes (present (drop i es))) ≡ end
    → next + length (bytes_of e) ≤ end
unfolding bytes
enough es i e next end h p q =
    let rest = bytes (present (drop (i + 1) es)) in
    omega (arith, rw (present_here es i e h p) at q, length-append (bytes_of e) rest)
