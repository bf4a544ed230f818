-- The events of a tick: what MEM/WB retires, then the load or store that is asked for.
use Rattle.std.specs.Prelude.{ℕ, Bool, cond, false, true, List, [], ◌++◌, ◌∷◌, Option, None, Some, option_to_list}
use Rattle.isa.specs.Registers.{is_reg, processor_name}
use Rattle.cardlog.specs.Names.{Event, Load, Loaded, MemWb, Request, Retired, Store, Stored, Written}

-- CPUID writes R1, then R2
unfoldable pub cpuid_events : Bool → ℕ → List Event
cpuid_events false features = []
cpuid_events true features = Written 1 processor_name ∷ Written 2 features ∷ []

-- a destination is written if it is one of R1 to R31
unfoldable pub dest_events : Option ℕ → ℕ → List Event
dest_events None word = []
dest_events (Some d) word = cond (is_reg d) (Written d word ∷ []) []

-- MEM/WB retires: the instruction, the registers of CPUID, the destination
unfoldable pub retire_events : MemWb → ℕ → List Event
retire_events l features =
    cond l.valid
    (Retired l.pc ∷ cpuid_events l.cpuid features ++ cond l.writeback (dest_events l.dest l.value) [])
    []

-- a load with the word that answers it, or a store with its word as cut
unfoldable pub access_events : Option Request → ℕ → List Event
access_events None answer = []
access_events (Some (Load addr width)) answer = Loaded addr width answer ∷ []
access_events (Some (Store addr width word)) answer = Stored addr width word ∷ []

-- the events in a tick's places, in order; a place may hold none
unfoldable pub present : List (Option Event) → List Event
present [] = []
present (o ∷ os) = option_to_list o ++ present os
