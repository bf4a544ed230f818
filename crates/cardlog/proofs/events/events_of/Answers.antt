-- The five places hold the events that MEM/WB retires and the one that is asked for.
use Rattle.std.proofs.Common.{ℕ, ◌≡◌, Bool, ◌&&◌, cond, false, true, List, [], ◌∷◌, ◌++◌, append-nil}
use Rattle.std.proofs.Common.{option_to_list, refl}
use Rattle.std.specs.Bool.{then_some}
use Rattle.isa.specs.Registers.{processor_name}
use Rattle.cardlog.specs.Events.{cpuid_events, present, retire_events}
use Rattle.cardlog.specs.Names.{Event, Retired, Written}
use Rattle.cardlog.proofs.events.events_of.Goals as goal

-- d: what is written of the destination; es: what is asked for
retired_by : (valid cpuid writeback : Bool) (pc features : ℕ) (d es : List Event)
    → option_to_list (then_some valid (Retired pc))
    ++ (option_to_list (then_some (valid && cpuid) (Written 1 processor_name))
    ++ (option_to_list (then_some (valid && cpuid) (Written 2 features)) ++ (cond (valid && writeback) d [] ++ es)))
    ≡ cond valid (Retired pc ∷ cpuid_events cpuid features ++ cond writeback d []) [] ++ es
unfolding cpuid_events
retired_by true true writeback pc features d es = refl
retired_by true false writeback pc features d es = refl
retired_by false cpuid writeback pc features d es = refl

pub returns : goal.returns
unfolding present retire_events
returns c =
    let w = c.args.w in
    let d = c.written-dest.ensures in
    let e = c.access.ensures in
    rw (c.then_some-retired.ensures, c.then_some-r1.ensures, c.then_some-r2.ensures, d, e, append-nil)
    (retired_by w.valid w.cpuid w.writeback w.pc c.args.features _ _)
