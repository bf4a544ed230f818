-- The tick: refusals 11, 12, 13, 1, 3, 4, 10, 24 in this order, or the next state.
use Rattle.std.specs.Prelude.{◌+◌, ℕ, nat_lt, Bool, ◌&&◌, ◌||◌, false, not, true, Option, None, Some, is_some}
use Rattle.std.specs.Prelude.{Result, Ok, Err}
use Rattle.isa.specs.Refusals.{is_of, ok_raw}
use Rattle.stages.specs.Loads.{want_load}
use Rattle.stages.specs.Refusals.{faulty}
use Rattle.pipeline.specs.Advance.{next}
use Rattle.pipeline.specs.Ask.{fetch_wanted, want_special}
use Rattle.pipeline.specs.Names.{BadAnswer, BadOffer, BadRegister, BadSpecial, BadWait, Given, Nop, PipelineCpu}
use Rattle.pipeline.specs.Names.{Place, RawInstr, RawNormal, Refusal, Taken, Ticked}
use Rattle.pipeline.specs.Refusals.{Tests, and_then, pass, state_tests, test, verdict}

-- 1 where it fails: no register of what is offered is above 31
unfoldable pub ok_offer : Option RawInstr → Bool
ok_offer None = true
ok_offer (Some i) = ok_raw i

-- 3 where it fails: an offer of the mode that is wanted, or none where no fetch is
unfoldable pub fits_offer : Option Place → Option RawInstr → Bool
fits_offer (Some p) None = false
fits_offer (Some p) (Some i) = is_of p.mode i
fits_offer None None = true
fits_offer None (Some i) = false

-- 4 where it fails: an answer exactly where a load is wanted
unfoldable pub same : Bool → Bool → Bool
same true b = b
same false b = not b

-- 10 where it fails: something said exactly where a special register is asked for
unfoldable pub fits_special : Option ℕ → Option (Option ℕ) → Bool
fits_special q c = same (is_some q) (is_some c)

-- 24: a wait above 1,000, or above 0 where nothing is wanted that could wait
unfoldable pub bad_wait : Bool → ℕ → Bool
bad_wait wanted n = nat_lt 1000 n || (not wanted && nat_lt 0 n)

-- what the tick takes in
unfoldable pub raw_of : Option RawInstr → RawInstr
raw_of None = RawNormal Nop
raw_of (Some i) = i

unfoldable pub word_in : Option ℕ → ℕ
word_in None = 0
word_in (Some v) = v

-- the waits told in one tick add up
unfoldable pub wait_of : Given → ℕ
wait_of t = t.fetch_wait + t.load_wait

unfoldable pub taken : Given → Taken
taken t = record {
  answer = word_in t.answer;
  raw = raw_of t.offer;
  special = t.special;
  wait = wait_of t;
}

-- what the tick is given, where a fetch, a load or a special register is wanted
unfoldable pub given_tests : Option Place → Bool → Option ℕ → Given → Tests
given_tests fetch load q t =
    test (not (ok_offer t.offer)) BadRegister
    (test (not (fits_offer fetch t.offer)) BadOffer
    (test (not (same load (is_some t.answer))) BadAnswer
    (test (not (fits_special q t.special)) BadSpecial
    (test (bad_wait (is_some fetch) t.fetch_wait || bad_wait load t.load_wait) BadWait
    pass))))

-- the same where a state wants them
unfoldable pub wanted_tests : PipelineCpu → Given → Tests
wanted_tests s t = given_tests (fetch_wanted s) (want_load s.stages) (want_special s) t

unfoldable pub tests : PipelineCpu → Given → Tests
tests s t = and_then (state_tests (faulty s.stages) s) (wanted_tests s t)

-- the refusal of the first test that holds, or the next state
unfoldable pub tick : PipelineCpu → Given → Result PipelineCpu Refusal
tick s t = verdict (tests s t) (next s (taken t))

-- what is handed back: the next state, or the very state given where the tick was refused
unfoldable pub handed_back : Result PipelineCpu Refusal → PipelineCpu → Ticked
handed_back (Err r) s = record { state = s; outcome = Err r }
handed_back (Ok s') s = record { state = s'; outcome = Ok tt }

unfoldable pub ticked : PipelineCpu → Given → Ticked
ticked s t = handed_back (tick s t) s
