-- Refusals: a list of tests, of which the first that holds refuses; and the tests of a state: 11, 12, 13.
use Rattle.std.specs.Prelude.{Bool, cond, Result, Ok, Err, ⊤}
use Rattle.stages.specs.Counting.{counter_full}
use Rattle.stages.specs.Refusals.{out_of_bounds}
use Rattle.pipeline.specs.Names.{CounterFull, Faulty, OutOfBounds, PipelineCpu, Refusal}

-- a test with its refusal, before other tests
pub data Tests : Type 0 where
  pass : Tests
  test : Bool → Refusal → Tests → Tests

-- the tests of c, then those of d
unfoldable pub and_then : Tests → Tests → Tests
and_then pass d = d
and_then (test b r c) d = test b r (and_then c d)

-- the refusal of the first test that holds; x where none does
unfoldable pub verdict : {A : Type 0} → Tests → A → Result A Refusal
verdict pass x = Ok x
verdict (test b r c) x = cond b (Err r) (verdict c x)

-- the same with nothing to hand back
abbrev pub checked : Tests → Result ⊤ Refusal
checked c = verdict c tt

-- 11, 12, 13; f: whether 12 applies
unfoldable pub state_tests : Bool → PipelineCpu → Tests
state_tests f s = test (out_of_bounds s.stages) OutOfBounds (test f Faulty (test (counter_full s.counts) CounterFull pass))
