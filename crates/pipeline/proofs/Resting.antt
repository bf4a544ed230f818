-- A tick that moves nothing. Assumes nothing.
use mathlib.Core.Bool.{Bool, ◌&&◌, cond, false, true}
use mathlib.Core.Path.{◌∙◌, ◌≡◌, ap, refl}
use Rattle.std.specs.Bool.{then_some}
use Rattle.std.specs.Prelude.{◌+◌, ℕ, [], None}
use Rattle.isa.proofs.Bools.{split}
use Rattle.latch.specs.Memory.{request_in, requests}
use Rattle.stages.proofs.Counted.{none_retires}
use Rattle.stages.specs.Advance.{awake, wait_for_memory, waits_for_memory}
use Rattle.stages.specs.Counting.{count_idle, count_retired, counted, counter_full, unless_full}
use Rattle.stages.specs.Fetch.{fetches}
use Rattle.stages.specs.Loads.{loads_in, want_load}
use Rattle.stages.specs.Retire.{retire_stages}
use Rattle.pipeline.specs.Advance.{idle, move_of, next, resting, waiting}
use Rattle.pipeline.specs.Ask.{asks, fetch_at, fetch_wanted, want_fetch, want_origins, want_special, wanted}
use Rattle.pipeline.specs.Names.{Counters, Given, PipelineCpu, Stages, Taken, Wanted, keep_waiting}
use Rattle.pipeline.specs.Retire.{retire}
use Rattle.pipeline.specs.Tick.{given_tests, wanted_tests}

-- one of a wait for the memory, by the stages l and the counters c then
pub waits_by : (s : PipelineCpu) → counter_full s.counts ≡ false → (l : Stages) (c : Counters)
    → l ≡ wait_for_memory s.stages
    → c ≡ unless_full s.counts (counted keep_waiting (count_retired false s.counts))
    → record { reg = s.reg; stages = l; counts = c } ≡ waiting s
unfolding waiting unless_full
waits_by s r l c el ec = rw (el, ec, r, none_retires s.counts)

pub waits_rest : (s : PipelineCpu) → waits_for_memory s.stages ≡ true → waiting s ≡ resting s
unfolding resting
waits_rest s e = rw e

-- one of a machine that does not run
pub idles_by : (s : PipelineCpu) → counter_full s.counts ≡ false → waits_for_memory s.stages ≡ false → (c : Counters)
    → c ≡ unless_full s.counts (count_idle s.counts)
    → record { reg = s.reg; stages = s.stages; counts = c } ≡ resting s
unfolding resting idle unless_full
idles_by s r e c ec = rw (e, ec, r)

-- what either leaves alone in state s, and that it counts a tick
pub record Rests (s s' : PipelineCpu) : Type 0 where
  pub reg : s'.reg ≡ s.reg
  pub running : s'.stages.running ≡ s.stages.running
  pub place : s'.stages.retire_at ≡ s.stages.retire_at
  pub if_id : s'.stages.if_id ≡ s.stages.if_id
  pub id_ex : s'.stages.id_ex ≡ s.stages.id_ex
  pub retired : s'.counts.instructions_executed ≡ s.counts.instructions_executed
  pub ticks : s'.counts.cycles ≡ s.counts.cycles + 1

-- n: the ticks left of a wait; a, b, d: running ticks, stalls, flushes
rests_by : (s : PipelineCpu) (n a b d : ℕ) → Rests s (record {
  reg = s.reg;
  stages = record s.stages { wait_left = n };
  counts = record {
    cycles = s.counts.cycles + 1;
    running_cycles = a;
    instructions_executed = s.counts.instructions_executed;
    stall_cycles = b;
    flush_events = d;
  };
})
rests_by s n a b d = record {
  reg = refl;
  running = refl;
  place = refl;
  if_id = refl;
  id_ex = refl;
  retired = refl;
  ticks = refl;
}

pub rests : (s : PipelineCpu) → Rests s (resting s)
unfolding resting waiting wait_for_memory counted idle count_idle
rests s = split (waits_for_memory s.stages)
    (λ e. rw e (rests_by s _ _ _ _))
    (λ e. rw e (rests_by s s.stages.wait_left _ _ _))

module _ (s : PipelineCpu) (e : awake s.stages ≡ false) where
  pub rest_next : (x : Taken) → resting s ≡ next s x
  unfolding next
  rest_next x = rw e

  -- nothing is wanted
  pub rest_fetch : fetch_wanted s ≡ None
  unfolding fetch_wanted want_fetch
  rest_fetch = ap (λ (b : Bool). then_some (b && ((retire s).stages.running && fetches (move_of (retire s)))) (fetch_at s)) e

  pub rest_load : want_load s.stages ≡ false
  unfolding want_load
  rest_load = ap (λ (b : Bool). b && loads_in (retire_stages s.stages)) e

  pub rest_asks : asks s.stages ≡ []
  unfolding asks
  rest_asks = ap (λ (b : Bool). cond b (requests (retire_stages s.stages).ex_mem) []) e

  rest_special : want_special s ≡ None
  unfolding want_special
  rest_special = rw e

  pub rest_given : (t : Given) → given_tests None false None t ≡ wanted_tests s t
  unfolding wanted_tests
  rest_given t = rw (rest_fetch, rest_load, rest_special)

  pub rest_wants : (w : Wanted) → w.fetch ≡ None → w.request ≡ None → w.special ≡ None → w.origins ≡ None → w ≡ wanted s
  unfolding wanted asks want_origins request_in
  rest_wants w ef eq es eo =
      (λ i. record { fetch = ef i; request = eq i; special = es i; origins = eo i }) ∙ rw (rest_fetch, rest_special, e)
