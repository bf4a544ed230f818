-- The rows of the waits, by computation. Assumes nothing.
use mathlib.Core.Path.{refl}
use Rattle.latch.specs.Memory.{request_in}
use Rattle.pipeline.proofs.OnLiterals.{pipeline_on_literals}
use Rattle.pipeline.specs.Ask.{ask, origins_in, want_origins, wanted}
use Rattle.pipeline.specs.Parts.{retired}
use Rattle.stages.specs.Refusals.{faulty_alone}
use Rattle.accuracy.specs.Accuracy.{after, begin, one, one_by}
use Rattle.accuracy.specs.Samples.{nothing, source_of}
use Rattle.accuracy.specs.Waits.{WaitRows, branching, delayed_replies, delayed_run, fault_latch, given, halt_latch}
use Rattle.accuracy.specs.Waits.{in_wait, loading, multiplying, outcome, seen, state, unasked, with_waits}

pub wait_rows : WaitRows
unfolding pipeline_on_literals after ask begin branching delayed_replies delayed_run fault_latch faulty_alone given
    halt_latch in_wait loading multiplying nothing one one_by origins_in outcome request_in retired seen source_of state
    unasked want_origins wanted with_waits
wait_rows = record {
  fetch_most = refl;
  fetch_over = refl;
  no_load = refl;
  answer_first = refl;
  goes_on = refl;
  no_offer = refl;
  register_first = refl;
  no_answer = refl;
  no_wait = refl;
  most = refl;
  over = refl;
  stopped = refl;
  fault_asked = refl;
  fault_ticked = refl;
  fault_retired = refl;
  halt_retired = refl;
  halt_runs = refl;
  halt = refl;
  halts_runs = refl;
  halts = refl;
  branch_runs = refl;
  branch = refl;
  load_runs = refl;
  load = refl;
  multiply_runs = refl;
  multiply = refl;
}
