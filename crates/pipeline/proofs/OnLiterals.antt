-- One name that opens this crate's definitions and those below, for proofs by computation. Assumes nothing.
use Rattle.std.specs.Prelude.{⊤}
use Rattle.pipeline.specs.Advance.{advance, idle, next, resting, waiting}
use Rattle.pipeline.specs.Ask.{asks, fetch_at, fetch_wanted, want_fetch, want_special}
use Rattle.pipeline.specs.Refusals.{and_then, state_tests, verdict}
use Rattle.pipeline.specs.Retire.{retire}
use Rattle.pipeline.specs.Start.{fresh}
use Rattle.pipeline.specs.Tick.{bad_wait, fits_offer, fits_special, given_tests, ok_offer, raw_of, same, taken}
use Rattle.pipeline.specs.Tick.{tests, tick, wait_of, wanted_tests, word_in}
use Rattle.pipeline.specs.Turn.{reply}
use Rattle.stages.proofs.OnLiterals.{stages_on_literals}

unfoldable pub pipeline_on_literals : ⊤
unfolding stages_on_literals advance idle next resting waiting asks fetch_at fetch_wanted want_fetch want_special
    and_then state_tests verdict retire fresh bad_wait fits_offer fits_special given_tests ok_offer raw_of same taken tests tick
    wait_of wanted_tests word_in reply
pipeline_on_literals = tt
