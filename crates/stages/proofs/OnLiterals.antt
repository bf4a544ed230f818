-- One name that opens this crate's definitions and those below, for proofs by computation. Assumes nothing.
use Rattle.std.specs.Prelude.{⊤}
use Rattle.stages.specs.Advance.{advance_by, advance_stages, awake, id_ex_after, if_id_after, place_after, wait_after}
use Rattle.stages.specs.Advance.{wait_for_memory, waits_for_memory}
use Rattle.stages.specs.Counting.{count_idle, count_retired, counted, counter_full, flushes, is_full, stalls}
use Rattle.stages.specs.Execute.{effect_for, executed, executed_by, inquiry_by, inquiry_of, redirect_by, redirect_of}
use Rattle.stages.specs.Fetch.{fetch_from, fetch_place, fetched, fetches, next_id_ex, place_or, predicted}
use Rattle.stages.specs.Loads.{loads_in, want_load}
use Rattle.stages.specs.Move.{begins_wait, free_move, hazard, inquiry_in, is_slow, is_wait, move, move_from}
use Rattle.stages.specs.Move.{next_ex_mem, proceed_or, waits_on}
use Rattle.stages.specs.Refusals.{faulty, out_of_bounds}
use Rattle.stages.specs.Retire.{retire_stages}
use Rattle.latch.proofs.OnLiterals.{latch_on_literals}

unfoldable pub stages_on_literals : ⊤
unfolding latch_on_literals advance_by advance_stages awake id_ex_after if_id_after place_after wait_after
    wait_for_memory waits_for_memory count_idle
    count_retired counted counter_full flushes is_full stalls effect_for executed executed_by inquiry_by inquiry_of
    redirect_by redirect_of fetch_from fetch_place fetched fetches next_id_ex place_or predicted loads_in want_load
    begins_wait free_move hazard inquiry_in is_slow is_wait move move_from next_ex_mem proceed_or waits_on faulty
    out_of_bounds retire_stages
stages_on_literals = tt
