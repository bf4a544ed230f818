-- The rows, by computation. Assumes nothing.
use mathlib.Core.Path.{refl}
use Rattle.accuracy.specs.Accuracy.{begin, one, one_by}
use Rattle.accuracy.specs.Asking.{replies}
use Rattle.accuracy.specs.Samples.{nothing, source_of}
use Rattle.latch.specs.Memory.{request_in}
use Rattle.cardlog.specs.Bytes.{access_bytes, bytes, bytes_of, four}
use Rattle.cardlog.specs.Events.{access_events, cpuid_events, dest_events, retire_events}
use Rattle.cardlog.specs.Reading.{access_in, entry_in, found_in, moved, read, retired_in, word_at, written_in}
use Rattle.cardlog.specs.Writing.{fits, laid}
use Rattle.logging.specs.Logging.{events, fitted, free_by, log_after, log_by, logged, logging_tick, tick_events}
use Rattle.logs.specs.Logs.{happened, keep, kept, result_of, unless_refused}
use Rattle.logs.specs.Rows.{Rows, add_and_halt, both, card, entries_of, halted, held, released, start, ticks}
use Rattle.logs.specs.Rows.{twice}
use Rattle.pipeline.proofs.OnLiterals.{pipeline_on_literals}
use Rattle.pipeline.specs.Tick.{handed_back}

pub rows : Rows
unfolding pipeline_on_literals request_in access_bytes access_events access_in add_and_halt begin both bytes bytes_of
    card cpuid_events dest_events entry_in events entries_of fits fitted found_in four free_by halted handed_back
    happened held keep kept laid log_after log_by logged logging_tick moved nothing one one_by read released
    replies result_of retire_events retired_in source_of start tick_events ticks twice unless_refused word_at written_in
rows = record {
  quiet = refl;
  halt = refl;
  halt_free = refl;
  zero = refl;
  cpuid = refl;
  cpuid_and_destination = refl;
  load = refl;
  load_retired = refl;
  narrow_load = refl;
  narrow_store = refl;
  load_and_store = refl;
  no_width = refl;
  behind_halt = refl;
  in_wait = refl;
  in_memory_wait = (refl, (refl, refl));
  behind_memory_wait = refl;
  room = refl;
  no_room = refl;
  full = refl;
  at_end = refl;
  past_end = refl;
  far_past_end = refl;
  empty = refl;
  behind_end = refl;
  unknown = refl;
  short = refl;
  short_first = refl;
  register_0 = refl;
  register_32 = refl;
  width_3 = refl;
  width_0 = refl;
}
