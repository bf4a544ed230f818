-- The example, by computation. Assumes nothing.
use mathlib.Core.Path.{refl}
use Rattle.pipeline.proofs.OnLiterals.{pipeline_on_literals}
use Rattle.accuracy.specs.Accuracy.{after, answers, begin, fed, one, one_by}
use Rattle.accuracy.specs.Asking.{replies}
use Rattle.accuracy.specs.Count.{count, divides, is_redirect, multiplies, path, predict_at, redirects, retire_tick}
use Rattle.accuracy.specs.Count.{used_loads}
use Rattle.accuracy.specs.Example.{Example, due, program, source, start, ticks}
use Rattle.accuracy.specs.Samples.{nothing, source_of}

pub example : Example
unfolding pipeline_on_literals after answers begin count divides due fed is_redirect multiplies nothing one one_by
    path predict_at program redirects replies retire_tick source source_of start ticks used_loads
example = record { accepted = refl; retired = refl; due = refl }
