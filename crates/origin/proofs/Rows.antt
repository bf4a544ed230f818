-- The rows, by computation. Assumes nothing.
use mathlib.Core.Path.{refl}
use Rattle.latch.proofs.OnLiterals.{latch_on_literals}
use Rattle.origin.specs.Origins.{cpuid_holds, named_origin, older_origin, origin_from, origins_of}
use Rattle.origin.specs.Rows.{Rows, behind, in_ex_mem, in_id_ex}

pub rows : Rows
unfolding latch_on_literals behind cpuid_holds in_ex_mem in_id_ex named_origin older_origin origin_from origins_of
rows = record {
  add = refl;
  ldi = refl;
  beq = refl;
  next = refl;
  second = refl;
  third = refl;
  load = refl;
  cpuid = refl;
  other = refl;
  later = refl;
}
