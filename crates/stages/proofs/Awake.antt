-- When a tick moves. Assumes nothing.
use mathlib.Core.Bool.{Bool, ◌&&◌, and-false, false, not, true}
use mathlib.Core.Path.{◌∙◌, ◌≡◌, ap, sym}
use Rattle.std.proofs.lemmas.Bool.{and_parts, not-false, not-true}
use Rattle.stages.specs.Advance.{awake, waits_for_memory}
use Rattle.stages.specs.Names.{Stages}

module _ (l : Stages) where
  -- that of a running machine moves, unless it waits for the memory
  pub runs_awake : l.running ≡ true → waits_for_memory l ≡ false → awake l ≡ true
  unfolding awake
  runs_awake r w = ap (λ (b : Bool). b && not (waits_for_memory l)) r ∙ ap not w

  -- one that moves does not wait
  pub awake_free : awake l ≡ true → waits_for_memory l ≡ false
  unfolding awake
  awake_free e = not-true _ (and_parts l.running (not (waits_for_memory l)) e).1

  -- neither a wait moves nor a machine that does not run
  pub waits_asleep : waits_for_memory l ≡ true → awake l ≡ false
  unfolding awake
  waits_asleep w = ap (λ (b : Bool). l.running && not b) w ∙ and-false l.running

  pub stopped_asleep : l.running ≡ false → awake l ≡ false
  unfolding awake
  stopped_asleep r = ap (λ (b : Bool). b && not (waits_for_memory l)) r

  -- and nothing else is still
  pub asleep_waits : l.running ≡ true → awake l ≡ false → waits_for_memory l ≡ true
  unfolding awake
  asleep_waits r e = not-false _ (sym (ap (λ (b : Bool). b && not (waits_for_memory l)) r) ∙ e)
