-- The origins that asking shows are those of the tick's execution. Assumes nothing.
use mathlib.Core.Bool.{Bool, ◌||◌, cond, false, not, true}
use mathlib.Core.Path.{◌∙◌, ◌≡◌, ap, refl, sym}
use Rattle.std.specs.Prelude.{None, Ok, Some}
use Rattle.isa.specs.Inquiries.{fill}
use Rattle.latch.specs.Execute.{ex_mem_of}
use Rattle.latch.specs.Latches.{empty_ex_mem}
use Rattle.pipeline.specs.Advance.{advance, move_of, next}
use Rattle.pipeline.specs.Ask.{origins_in, want_origins, want_special}
use Rattle.pipeline.specs.Parts.{execute_part}
use Rattle.pipeline.specs.Retire.{retire}
use Rattle.pipeline.specs.Tick.{taken, tick}
use Rattle.stages.specs.Advance.{advance_by, advance_stages, awake}
use Rattle.stages.specs.Execute.{effect_for, executed, executed_by, inquiry_by, inquiry_of}
use Rattle.stages.specs.Forwarding.{origins_for}
use Rattle.stages.specs.Move.{inquiry_in, is_wait, next_ex_mem}
use Rattle.stages.specs.Refusals.{out_of_bounds}
use Rattle.accuracy.proofs.Bounds.{Within, in_bounds, retire_in, within}
use Rattle.accuracy.proofs.Took.{took}
use Rattle.accuracy.specs.Asking.{Executes}
use Rattle.accuracy.specs.Names.{ExMem, Given, Origins, PipelineCpu}

-- origins p are shown as o only in a tick that moves (a), in no wait in EX (w), of a valid latch (v)
record Tells (a w v : Bool) (p o : Origins) : Type 0 where
  awake : a ≡ true
  moves : w ≡ false
  valid : v ≡ true
  is : p ≡ o

tells : (a w v : Bool) (p o : Origins) → cond a (cond (w || not v) None (Some p)) None ≡ Some o
    → Tells a w v p o
tells false w v p o e = record { awake = cc; moves = cc; valid = cc; is = cc }
tells true true v p o e = record { awake = cc; moves = cc; valid = cc; is = cc }
tells true false false p o e = record { awake = cc; moves = cc; valid = cc; is = cc }
tells true false true p o e = record { awake = refl; moves = refl; valid = refl; is = cc }

-- none are shown in a tick that moves only in a wait in EX or where the latch is invalid: EX/MEM x is then empty
empties : (a w v : Bool) (p : Origins) (x : ExMem) → a ≡ true
    → cond a (cond (w || not v) None (Some p)) None ≡ None
    → cond w empty_ex_mem (cond v x empty_ex_mem) ≡ empty_ex_mem
empties false w v p x r e = cc
empties true true v p x r e = refl
empties true false false p x r e = refl
empties true false true p x r e = cc

module _ (s s' : PipelineCpu) (t : Given) where
  -- the EX/MEM that a tick that moves leaves
  left : tick s t ≡ Ok s' → awake s.stages ≡ true
      → let s₁ = retire s in
      s'.stages.ex_mem ≡ next_ex_mem (move_of s₁) s₁.stages s₁.reg t.special
  unfolding next advance advance_stages advance_by taken
  left h a = ap (λ (x : PipelineCpu). x.stages.ex_mem) (sym (took s t s' h).is) ∙ rw a

  -- retirement keeps the bounds
  bounded : out_of_bounds s.stages ≡ false → Within (retire s).stages
  unfolding retire
  bounded b = retire_in s.stages (within s.stages b)

  pub shows : (o : Origins) → want_origins s ≡ Some o → tick s t ≡ Ok s'
      → Executes s t.special s'.stages.ex_mem o
  unfolding execute_part want_origins origins_in want_special inquiry_in inquiry_of inquiry_by next_ex_mem executed
      executed_by
  shows o e h =
      let s₁ = retire s in
      let d = s₁.stages.id_ex in
      let k = tells (awake s.stages) (is_wait (move_of s₁)) d.valid (origins_for s₁.stages d) o e in
      let x = took s t s' h in
      let b = bounded x.bounds in
      let f = rw (k.awake, k.moves, k.valid) at x.special in
      rw (in_bounds _ b, b.id_ex, f, left h k.awake, k.moves, k.valid, k.is)

  pub hides : want_origins s ≡ None → tick s t ≡ Ok s' → awake s.stages ≡ true
      → s'.stages.ex_mem ≡ empty_ex_mem
  unfolding want_origins origins_in next_ex_mem executed executed_by
  hides e h r =
      let s₁ = retire s in
      let d = s₁.stages.id_ex in
      left h r ∙ empties (awake s.stages) (is_wait (move_of s₁)) d.valid (origins_for s₁.stages d)
      (ex_mem_of d (fill t.special (effect_for s₁.stages s₁.reg d))) r e
