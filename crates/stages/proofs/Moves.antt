-- The plan of a tick in which no wait goes on, by its two tests. Assumes nothing.
use Prim.Native.Nat.{ℕ}
use Rattle.std.specs.Prelude.{Option, None, Some}
use mathlib.Core.Bool.{Bool, false, true}
use mathlib.Core.List.{List}
use mathlib.Core.Path.{◌∙◌, ◌≡◌, ap, refl, sym}
use Rattle.stages.specs.Execute.{redirect_of}
use Rattle.stages.specs.Fetch.{fetch_from, fetch_place}
use Rattle.stages.specs.Inner.{held_plan, moved_plan, uses_load}
use Rattle.stages.specs.Move.{begins_wait, free_move, hazard, inquiry_in, is_wait, move_from, proceed_or}
use Rattle.stages.specs.Names.{Front, Place, Stages}
use Rattle.stages.specs.Plans.{front_of, open_ex_mem, plan_of}

moves_on : (u : Bool) (g : Option Place) → is_wait (move_from u g) ≡ false
unfolding is_wait move_from proceed_or
moves_on true g = refl
moves_on false None = refl
moves_on false (Some t) = refl

-- f: IF/ID decoded; u: whether it uses the load in ID/EX
module _ (l : Stages) (rs : List ℕ) (f : Front) (u : Bool) (ef : f ≡ front_of l.if_id)
    (eu : u ≡ uses_load l f.operands) where
  uses : hazard l ≡ u
  unfolding hazard uses_load front_of
  uses = ap (λ (x : Front). uses_load l x.operands) (sym ef) ∙ sym eu

  pub plan_begins : begins_wait l u ≡ true → held_plan l f ≡ plan_of l rs
  unfolding plan_of held_plan free_move fetch_place fetch_from open_ex_mem inquiry_in is_wait
  plan_begins e = rw (ef, ap (begins_wait l) uses ∙ e)

  pub plan_moves : begins_wait l u ≡ false → moved_plan l rs u f ≡ plan_of l rs
  unfolding plan_of moved_plan free_move fetch_place front_of open_ex_mem inquiry_in
  plan_moves e = rw (ef, ap (begins_wait l) uses ∙ e, moves_on (hazard l) (redirect_of l rs), uses)
