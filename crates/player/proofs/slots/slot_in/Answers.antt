-- A slot that stands in its place is that of the address and mode; so is one that is put there.
use borrow.Author.Tests.{eqb-true}
use denote.Enum.Bare.{same_true}
use Rattle.std.proofs.Common.{◌∙◌, arith, rules, sym}
use Rattle.std.proofs.lemmas.List.Elements.{All-set}
use Rattle.std.proofs.lemmas.Bool.{and_parts, not-false}
use Rattle.isa.specs.contracts.Mode.{the_type}
use Rattle.player.proofs.Kept.{found, own, put}
use Rattle.player.specs.Inner.{IsOwn}
use Rattle.player.proofs.slots.slot_in.Goals as goal
use Rattle.player.proofs.slots.slot_in.Goals.{then-ne, else-ne}

pub returns-clause-slot : goal.returns-clause-slot
returns-clause-slot c =
    elim c.if-ne.branch [
      | then-ne w ↦ put _ _ _ _ _ _ _ _ w.slots-is w.at.ensures (omega (arith, c.told-slots))
      | else-ne w ↦
          let e = not-false _ (sym c.ne.ensures ∙ w.if-ne.false) in
          rw w.slots-is (found _ _ _ _ _ _ c.requires (omega (arith, c.told-slots))
          (eqb-true _ _ (and_parts _ _ e).0) (same_true the_type (search rules) _ _ (and_parts _ _ e).1))
    ]

pub returns-clause-kept : goal.returns-clause-kept
returns-clause-kept c =
    elim c.if-ne.branch [
      | then-ne w ↦ rw w.slots-is (All-set (IsOwn _) _ _ _ (own _ _ _ _ w.at.ensures) c.requires)
      | else-ne w ↦ rw w.slots-is c.requires
    ]
