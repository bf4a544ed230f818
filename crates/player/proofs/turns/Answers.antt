-- A turn ends the play or does one instruction.
use Rattle.std.proofs.Common.{◌∙◌, sym, arith, refl, sym}
use Rattle.std.proofs.lemmas.List.Elements.{All-replicate}
use Rattle.isa.specs.Machine.{arch_with}
use Rattle.player.proofs.Kept.{own}
use Rattle.player.proofs.Loop.{begins, goes, halted_is, spent_is, stops_is}
use Rattle.player.specs.Inner.{IsOwn}
use Rattle.player.proofs.turns.Goals as goal

pub loop-done-init : goal.loop-done-init
unfolding arch_with
loop-done-init c =
    begins _ _ _ _ _ _ _ refl (All-replicate (IsOwn _) 512 _ (own _ _ _ _ c.at-slots.ensures))

pub returns-in-Some : goal.returns-in-Some
returns-in-Some c =
    c.new.ensures ∙ rw c.values_at.ensures (stops_is c.loop-done.invariant c.loop-done-test.true c.slot_in-s.ensures.slot
    c.effect-e.ensures (sym c.in-Some.ensures))

pub returns-then-e : goal.returns-then-e
returns-then-e c =
    c.new-then-e.ensures ∙ rw c.values_at-values.ensures (halted_is c.loop-done.invariant c.loop-done-test.true
    c.slot_in-s.ensures.slot c.effect-e.ensures (sym c.in_default.ensures) c.value_of-value.ensures c.write.ensures
    c.next-at.ensures c.used_after-used.ensures c.if-e.true)

pub loop-done-preserved : goal.loop-done-preserved
loop-done-preserved c =
    goes c.loop-done.invariant c.loop-done-test.true c.slot_in-s.ensures.slot c.effect-e.ensures
    (sym c.in_default.ensures) c.value_of-value.ensures c.write.ensures c.next-at.ensures c.used_after-used.ensures
    c.if-e.false c.slot_in-s.ensures.kept

pub returns : goal.returns
returns c = c.new-2.ensures ∙ rw c.values_at-2.ensures (spent_is c.loop-done.invariant (omega arith))
