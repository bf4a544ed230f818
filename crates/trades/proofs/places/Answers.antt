-- Refused, or the list gets the places of all pairs.
use Rattle.std.proofs.Common.{arith, refl, sym, ◌∙◌}
use Rattle.std.proofs.lemmas.Result.{err_from_is_err_and}
use Rattle.trades.specs.Trades.{count_by, list_by, places, places_count, places_list}
use Rattle.trades.proofs.Checked.{accepted, few}
use Rattle.trades.proofs.places.Goals as goal

pub returns-in_err-check_places-clause-count : goal.returns-in_err-check_places-clause-count
unfolding places_count count_by
returns-in_err-check_places-clause-count c =
    let p = err_from_is_err_and c.from_residual.result c.from_residual.ensures.1 in
    rw (p.1, p.2, sym c.check_places.ensures ∙ c.in_err-check_places.was) refl

pub returns-in_err-check_places-clause-list : goal.returns-in_err-check_places-clause-list
unfolding places_list list_by
returns-in_err-check_places-clause-list c = rw (sym c.check_places.ensures ∙ c.in_err-check_places.was) refl

pub overflow_cast-pairs : goal.overflow_cast-pairs
overflow_cast-pairs c =
    rw c.pairs.ensures
    (let a = accepted c.args.sheet.now _ (sym c.check_places.ensures ∙ c.in_ok-check_places.was) in
    omega (arith, few c.args.sheet.now a.0))

pub put-requires : goal.put-requires
put-requires c =
    rw c.pairs.ensures ((accepted c.args.sheet.now _ (sym c.check_places.ensures ∙ c.in_ok-check_places.was)).1)

pub returns-clause-count : goal.returns-clause-count
unfolding places_count count_by places
returns-clause-count c =
    rw (sym c.check_places.ensures ∙ c.in_ok-check_places.was, c.put.ensures.count, c.pairs.ensures) refl

pub returns-clause-list : goal.returns-clause-list
unfolding places_list list_by places
returns-clause-list c =
    rw (sym c.check_places.ensures ∙ c.in_ok-check_places.was, c.put.ensures.list, c.pairs.ensures) refl
