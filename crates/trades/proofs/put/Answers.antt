-- Each turn lists a place or passes over it.
use Rattle.std.proofs.Common.{◌-◌, ◌<◌, ◌≤◌, ◌≡◌, arith, length, refl, ◌∙◌}
use Rattle.trades.proofs.Placing.{behind, listed, one_more, passed, told, whole}
use Rattle.trades.proofs.put.Goals as goal
use Rattle.trades.proofs.put.Goals.{then-may_trade, else-may_trade}

pub loop-k-init : goal.loop-k-init
loop-k-init c =
    let all : c.args.pairs - 0 ≡ c.args.pairs = omega arith in
    record { one = c.movable-one.ensures; few = omega arith; front = rw all refl; back = refl }

pub offset_bounds-list-count : goal.offset_bounds-list-count
offset_bounds-list-count c =
    omega (arith, c.ranges.pairs.fits, c.requires, c.loop-k.invariant.few, c.loop-k-test.true)

pub bounds-list-count : goal.bounds-list-count
bounds-list-count c = omega (arith, c.requires, c.loop-k.auto.list, c.loop-k.invariant.few, c.loop-k-test.true)

pub overflow_add-count : goal.overflow_add-count
overflow_add-count c = omega (arith, c.ranges.pairs.fits, c.loop-k.invariant.few, c.loop-k-test.true)

pub loop-k-preserved : goal.loop-k-preserved
loop-k-preserved c =
    let k = c.loop-k in
    let i = k.invariant in
    let below = c.loop-k-test.true in
    let test = told c.args.sheet.now k.k i.one c.movable-next.ensures c.may_trade.ensures in
    elim c.if-may_trade.branch [
      | then-may_trade w ↦
          let here = listed c.args.sheet.now k.k c.args.pairs below (test ∙ w.if-may_trade.true) in
          let room : k.count < length k.list = omega (arith, c.requires, k.auto.list, i.few, below) in
          record {
            one = c.movable-next.ensures;
            few = rw w.count-is (omega (arith, i.few));
            front = rw (w.list-is, w.count-is, one_more k.list _ k.count k.k room) (rw here at i.front);
            back = rw (w.list-is, w.count-is, behind k.list c.args.list.now k.count k.k i.back) refl;
          }
      | else-may_trade w ↦
          let here = passed c.args.sheet.now k.k c.args.pairs below (test ∙ w.if-may_trade.false) in
          record {
            one = c.movable-next.ensures;
            few = rw w.count-is (omega (arith, i.few));
            front = rw (w.list-is, w.count-is) (rw here at i.front);
            back = rw (w.list-is, w.count-is) i.back;
          }
    ]

pub returns-clause-count : goal.returns-clause-count
returns-clause-count c =
    let k = c.loop-k in
    let i = k.invariant in
    let room : k.count ≤ length k.list = omega (arith, c.requires, k.auto.list, k.auto.k-end, i.few) in
    (whole c.args.sheet.now k.list c.args.list.now _ k.count k.k c.args.pairs room c.loop-k-test.false i.front i.back).0

pub returns-clause-list : goal.returns-clause-list
returns-clause-list c =
    let k = c.loop-k in
    let i = k.invariant in
    let room : k.count ≤ length k.list = omega (arith, c.requires, k.auto.list, k.auto.k-end, i.few) in
    (whole c.args.sheet.now k.list c.args.list.now _ k.count k.k c.args.pairs room c.loop-k-test.false i.front i.back).1
