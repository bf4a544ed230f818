-- What is listed and what is left to list are all the places; behind the listed ones, the list is as it was.
use Rattle.std.proofs.Common.{◌-◌, ◌++◌, ◌≡◌, ◌≤◌, drop, take}
use Rattle.trades.specs.Trades.{movable, places_from}
use Rattle.trades.proofs.put.Given as goal

abbrev pub invariant-loop-k : goal.invariant-loop-k
invariant-loop-k l = record {
  one : l.one ≡ movable l.sheet l.k;
  few : l.count ≤ l.k;
  front : take l.count l.list ++ places_from l.sheet l.k (l.pairs - l.k) ≡ places_from l.sheet 0 l.pairs;
  back : drop l.count l.list ≡ drop l.count l.fn.list;
}
