-- The digits still to put, and then those put, are the number's.
use Rattle.std.proofs.Common.{ℕ, ◌≡◌, ◌<◌, ◌^◌, ◌≤◌, ◌++◌, drop, length, take}
use Rattle.digits.specs.Digits.{digits_in, digits_of, radix}
use Rattle.digits.proofs.put_digits.Given as goal

abbrev pub invariant-loop-from : goal.invariant-loop-from
invariant-loop-from l = record {
  room : l.rest < radix l.base ^ l.from;
  some : l.from < 20 → 0 < l.rest;
  long : length l.out ≡ 20;
  before : (m : ℕ) → m ≤ l.from → take m l.out ≡ take m l.fn.out;
  digits : digits_of l.base l.n ≡ digits_in (radix l.base) l.from l.rest ++ drop l.from l.out;
}
