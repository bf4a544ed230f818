-- Each turn puts the last digit before those put, and has as many left as there is room for.
use Rattle.std.proofs.Common.{◌≡◌, ℕ, ◌%◌, ◌/◌, ◌-◌, ◌^◌, ◌<◌, ◌≤◌, zero, suc, List, [], ◌++◌, cond, nat_lt}
use Rattle.std.proofs.Common.{add-one, append-nil, append_assoc, arith, drop, length, length-set, refl, set, sub-one}
use Rattle.std.proofs.Common.{sym, ◌∙◌}
use Rattle.std.proofs.Math.Nat.{div-lt_iff_lt-mul, mul_comm, pow-succ'}
use Rattle.std.proofs.lemmas.List.{drop-set, drop_all, take-set-le}
use borrow.Author.Tests.{le-ltb, lt-ltb}
use Rattle.digits.specs.Digits.{digit, digits_in, digits_of, radix}
use Rattle.digits.specs.declared.Base.TheVariants.{Decimal, Hexadecimal}
use Rattle.digits.specs.declared.Base.{Base}
use Rattle.digits.proofs.put_digits.Goals as goal

two_le : (b : Base) → 2 ≤ radix b
unfolding radix
two_le Decimal = omega arith
two_le Hexadecimal = omega arith

-- a number of 64 bits has at most 20 digits
fits : (b : Base) (n : ℕ) → n < 2 ^ 64 → n < radix b ^ 20
unfolding radix
fits Decimal n h = omega arith
fits Hexadecimal n h = omega arith

-- without its last digit a number fits the room that is left
fewer : (r k n : ℕ) → 0 < r → 0 < k → n < r ^ k → n / r < r ^ (k - 1)
fewer r zero n p q e = absurd (omega arith)
fewer r (suc k) n p q e = rw sub-one ((div-lt_iff_lt-mul p).1 (rw (pow-succ' r k, mul_comm r (r ^ k)) at e))

-- the last digit d of rest put before those put
put_last : (b k rest d : ℕ) (out : List ℕ) → 0 < k → k ≤ length out → d ≡ digit (rest % b)
    → digits_in b k rest ++ drop k out
    ≡ cond (nat_lt rest b) [] (digits_in b (k - 1) (rest / b)) ++ drop (k - 1) (set out (k - 1) d)
unfolding digits_in
put_last b zero rest d out some within e = absurd (omega arith)
put_last b (suc j) rest d out some within e =
    let h : j < length out = omega arith in
    rw (sub-one, drop-set out j d h, e, add-one, append_assoc)

pub loop-from-init : goal.loop-from-init
unfolding digits_of
loop-from-init c =
    let h : length c.args.out.now ≤ 20 = omega arith in
    record {
      room = fits _ _ c.ranges.n.fits;
      some = omega arith;
      long = c.told-out;
      before = λ m q. refl;
      digits = rw (drop_all 20 c.args.out.now h, append-nil);
    }

pub loop-from-preserved : goal.loop-from-preserved
loop-from-preserved c =
    let l = c.loop-from in
    let e = c.radix-radix.ensures in
    let t = two_le c.args.base in
    let m : radix c.args.base ≤ l.rest = omega arith in
    let p = put_last (radix c.args.base) l.from l.rest _ l.out (omega arith) (omega arith) c.last_digit.ensures in
    record {
      room = rw e (fewer _ _ _ (omega arith) (omega arith) l.invariant.room);
      some = grind arith;
      long = length-set _ _ _ ∙ l.invariant.long;
      before = λ k q. take-set-le k _ _ _ q ∙ l.invariant.before k (omega arith);
      digits = rw e (l.invariant.digits ∙ rw (le-ltb _ _ m) at p);
    }

pub returns-then-rest-radix-clause-digits : goal.returns-then-rest-radix-clause-digits
returns-then-rest-radix-clause-digits c =
    let l = c.loop-from in
    let e = c.radix-radix.ensures in
    let m : l.rest < radix c.args.base = omega arith in
    let p = put_last (radix c.args.base) l.from l.rest _ l.out (omega arith) (omega arith) c.last_digit.ensures in
    sym (l.invariant.digits ∙ rw (lt-ltb _ _ m) at p)
