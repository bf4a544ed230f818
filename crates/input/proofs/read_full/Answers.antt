-- What a read gives stands behind what was read before it.
use Rattle.std.proofs.Common.{◌≡◌, ℕ, ◌+◌, ◌≤◌, List, ◌++◌, length, take, rules, sym, ap, ◌∙◌, length-take-le}
use Rattle.std.proofs.KnownBytes.{Consumes-trans}
use Rattle.std.proofs.Math.Seq.{take-append-add, take-append-le}
use borrow.Rule.Slice.PartMut.{put_mid, post_of}
use Rattle.input.proofs.read_full.Goals as goal

-- the first bytes of a buffer after n more of them were read
read_behind : (a n k : ℕ) (xs ys : List ℕ) → a ≤ length xs → n ≤ length ys
    → take (a + n) (put_mid a k xs ys) ≡ take a xs ++ take n ys
read_behind a n k xs ys within fits =
    let after = ys ++ post_of a k xs in
    ap (λ (m : ℕ). take (m + n) (take a xs ++ after)) (sym (length-take-le a xs within))
    ∙ take-append-add (take a xs) after n
    ∙ ap (λ (l : List ℕ). take a xs ++ l) (take-append-le n ys (post_of a k xs) fits)

pub loop-done-preserved : goal.loop-done-preserved
loop-done-preserved g c =
    let l = c.loop-done in (
      search rules,
      rw (read_behind l.done c.in_ok-n.n _ l.buf c.read.new.buf l.invariant.0 c.in_ok-n.ensures.bound.0)
          (Consumes-trans _ _ _ _ _ l.invariant.1 c.in_ok-n.ensures.bytes.0),
    )
