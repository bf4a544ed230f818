-- Read this first: what is claimed of origins. Here: Origins (the choice, the value), Rows. latch: Forwarding, Execute.
use Rattle.std.specs.Prelude.{ℕ, nat_lt, true, List, ◌≡◌}
use Rattle.latch.specs.Execute.{operand_b}
use Rattle.latch.specs.Forwarding.{forward_from}
use Rattle.origin.specs.Names.{ExMem, IdEx, MemWb}
use Rattle.origin.specs.Origins.{origin_from, origins_of, value_from}
use Rattle.origin.specs.Rows.{Rows}

-- The values do not change: for all latches and every register number, the value forwarded is the origin's.
abbrev pub Law : Type 0
Law = (x : ExMem) (w : MemWb) (features : ℕ) (rs : List ℕ) (r : ℕ)
    → forward_from x w features rs r ≡ value_from (origin_from x w r) x w features rs r

-- Everything claimed; proved in proofs/Claims.antt.
pub record Claims : Type 0 where
  pub law : Law
  -- The same of the operands that execution uses, where the latch names a source for them.
  pub a : (x : ExMem) (w : MemWb) (features : ℕ) (rs : List ℕ) (l : IdEx) → nat_lt 0 l.n_srcs ≡ true
      → forward_from x w features rs l.src_a ≡ value_from (origins_of x w l).a x w features rs l.src_a
  pub b : (x : ExMem) (w : MemWb) (features : ℕ) (rs : List ℕ) (l : IdEx) → nat_lt 1 l.n_srcs ≡ true
      → operand_b x w features rs l ≡ value_from (origins_of x w l).b x w features rs l.src_b
  pub rows : Rows
