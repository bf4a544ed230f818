-- The operands of a decoded instruction are the values at their origins. Assumes nothing.
use Prim.Native.Nat.{ℕ}
use lib.Dec.{ltb}
use mathlib.Core.Bool.{Bool}
use mathlib.Core.List.{List}
use mathlib.Core.Path.{◌≡◌, refl, sym}
use Rattle.isa.proofs.Bools.{split}
use Rattle.isa.specs.Operands.{operands_of}
use Rattle.latch.specs.Decode.{id_ex_by, id_ex_of}
use Rattle.latch.specs.Execute.{operand_b}
use Rattle.latch.specs.Forwarding.{forward_from}
use Rattle.origin.proofs.Law.{named_a, named_b}
use Rattle.origin.specs.Origins.{named_origin, origins_of, value_from}
use Rattle.accuracy.proofs.Instructions.{few, no_source}
use Rattle.accuracy.proofs.Registers.{zero_read}
use Rattle.accuracy.specs.Names.{Decoded, ExMem, MemWb, Mode}

module _ (x : ExMem) (w : MemWb) (f : ℕ) (rs old : List ℕ) (g : Bool) (i : Decoded) (p : ℕ) (m : Mode) where
  from_a : let d = id_ex_of g i p m old in
      forward_from x w f rs d.src_a ≡ value_from (origins_of x w d).a x w f rs d.src_a
  unfolding id_ex_of id_ex_by origins_of named_origin forward_from value_from
  from_a = split (ltb 0 (operands_of i).n_srcs)
      (named_a x w f rs (id_ex_of g i p m old))
      (λ e. rw (e, no_source i e) (zero_read rs 0 refl))

  from_b : let d = id_ex_of g i p m old in
      operand_b x w f rs d ≡ value_from (origins_of x w d).b x w f rs d.src_b
  unfolding id_ex_of id_ex_by origins_of named_origin operand_b value_from
  from_b = split (ltb 1 (operands_of i).n_srcs)
      (named_b x w f rs (id_ex_of g i p m old))
      (λ e. rw (e, few i e, sym (zero_read old 0 refl)) (zero_read rs 0 refl))

  pub from_origins : let d = id_ex_of g i p m old in
      let o = origins_of x w d in
      (forward_from x w f rs d.src_a ≡ value_from o.a x w f rs d.src_a)
      × (operand_b x w f rs d ≡ value_from o.b x w f rs d.src_b)
  from_origins = (from_a, from_b)
