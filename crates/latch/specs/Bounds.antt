-- Refusal 11: the bounds of each latch, valid or not.
use Rattle.std.specs.Prelude.{ℕ, ◌==◌, nat_lt, Bool, ◌||◌, not}
use Rattle.isa.specs.Operands.{ok_dest}
use Rattle.isa.specs.Refusals.{ok_decoded, ok_raw}
use Rattle.latch.specs.Names.{ExMem, IdEx, IfId, MemWb}

-- a width other than 0, 1, 2, 4
unfoldable pub bad_width : ℕ → Bool
bad_width w = not (w == 0 || (w == 1 || (w == 2 || w == 4)))

-- an instruction that is refused
unfoldable pub bad_if_id : IfId → Bool
bad_if_id l = not (ok_raw l.raw)

-- an instruction that is refused, a register above 31, or more than two sources
unfoldable pub bad_id_ex : IdEx → Bool
bad_id_ex l =
    not (ok_decoded l.decoded)
    || (not (ok_dest l.dest) || (nat_lt 31 l.src_a || (nat_lt 31 l.src_b || nat_lt 2 l.n_srcs)))

-- an instruction that is refused, a destination above 31, or no such width
unfoldable pub bad_ex_mem : ExMem → Bool
bad_ex_mem l = not (ok_decoded l.decoded) || (not (ok_dest l.dest) || bad_width l.mem_size)

-- a destination above 31
unfoldable pub bad_mem_wb : MemWb → Bool
bad_mem_wb l = not (ok_dest l.dest)
