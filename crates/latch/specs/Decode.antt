-- Decode.
use Rattle.std.specs.Prelude.{ℕ, Bool, ◌&&◌, false, true, List, None, is_some}
use Rattle.isa.specs.Operands.{operands_of}
use Rattle.isa.specs.Registers.{read_reg}
use Rattle.isa.specs.Short.{decoded_of}
use Rattle.isa.specs.Waits.{is_used, predict}
use Rattle.latch.specs.Names.{Decoded, IdEx, IfId, Mode, Operands}

-- the ID/EX latch of instruction i with operands o, at address p in mode m, its operands sampled from the
-- registers; g: predicted taken
unfoldable pub id_ex_by : Bool → Decoded → Operands → ℕ → Mode → List ℕ → IdEx
id_ex_by g i o p m rs = record {
  valid = true;
  pc = p;
  mode = m;
  decoded = i;
  predicted_taken = g;
  src_a = o.src_a;
  src_b = o.src_b;
  n_srcs = o.n_srcs;
  dest = o.dest;
  op_a = read_reg rs o.src_a;
  op_b = read_reg rs o.src_b;
  is_load = o.is_load;
  is_store = o.is_store;
  exception = None;
}

-- the same with the operands that instruction i names
unfoldable pub id_ex_of : Bool → Decoded → ℕ → Mode → List ℕ → IdEx
id_ex_of g i p m rs = id_ex_by g i (operands_of i) p m rs

-- what IF/ID holds, decoded; it predicts nothing
unfoldable pub decode_id : IfId → List ℕ → IdEx
decode_id l rs = id_ex_of false (decoded_of l.raw) l.pc l.mode rs

-- the same with the tick's prediction
unfoldable pub decode_predicted : IfId → List ℕ → IdEx
decode_predicted l rs =
    id_ex_of (is_some (predict (decoded_of l.raw) l.pc l.mode)) (decoded_of l.raw) l.pc l.mode rs

-- a valid load in ID/EX whose destination, other than R0, is one of the two sources
unfoldable pub load_use : IdEx → ℕ → ℕ → Bool
load_use l a b = l.valid && (l.is_load && is_used l.dest a b)
