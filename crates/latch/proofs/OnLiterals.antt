-- One name that opens this crate's definitions and those below, for proofs by computation. Assumes nothing.
use Rattle.std.specs.Prelude.{⊤}
use Rattle.latch.specs.Bounds.{bad_ex_mem, bad_id_ex, bad_if_id, bad_mem_wb, bad_width}
use Rattle.latch.specs.Decode.{decode_predicted, id_ex_by, id_ex_of, load_use}
use Rattle.latch.specs.Execute.{effect_from, effect_in, ex_mem_of, mispredict, operand_b, raised_or}
use Rattle.latch.specs.Forwarding.{cpuid_word, forward_from, from_ex_mem, from_mem_wb}
use Rattle.latch.specs.Latches.{cleared, empty_ex_mem, empty_id_ex, empty_if_id, empty_mem_wb}
use Rattle.latch.specs.Memory.{dest_after, loads, mem_wb_of, passed_on, requests, stores, value_after, writes_after}
use Rattle.latch.specs.Retire.{halts, is_faulty, retire_cpuid, retire_reg, retired_mode, retired_pc, retired_regs}
use Rattle.isa.proofs.OnLiterals.{isa_on_literals}

unfoldable pub latch_on_literals : ⊤
unfolding isa_on_literals bad_ex_mem bad_id_ex bad_if_id bad_mem_wb bad_width decode_predicted id_ex_by id_ex_of
    load_use effect_from effect_in ex_mem_of mispredict operand_b raised_or cpuid_word forward_from from_ex_mem
    from_mem_wb cleared empty_ex_mem empty_id_ex empty_if_id empty_mem_wb dest_after loads mem_wb_of passed_on
    requests stores value_after writes_after halts is_faulty retire_cpuid retire_reg retired_mode retired_pc
    retired_regs
latch_on_literals = tt
