-- One name that opens this crate's definitions and those below, for proofs by computation. Assumes nothing.
use Rattle.std.specs.Prelude.{⊤}
use Rattle.isa.specs.Effect.{branches, effect_n, effect_of, effect_s, fall, gives, goes_by, goes_on, identifies}
use Rattle.isa.specs.Effect.{inquires, jumps, links, marked, no_access, no_marks, no_result, nothing, privileged}
use Rattle.isa.specs.Effect.{raises, reaches, resumes, sets, size, stops, written}
use Rattle.isa.specs.Inquiries.{fill, look_up, mfsr_with}
use Rattle.isa.specs.Machine.{arch_with, dest_of, effect_at, first, instruction_at, is_barred, is_empty, machine}
use Rattle.isa.specs.Machine.{machine_by, machine_step, open_at, program_of, request_of, rest, step_by, stops_at}
use Rattle.isa.specs.Machine.{value_at, zero_start}
use Rattle.isa.specs.Operands.{bare, binary, branching, gpr, loading, ok_dest, ok_operands, operands_n, operands_of}
use Rattle.isa.specs.Operands.{operands_s, plain, reads, storing, unary, writes}
use Rattle.isa.specs.Redirects.{mode_or, target_or}
use Rattle.isa.specs.Refusals.{is_of, ok_decoded, ok_instruction, ok_raw}
use Rattle.isa.specs.Registers.{is_dest, is_reg, put_reg, read_reg, write_cpuid, write_reg}
use Rattle.isa.specs.Short.{decode_short, decoded_of, low_bits, nibble, short_by}
use Rattle.isa.specs.Waits.{back_to, is_div, is_mul, is_negative, is_used, is_used_load, predict, predict_by, slow_of}
use Rattle.isa.specs.Waits.{wait_of, waits}
use Rattle.word.proofs.OnLiterals.{word_on_literals}

unfoldable pub isa_on_literals : ⊤
unfolding word_on_literals branches effect_n effect_of effect_s fall gives goes_by goes_on identifies inquires jumps
    links marked no_access no_marks no_result nothing privileged raises reaches resumes sets size stops written fill
    look_up mfsr_with arch_with dest_of effect_at first instruction_at is_barred is_empty machine machine_by
    machine_step open_at program_of request_of rest step_by stops_at value_at zero_start bare binary branching gpr
    loading ok_dest ok_operands operands_n operands_of operands_s plain reads storing unary writes mode_or target_or
    is_of ok_decoded ok_instruction ok_raw is_dest is_reg put_reg read_reg write_cpuid write_reg decode_short
    decoded_of low_bits nibble short_by back_to is_div is_mul is_negative is_used is_used_load predict predict_by
    slow_of wait_of waits
isa_on_literals = tt
