-- The parts of the tick called by themselves: 11 where what a part is handed breaks the bounds, and execution's 10.
use Rattle.std.specs.Prelude.{ℕ, Bool, nat_lt, ◌||◌, cond, not, Option, Result, Ok, Err}
use Rattle.isa.specs.Inquiries.{fill}
use Rattle.isa.specs.Operands.{operands_of}
use Rattle.isa.specs.Refusals.{ok_decoded}
use Rattle.isa.specs.Short.{decoded_of}
use Rattle.latch.specs.Bounds.{bad_id_ex, bad_if_id}
use Rattle.latch.specs.Decode.{decode_id, load_use}
use Rattle.latch.specs.Execute.{ex_mem_of}
use Rattle.stages.specs.Execute.{effect_for}
use Rattle.stages.specs.Forwarding.{forwarded, origin_of, origins_for}
use Rattle.stages.specs.Refusals.{faulty_alone, out_of_bounds}
use Rattle.pipeline.specs.Names.{BadSpecial, Decoded, Execution, Forwarded, IdEx, IfId, OutOfBounds, PipelineCpu}
use Rattle.pipeline.specs.Names.{Refusal, Ticked}
use Rattle.pipeline.specs.Refusals.{state_tests, verdict}
use Rattle.pipeline.specs.Retire.{retire}
use Rattle.pipeline.specs.Tick.{fits_special, handed_back}

-- the value and its origin
unfoldable pub forwarded_part : PipelineCpu → ℕ → Result Forwarded Refusal
forwarded_part s r =
    cond (out_of_bounds s.stages || nat_lt 31 r) (Err OutOfBounds)
    (Ok (record { word = forwarded s.stages s.reg r; origin = origin_of s.stages r }))

-- execute_ex reads neither whether the latch is valid nor what was predicted; c: what is said of a special register
unfoldable pub execute_part : PipelineCpu → IdEx → Option (Option ℕ) → Result Execution Refusal
execute_part s l c =
    cond (out_of_bounds s.stages || bad_id_ex l) (Err OutOfBounds)
    (cond (not (fits_special (effect_for s.stages s.reg l).inquiry c)) (Err BadSpecial)
    (Ok (record {
      ex_mem = ex_mem_of l (fill c (effect_for s.stages s.reg l));
      redirect = (effect_for s.stages s.reg l).redirect;
      origins = origins_for s.stages l;
    })))

unfoldable pub decode_part : PipelineCpu → IfId → Result IdEx Refusal
decode_part s l = cond (out_of_bounds s.stages || bad_if_id l) (Err OutOfBounds) (Ok (decode_id l s.reg))

unfoldable pub sources_part : IfId → Result (ℕ × ℕ) Refusal
sources_part l =
    cond (bad_if_id l) (Err OutOfBounds)
    (Ok ((operands_of (decoded_of l.raw)).src_a, (operands_of (decoded_of l.raw)).src_b))

-- is_mul_div: the latency of a multiply or divide, which is one more than its wait; none for any other
unfoldable pub mul_div_part : Decoded → Result (Option ℕ) Refusal
mul_div_part d = cond (not (ok_decoded d)) (Err OutOfBounds) (Ok (operands_of d).latency)

unfoldable pub hazard_part : IdEx → ℕ → ℕ → Result Bool Refusal
hazard_part l a b =
    cond (bad_id_ex l || (nat_lt 31 a || nat_lt 31 b)) (Err OutOfBounds) (Ok (load_use l a b))

-- retirement gives 12 and 13 as the tick does, and 12 also while a wait for the memory is left, which stays as it is
unfoldable pub retired : PipelineCpu → Result PipelineCpu Refusal
retired s = verdict (state_tests (faulty_alone s.stages) s) (retire s)

unfoldable pub retire_part : PipelineCpu → Ticked
retire_part s = handed_back (retired s) s
