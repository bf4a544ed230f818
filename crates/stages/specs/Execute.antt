-- Execute, with operands forwarded.
use Rattle.std.specs.Prelude.{ℕ, cond, List, Option, None}
use Rattle.isa.specs.Effect.{fall}
use Rattle.isa.specs.Inquiries.{fill}
use Rattle.latch.specs.Execute.{effect_from, ex_mem_of, mispredict}
use Rattle.latch.specs.Latches.{empty_ex_mem}
use Rattle.stages.specs.Names.{Effect, ExMem, IdEx, Place, Stages}

-- what the instruction in a latch does
unfoldable pub effect_for : Stages → List ℕ → IdEx → Effect
effect_for l rs d = effect_from l.user l.ex_mem l.mem_wb l.features rs d

-- the next EX/MEM, by the effect of ID/EX
unfoldable pub executed_by : IdEx → Effect → ExMem
executed_by l e = cond l.valid (ex_mem_of l e) empty_ex_mem

-- c: what is said of the special register that ID/EX asks for
unfoldable pub executed : Stages → List ℕ → Option (Option ℕ) → ExMem
executed l rs c = executed_by l.id_ex (fill c (effect_for l rs l.id_ex))

-- the special register that ID/EX asks for, by its effect
unfoldable pub inquiry_by : IdEx → Effect → Option ℕ
inquiry_by l e = cond l.valid e.inquiry None

unfoldable pub inquiry_of : Stages → List ℕ → Option ℕ
inquiry_of l rs = inquiry_by l.id_ex (effect_for l rs l.id_ex)

-- the redirect of this tick, by the effect of ID/EX
unfoldable pub redirect_by : IdEx → Effect → Option Place
redirect_by l e =
    cond l.valid (mispredict l.predicted_taken e.redirect (fall l.pc l.mode) l.mode) None

unfoldable pub redirect_of : Stages → List ℕ → Option Place
redirect_of l rs = redirect_by l.id_ex (effect_for l rs l.id_ex)
