-- A wait for the memory goes on, or a tick is counted.
use Rattle.std.proofs.Common.{◌∙◌, sym}
use Rattle.pipeline.proofs.Resting.{idles_by, waits_by, waits_rest}
use Rattle.pipeline.proofs.PipelineCpu.rest.Goals as goal

pub returns-then-waits_for_memory : goal.returns-then-waits_for_memory
returns-then-waits_for_memory c =
    waits_by _ c.requires.room _ _ c.wait_for_memory.ensures c.count.ensures
    ∙ waits_rest _ (sym c.waits_for_memory.ensures ∙ c.if-waits_for_memory.true)

pub returns : goal.returns
returns c =
    idles_by _ c.requires.room (sym c.waits_for_memory.ensures ∙ c.if-waits_for_memory.false) _ c.idle.ensures
