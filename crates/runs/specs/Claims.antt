-- Read this first: what is claimed of a run over any source of instructions. Here: Run (a run by its turns, and the
-- runner on a sheet's bytes), Rows (those of RULES 22.1). Elsewhere: sheet has the records and the order of
-- a turn, pipeline the tick and its refusals, isa the one-at-a-time machine, accuracy the formula and RULES 15.6.
use Rattle.std.specs.Prelude.{◌+◌, ◌≤◌, ℕ, length, false, List, [], ◌++◌, ◌≡◌, Ok}
use Rattle.accuracy.specs.Accuracy.{Retires, Run, after, begin, said}
use Rattle.accuracy.specs.Count.{path, retire_tick}
use Rattle.isa.specs.Inquiries.{NotMfsr}
use Rattle.isa.specs.Machine.{Arch, Program, Source, arch_with, machine, program_of}
use Rattle.isa.specs.Short.{decoded_of}
use Rattle.pipeline.specs.Start.{fresh}
use Rattle.sheet.specs.Sheet.{SheetWithout, sheet_check, sheet_source}
use Rattle.runs.specs.Names.{Given, Halted, PipelineCpu, Ran, Start}
use Rattle.runs.specs.Rows.{Rows}
use Rattle.runs.specs.Run.{Played, play, ran}

-- The ticks of a run from r: each is accepted, they are no more than the limit, and the run's state is the one that
-- they hand back.
pub record RanTicks (r : Run) (limit : ℕ) (p : Played) : Type 0 where
  pub state : p.state ≡ (after r p.ticks).state
  pub accepted : (after r p.ticks).accepted ≡ r.accepted + length p.ticks
  pub within : length p.ticks ≤ limit

-- Every run's ticks are such, from any state.
abbrev pub RunTicks : Type 0
RunTicks =
    (src : Source) (limit : ℕ) (l : List ℕ) (r : Run) → RanTicks r limit (play src limit l r.state)

-- No wait for the memory is told in a run: behind each part of it, as much has been told as before it. So W of RULES
-- 15.6 is 0.
abbrev pub RunUntold : Type 0
RunUntold =
    (src : Source) (limit : ℕ) (l : List ℕ) (r : Run) (pre post : List Given)
    → (play src limit l r.state).ticks ≡ pre ++ post → (after r pre).waits ≡ r.waits

-- Every N up to the retired count: the N-th retirement among the run's ticks, as RULES 15.6 has it, the machine fed the
-- load answers that the runner was given.
abbrev pub RunRetires : Type 0
RunRetires =
    (src : Source) (v : Start) → length v.reg ≡ 32 → (limit : ℕ) (l : List ℕ) (N : ℕ) → 1 ≤ N
    → let p = play src limit l (fresh v) in
    N ≤ p.state.counts.instructions_executed
    → Retires (program_of src v) (arch_with v l) (begin v) p.ticks N

-- The runner itself, on a sheet's bytes: a report that ends halted with N retired has the formula of N as its ticks,
-- and the registers of the machine, which has then halted too.
pub record HaltedReport (prog : Program) (w : Arch) (N : ℕ) (r : Ran) : Type 0 where
  pub ticks : r.ticks ≡ retire_tick prog (λ n. path prog w n) N
  pub reg : r.state.reg ≡ (machine prog w N).arch.reg
  pub did : (machine prog w N).done ≡ N
  pub halts : (machine prog w N).runs ≡ false

-- Every report of a run from a fresh state that ends halted is such.
abbrev pub SheetHalted : Type 0
SheetHalted =
    (sheet table : List ℕ) (v : Start) → length v.reg ≡ 32 → (limit : ℕ) (l : List ℕ)
    → let r = ran (fresh v) sheet l table limit in
    r.end ≡ Halted
    → HaltedReport (program_of (sheet_source sheet table) v) (arch_with v l) r.state.counts.instructions_executed r

-- The converse: a sheet that is not refused, on which the machine halts after N instructions, all done, and the
-- formula of N is within the limit, is reported halted with N retired.
abbrev pub SheetHalts : Type 0
SheetHalts =
    (sheet table : List ℕ) → sheet_check sheet ≡ Ok tt
    → (v : Start) → length v.reg ≡ 32 → (limit : ℕ) (l : List ℕ) → limit ≤ 1000000
    → let prog = program_of (sheet_source sheet table) v in
    let w = arch_with v l in
    let r = ran (fresh v) sheet l table limit in
    (N : ℕ) → (machine prog w N).done ≡ N → (machine prog w N).runs ≡ false
    → retire_tick prog (λ n. path prog w n) N ≤ limit
    → (r.end ≡ Halted) × (r.state.counts.instructions_executed ≡ N)

-- A state with no MFSR where it could still execute.
pub record Without (s : PipelineCpu) : Type 0 where
  pub if_id : NotMfsr (decoded_of s.stages.if_id.raw)
  pub id_ex : NotMfsr s.stages.id_ex.decoded

-- From such a state a sheet without MFSR asks for no special register,
abbrev pub Unasked : Type 0
Unasked =
    (sheet table : List ℕ) → SheetWithout sheet → (limit : ℕ) (l : List ℕ) (r : Run) → Without r.state
    → said r (play (sheet_source sheet table) limit l r.state).ticks ≡ []

-- and its run is the same whatever the table.
abbrev pub AnyTable : Type 0
AnyTable =
    (sheet l t t' : List ℕ) → SheetWithout sheet → (s : PipelineCpu) → Without s → (limit : ℕ)
    → ran s sheet l t limit ≡ ran s sheet l t' limit

-- Everything claimed; proved in proofs/Claims.antt.
pub record Claims : Type 0 where
  pub ticks : RunTicks
  pub untold : RunUntold
  pub retires : RunRetires
  pub sheet_halted : SheetHalted
  pub sheet_halts : SheetHalts
  pub unasked : Unasked
  pub any_table : AnyTable
  pub rows : Rows
