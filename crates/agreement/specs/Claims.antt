-- Read this first: what the player and the runner have in common, from one start, over one sheet, one list of load
-- answers and one table of special registers. player has the play and its claims, runs the run and its claims,
-- accuracy the formula (RULES 15.6).
use Rattle.std.specs.Prelude.{◌≤◌, ℕ, length, List, ◌++◌, ◌≡◌, Ok}
use Rattle.accuracy.specs.Accuracy.{Agree, AgreeSaid, after, answers, begin, offered, said}
use Rattle.accuracy.specs.Count.{path, retire_tick}
use Rattle.isa.specs.Machine.{arch_with, program_of}
use Rattle.isa.specs.Short.{decoded_of}
use Rattle.pipeline.specs.Start.{fresh}
use Rattle.player.specs.Player.{played}
use Rattle.runs.specs.Run.{play, ran}
use Rattle.sheet.specs.Sheet.{limited_check, offer_at, sheet_check, sheet_source, table_of}
use Rattle.agreement.specs.Names.{Given, Halted, PipelineCpu, PlayHalted, Played, Start}

-- The player has done as many instructions as the pipeline has retired, and its registers, address and mode are the
-- pipeline's registers and retire place.
pub record Same (p : Played) (s : PipelineCpu) : Type 0 where
  pub done : p.done ≡ s.counts.instructions_executed
  pub reg : p.values.reg ≡ s.reg
  pub pc : p.values.at.pc ≡ s.stages.retire_at.pc
  pub mode : p.values.at.mode ≡ s.stages.retire_at.mode

-- After each of a run's ticks, with N retired by then: the player with limit N.
abbrev pub EveryTick : Type 0
EveryTick =
    (sheet table : List ℕ) (v : Start) → length v.reg ≡ 32 → (limit : ℕ) (l : List ℕ) → limited_check sheet limit ≡ Ok tt
    → (pre post : List Given) → (play (sheet_source sheet table) limit l (fresh v)).ticks ≡ pre ++ post
    → let s = (after (begin v) pre).state in
    Same (played v sheet l table s.counts.instructions_executed) s

-- The same after any list of ticks that is offered the sheet's instructions and told the table's special registers (RULES
-- 15.4): the player is given the answers of the accepted ticks, and any behind them.
abbrev pub EveryList : Type 0
EveryList =
    (sheet table : List ℕ) → sheet_check sheet ≡ Ok tt → (v : Start) → length v.reg ≡ 32 → (ts : List Given)
    → let r = begin v in
    Agree (λ p m. decoded_of (offer_at sheet p m)) (offered r ts) → AgreeSaid (table_of table) (said r ts)
    → let s = (after r ts).state in
    s.counts.instructions_executed ≤ 1000000
    → (l : List ℕ) → Same (played v sheet (answers r ts ++ l) table s.counts.instructions_executed) s

-- Each N up to a run's retired count is the retired count after some of its ticks.
pub record Reached (v : Start) (ticks : List Given) (N : ℕ) : Type 0 where
  pub pre : List Given
  pub post : List Given
  pub split : ticks ≡ pre ++ post
  pub retired : (after (begin v) pre).state.counts.instructions_executed ≡ N

abbrev pub EveryN : Type 0
EveryN =
    (sheet table : List ℕ) (v : Start) → length v.reg ≡ 32 → (limit : ℕ) (l : List ℕ)
    → let p = play (sheet_source sheet table) limit l (fresh v) in
    (N : ℕ) → N ≤ p.state.counts.instructions_executed → Reached v p.ticks N

-- A halted run: the player with any limit from its retired count on halts too, as far as the run.
abbrev pub HaltedRun : Type 0
HaltedRun =
    (sheet table : List ℕ) (v : Start) → length v.reg ≡ 32 → (limit : ℕ) (l : List ℕ)
    → let r = ran (fresh v) sheet l table limit in
    r.end ≡ Halted → (n : ℕ) → r.state.counts.instructions_executed ≤ n → n ≤ 1000000
    → let p = played v sheet l table n in
    (p.end ≡ PlayHalted) × Same p r.state

-- The converse: where the player halts, and the formula of what it has done is within a run's tick limit, the run halts
-- as far as the player.
abbrev pub HaltedPlay : Type 0
HaltedPlay =
    (sheet table : List ℕ) (v : Start) → length v.reg ≡ 32 → (n : ℕ) (l : List ℕ)
    → let p = played v sheet l table n in
    p.end ≡ PlayHalted
    → (limit : ℕ) → limit ≤ 1000000
    → let prog = program_of (sheet_source sheet table) v in
    retire_tick prog (λ k. path prog (arch_with v l) k) p.done ≤ limit
    → let r = ran (fresh v) sheet l table limit in
    (r.end ≡ Halted) × Same p r.state

-- Everything claimed; proved in proofs/Claims.antt.
pub record Claims : Type 0 where
  pub every_tick : EveryTick
  pub every_list : EveryList
  pub every_n : EveryN
  pub halted_run : HaltedRun
  pub halted_play : HaltedPlay
