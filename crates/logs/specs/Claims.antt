-- Read this first: what is claimed of a log that ticks in a row wrote, refused ones among them and nothing else writing
-- in it, from any state, log and first free place. Here: Logs (lists of ticks with a log), Entries (what entries say).
-- cardlog: Events (a tick's), Bytes, Writing, Reading. logging: Logging (the tick that keeps the log). accuracy:
-- Accuracy (demand 3).
use Rattle.std.specs.Prelude.{◌+◌, ◌≤◌, ℕ, length, take, Option, List, ◌++◌, ◌≡◌}
use Rattle.isa.specs.Machine.{arch_with, whole_program}
use Rattle.isa.specs.Registers.{read_reg}
use Rattle.accuracy.specs.Accuracy.{Agree, AgreeSaid, Retires, Run, after, answers, begin, offered, said}
use Rattle.cardlog.specs.Bytes.{bytes}
use Rattle.cardlog.specs.Writing.{laid}
use Rattle.logs.specs.Entries.{Entered, laid_over, loaded, requests_in, retirements}
use Rattle.logs.specs.Logs.{Kept, Reads, done, happened, kept}
use Rattle.logs.specs.Names.{Decoded, Given, Mode, Start}
use Rattle.logs.specs.Rows.{Rows}

-- Demand 3 of what stands on the card: the N-th 80 entry is the first entry of the tick of RULES 15.6, in which the
-- N-th instruction retires; it, the entries before it and the registers up to it are the machine's, which is fed the
-- words of the 82 entries.
abbrev pub OnCard : Type 0
OnCard =
    (f : ℕ → Mode → Decoded) (g : ℕ → Option (Option ℕ)) (k : Kept) (v : Start) (ts : List Given) → length v.reg ≡ 32
    → let r = begin v in
    let prog = whole_program v f g in
    let w = arch_with v (loaded (happened k ts)) in
    k.state ≡ r.state → Agree f (offered r (done k ts)) → AgreeSaid g (said r (done k ts))
    → (N : ℕ) → 1 ≤ N → N ≤ retirements (happened k ts)
    → (x : Retires prog w r (done k ts) N) × Entered prog w v.reg (happened k ts) (happened k x.pre) N

-- The ticks that were not refused are demand 3's list: it leaves the same state; the loads and stores of the log are the
-- requests of its accepted ticks, and their words its answers; the log has an 80 for each retirement.
abbrev pub DoneTicks : Type 0
DoneTicks =
    (r : Run) (k : Kept) (ts : List Given) → r.state ≡ k.state
    → ((after r (done k ts)).state ≡ (kept k ts).state)
    × ((after r (done k ts)).requests ≡ r.requests ++ requests_in (happened k ts))
    × (answers r (done k ts) ≡ loaded (happened k ts))
    × ((kept k ts).state.counts.instructions_executed
    ≡ k.state.counts.instructions_executed + retirements (happened k ts))

-- Everything claimed; proved in proofs/Claims.antt.
pub record Claims : Type 0 where
  -- Every byte: those of the events from the first free place on, and no other changes.
  pub holds : (k : Kept) (ts : List Given) → k.free ≤ length k.log
      → ((kept k ts).log ≡ laid (bytes (happened k ts)) k.free k.log)
      × ((kept k ts).free ≡ k.free + length (bytes (happened k ts)))
  -- Reading what was written, from where it began, gives exactly the events, and then the end.
  pub reads : (k : Kept) (ts : List Given) → k.free ≤ length k.log
      → Reads (take (kept k ts).free (kept k ts).log) k.free (happened k ts)
  -- The 81 entries laid over the registers of the first state give those of the last, R0 reading as 0.
  pub registers : (k : Kept) (ts : List Given) (r : ℕ)
      → read_reg (laid_over (happened k ts) k.state.reg) r ≡ read_reg (kept k ts).state.reg r
  pub list : DoneTicks
  pub on_card : OnCard
  pub rows : Rows
