-- What is claimed of the texts beside the equations of the functions that write them.
use Rattle.std.specs.Prelude.{codes, ◌+◌, ◌≤◌, ℕ, length, replicate, set, List, [], ◌≡◌}
use Rattle.report.specs.Ascii.{line}
use Rattle.report.specs.Names.{BadRegister, EndRefused, Faulty, Halted, MemWb, Ran, Stages}
use Rattle.report.specs.Refusal.{refusal_by, refusal_of}
use Rattle.report.specs.Text.{end_line, register_line, report_text}

-- a run that ended with 7 in R3, 49 in R4 and these counts
abbrev pub example_ran : Stages → ℕ → ℕ → Ran
example_ran l c k = record {
  end = Halted;
  ticks = 9;
  state = record {
    reg = set (set (replicate 32 0) 3 7) 4 49;
    stages = l;
    counts = record {
      cycles = c;
      running_cycles = k;
      instructions_executed = 3;
      stall_cycles = 2;
      flush_events = 0;
    };
  };
}

pub record Claims : Type 0 where
  -- a buffer of 4,096 bytes holds every text whole
  pub short : (r : Ran) → length (report_text r) ≤ 1522
  pub short_refusal : (r : Ran) (sheet : List ℕ) → length (refusal_of r sheet) ≤ 139
  -- a line with any number, also with one that is no refusal's
  pub any_number : (name : List ℕ) (n : ℕ) → length (line name n) ≤ length name + 22
  -- the report of RULES 22.1's row with ADDI, MUL and HALT, whatever the latches and the two other counters hold
  pub example : (l : Stages) (c k : ℕ) → report_text (example_ran l c k)
      ≡ codes "end halted\nticks 9\nretired 3\nstalls 2\nflushes 0\nR3 7\nR4 49\n"
  -- lines at their limits
  pub most : line (codes "retired") 18446744073709551615 ≡ codes "retired 18446744073709551615\n"
  pub refused : end_line (EndRefused Faulty) ≡ codes "end refused 12\n"
  pub last : register_line 31 4294967295 ≡ codes "R31 4294967295\n"
  pub cleared : register_line 31 0 ≡ []
  -- a refused record at address 2748
  pub record687 : (m : MemWb)
      → refusal_by BadRegister 2748 m ≡ codes "tickrun: record 687, address 0ABC: refused 1, it names a register above 31\n"
