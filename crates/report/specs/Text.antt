-- What tickrun prints of a run, byte by byte (RULES 20.2).
use Rattle.std.specs.Prelude.{suc, zero, ℕ, ◌==◌, slice_index, codes, cond, List, [], ◌++◌}
use Rattle.refusal.specs.Number.{number_of}
use Rattle.report.specs.Ascii.{decimal, line}
use Rattle.report.specs.Names.{End, EndRefused, Halted, Loads, Numbered, Ran, Spent}

-- how the run ended
unfoldable pub end_line : End → List ℕ
end_line Halted = codes "end halted\n"
end_line Spent = codes "end spent\n"
end_line (EndRefused r) = line (codes "end refused") (number_of r)
end_line Loads = codes "end loads\n"
end_line (Numbered n) = line (codes "end refused") n

-- register k with its value v; none for 0
unfoldable pub register_line : ℕ → ℕ → List ℕ
register_line k v = cond (v == 0) [] (line (codes "R" ++ decimal k) v)

-- the first n registers, lowest first
unfoldable pub register_lines : ℕ → List ℕ → List ℕ
register_lines zero rs = []
register_lines (suc k) rs = register_lines k rs ++ register_line k (slice_index rs k)

-- the ticks done, then three counters
unfoldable pub count_lines : ℕ → ℕ → ℕ → ℕ → List ℕ
count_lines ticks retired stalls flushes =
    line (codes "ticks") ticks ++ (line (codes "retired") retired
    ++ (line (codes "stalls") stalls ++ line (codes "flushes") flushes))

-- the whole text
unfoldable pub report_text : Ran → List ℕ
report_text r =
    end_line r.end
    ++ (count_lines r.ticks r.state.counts.instructions_executed r.state.counts.stall_cycles
    r.state.counts.flush_events
    ++ register_lines 32 r.state.reg)
