-- The claim speaks of one tick only, and its number is the tick counter. Assumes nothing.
use Prim.Native.Nat.{◌+◌, ◌≤◌, suc, ℕ}
use mathlib.Core.Bool.{Bool, cond, false, true}
use mathlib.Core.List.{List, [], ◌++◌, ◌∷◌}
use mathlib.Core.Path.{◌∙◌, ◌≡◌, ap, refl, sym}
use native.Mathlib.Omega.{arith}
use Rattle.std.specs.Prelude.{Err, Ok, Result}
use Rattle.isa.proofs.Bools.{split}
use Rattle.isa.specs.Machine.{Arch, Program}
use Rattle.pipeline.proofs.Resting.{rest_next, rests}
use Rattle.pipeline.specs.Advance.{advance, move_of, next, resting}
use Rattle.pipeline.specs.Retire.{retire}
use Rattle.pipeline.specs.Tick.{taken, tick}
use Rattle.stages.specs.Advance.{awake}
use Rattle.stages.specs.Counting.{count_retired, counted}
use Rattle.stages.specs.Retire.{retire_stages}
use Rattle.word.specs.Words.{bit}
use Rattle.accuracy.proofs.Took.{advance_retired, took}
use Rattle.accuracy.specs.Accuracy.{Retires, Run, after, one, one_by}
use Rattle.accuracy.specs.Names.{Given, Move, PipelineCpu, Refusal, Taken}

-- a tick adds at most one retirement
ran : (s : PipelineCpu) (x : Taken) → awake s.stages ≡ true → (next s x).counts.instructions_executed ≡
    s.counts.instructions_executed + bit s.stages.mem_wb.valid
unfolding next retire retire_stages count_retired
ran s x e = ap
    (λ (b : Bool). (cond b (advance (move_of (retire s)) (retire s) x) (resting s)).counts.instructions_executed) e ∙
    advance_retired (move_of (retire s)) (retire s) x

idled : (s : PipelineCpu) (x : Taken) → awake s.stages ≡ false → (next s x).counts.instructions_executed ≡
    s.counts.instructions_executed
idled s x e = rw (sym (rest_next s e x)) (rests s).retired

-- a Boolean counts at most one
pub bit_le : (b : Bool) → bit b ≤ 1
unfolding bit
bit_le true = omega arith
bit_le false = omega arith

go_count : (s : PipelineCpu) (x : Taken)
    → (s.counts.instructions_executed ≤ (next s x).counts.instructions_executed) ×
    ((next s x).counts.instructions_executed ≤ suc s.counts.instructions_executed)
go_count s x = split (awake s.stages)
    (λ e. let h = ran s x e in let k = bit_le s.stages.mem_wb.valid in (omega arith, omega arith))
    (λ e. let h = idled s x e in (omega arith, omega arith))

count_by : (r : Run) (t : Given) (o : Result PipelineCpu Refusal) → tick r.state t ≡ o →
    (r.state.counts.instructions_executed ≤ (one_by o t r).state.counts.instructions_executed) ×
    ((one_by o t r).state.counts.instructions_executed ≤ suc r.state.counts.instructions_executed)
unfolding one_by
count_by r t (Err c) e = (omega arith, omega arith)
count_by r t (Ok s) e =
    let w = took r.state t s e in
    let c = go_count r.state (taken t) in
    let h : (next r.state (taken t)).counts.instructions_executed ≡ s.counts.instructions_executed = ap
    (λ (x : PipelineCpu). x.counts.instructions_executed) w.is in
    (omega arith, omega arith)

one_count : (r : Run) (t : Given) →
    (r.state.counts.instructions_executed ≤ (one r t).state.counts.instructions_executed) ×
    ((one r t).state.counts.instructions_executed ≤ suc r.state.counts.instructions_executed)
unfolding one
one_count r t = count_by r t (tick r.state t) refl

more_count : (r : Run) (ts : List Given) → r.state.counts.instructions_executed ≤
    (after r ts).state.counts.instructions_executed
unfolding after
more_count r [] = omega arith
more_count r (t ∷ ts) = let h = one_count r t in let k = more_count (one r t) ts in omega arith

-- the number of an accepted tick is the tick counter
advance_ticks : (m : Move) (s : PipelineCpu) (x : Taken) → (advance m s x).counts.cycles ≡ s.counts.cycles + 1
unfolding advance counted
advance_ticks m s x = refl

go_ticks : (s : PipelineCpu) (x : Taken) → (next s x).counts.cycles ≡ s.counts.cycles + 1
unfolding next retire retire_stages count_retired
go_ticks s x = split (awake s.stages)
    (λ e. ap (λ (b : Bool). (cond b (advance (move_of (retire s)) (retire s) x) (resting s)).counts.cycles) e
    ∙ advance_ticks
    (move_of (retire s)) (retire s) x)
    (λ e. rw e (rests s).ticks)

ticks_by : (r : Run) (t : Given) (o : Result PipelineCpu Refusal) → tick r.state t ≡ o
    → r.accepted ≡ r.state.counts.cycles → (one_by o t r).accepted ≡ (one_by o t r).state.counts.cycles
unfolding one_by
ticks_by r t (Err c) e h = h
ticks_by r t (Ok s) e h =
    let w = took r.state t s e in
    let k = go_ticks r.state (taken t) in
    let q : (next r.state (taken t)).counts.cycles ≡ s.counts.cycles = ap
    (λ (x : PipelineCpu). x.counts.cycles) w.is in omega
    arith

pub numbered : (r : Run) (ts : List Given) → r.accepted ≡ r.state.counts.cycles → (after r ts).accepted ≡
    (after r ts).state.counts.cycles
unfolding after one
numbered r [] h = h
numbered r (t ∷ ts) h = numbered (one r t) ts (ticks_by r t (tick r.state t) refl h)

-- so the tick that raises the count to N is a single one
only : (pre pre' post post' : List Given) (here here' : Given) (r : Run) (N : ℕ) → pre ++ here ∷ post ≡ pre' ++
    here' ∷ post'
    → suc (after r pre).state.counts.instructions_executed ≡ N →
    (one (after r pre) here).state.counts.instructions_executed ≡ N
    → suc (after r pre').state.counts.instructions_executed ≡ N →
    (one (after r pre') here').state.counts.instructions_executed ≡ N → (pre ≡ pre') × (here ≡ here')
unfolding after
only [] [] post post' here here' r N e a b c d = (refl, cc)
only [] (t ∷ q) post post' here here' r N e a b c d =
    let h : here ≡ t = cc in
    let k : (one r t).state.counts.instructions_executed ≡ N = ap
    (λ (x : Given). (one r x).state.counts.instructions_executed) (sym h) ∙ b in
    let m = more_count (one r t) q in absurd (omega arith)
only (t ∷ q) [] post post' here here' r N e a b c d =
    let h : t ≡ here' = cc in
    let k : (one r t).state.counts.instructions_executed ≡ N = ap
    (λ (x : Given). (one r x).state.counts.instructions_executed) h ∙ d in
    let m = more_count (one r t) q in absurd (omega arith)
only (t ∷ q) (t' ∷ q') post post' here here' r N e a b c d =
    let h : t ≡ t' = cc in
    let l : q ++ here ∷ post ≡ q' ++ here' ∷ post' = cc in
    let z = only q q' post post' here here' (one r t) N l a b
    (ap (λ (x : Given). suc (after (one r x) q').state.counts.instructions_executed) h ∙ c)
    (ap (λ (x : Given). (one (after (one r x) q') here').state.counts.instructions_executed) h ∙ d) in
    ((λ j. h j ∷ z.0 j), z.1)

-- so is the tick of RULES 15.6
pub only_tick : (prog : Program) (w : Arch) (r : Run) (ts : List Given) (N : ℕ) (x : Retires prog w r ts N)
    (pre post : List Given) (here : Given) → ts ≡ pre ++ here ∷ post
    → suc (after r pre).state.counts.instructions_executed ≡ N
    → (one (after r pre) here).state.counts.instructions_executed ≡ N → (pre ≡ x.pre) × (here ≡ x.here)
only_tick prog w r ts N x pre post here e a b =
    only pre x.pre post x.post here x.here r N (sym e ∙ x.split) a b x.before x.now
