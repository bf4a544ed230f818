-- What a logged tick hands back, and the log then: of a refused tick, of one whose events fit, and of one whose events
-- do not. Assumes nothing.
use Rattle.std.proofs.Common.{ℕ, ◌≡◌, Bool, cond, false, true, List, Option, None, Some, unwrap_or}
use Rattle.std.proofs.Common.{Result, Ok, Err, ap, refl, ◌∙◌}
use Rattle.std.specs.Result.{is_err}
use Rattle.cardlog.specs.Writing.{log_written, next_free}
use Rattle.pipeline.specs.Tick.{handed_back, word_in}
use Rattle.cardlog.specs.Bytes.{bytes}
use Rattle.logging.specs.Logging.{events, fitted, free_by, log_by, tick_events}
use Rattle.logging.specs.Names.{Event, Given, LogFull, LoggedTick, PipelineCpu, Refusal, Ticked}

-- o: what the tick by itself gives; bs: the bytes of its events; r and l': what is handed back, and the log then
abbrev pub Tells : Result PipelineCpu Refusal → PipelineCpu → List ℕ → ℕ → List ℕ → LoggedTick → List ℕ → Type 0
Tells o s bs free l r l' =
    (r ≡ record { ticked = handed_back (fitted o bs free l) s; free = free_by (fitted o bs free l) bs free })
    × (l' ≡ log_by (fitted o bs free l) bs free l)

pub refused : (o : Result PipelineCpu Refusal) (s : PipelineCpu) (bs : List ℕ) (free : ℕ) (l : List ℕ) (t : Ticked)
    → t ≡ handed_back o s → is_err t.outcome ≡ true → Tells o s bs free l (record { ticked = t; free = free }) l
unfolding handed_back fitted free_by log_by
refused (Err c) s bs free l t e h = (rw e refl, refl)
refused (Ok s') s bs free l t e h = let x = rw e at h in (cc, cc)

-- how writing ended, r, tells whether the bytes fit
fits_by : (b : Bool) (m n : ℕ) → Ok n ≡ cond b (Ok m) (Err LogFull) → (b ≡ true) × (n ≡ m)
fits_by true m n e = (refl, cc)
fits_by false m n e = (cc, cc)

full_by : (b : Bool) (m : ℕ) (c : Refusal) → Err c ≡ cond b (Ok m) (Err LogFull) → (b ≡ false) × (c ≡ LogFull)
full_by true m c e = (cc, cc)
full_by false m c e = (refl, cc)

-- what is handed back then, of a tick t by itself
abbrev pub told : Result ℕ Refusal → PipelineCpu → Ticked → ℕ → LoggedTick
told (Ok n) s t free = record { ticked = t; free = n }
told (Err c) s t free = record { ticked = record { state = s; outcome = Err c }; free = free }

accepted : (s s' : PipelineCpu) (bs : List ℕ) (free : ℕ) (l : List ℕ) (t : Ticked) (r : Result ℕ Refusal)
    → t ≡ handed_back (Ok s') s → r ≡ next_free bs free l
    → Tells (Ok s') s bs free l (told r s t free) (log_written bs free l)
unfolding handed_back fitted free_by log_by next_free log_written
accepted s s' bs free l t (Ok n) e w = let x = fits_by _ _ n w in (rw (e, x.0, x.1) refl, rw x.0 refl)
accepted s s' bs free l t (Err c) e w = let x = full_by _ _ c w in (rw (x.0, x.1) refl, rw x.0 refl)

-- a tick that was not refused by itself, with the bytes of what was written
pub written : (o : Result PipelineCpu Refusal) (s : PipelineCpu) (bs cs : List ℕ) (free : ℕ) (l : List ℕ) (t : Ticked)
    (r : Result ℕ Refusal) → t ≡ handed_back o s → is_err t.outcome ≡ false → cs ≡ bs → r ≡ next_free cs free l
    → Tells o s bs free l (told r s t free) (log_written cs free l)
unfolding handed_back
written (Err c) s bs cs free l t r e h q w = let x = rw e at h in (cc, cc)
written (Ok s') s bs cs free l t r e h q w = rw q (accepted s s' bs free l t r e (rw q at w))

-- the word of an answer, 0 where there is none
word_or : (o : Option ℕ) → unwrap_or o 0 ≡ word_in o
unfolding word_in
word_or None = refl
word_or (Some v) = refl

-- the bytes of a tick's events, from the answer's word
pub bytes_from : (s : PipelineCpu) (t : Given) (v : ℕ) (es : List Event) → v ≡ unwrap_or t.answer 0
    → es ≡ events s.stages v → bytes es ≡ bytes (tick_events s t)
unfolding tick_events
bytes_from s t v es q e = ap bytes (e ∙ ap (events s.stages) (q ∙ word_or t.answer))
