-- The bytes of a log: what a list of ticks writes there, and what stands there. Assumes nothing.
use Prim.Native.Nat.{◌+◌, ◌≤◌, suc, ℕ}
use borrow.Author.Tests.{leb-true}
use lib.ListN.{drop, length, length-append, set, take}
use lib.Seq.{length-sets, length-take-le, sets, sets-eq, take_at}
use mathlib.Core.Bool.{true}
use mathlib.Core.List.{List, [], ◌++◌, ◌∷◌, append_assoc}
use mathlib.Core.Path.{◌∙◌, ◌≡◌, ap, refl, sym}
use native.Mathlib.Omega.{arith}
use Rattle.std.specs.Prelude.{Err, Ok, Result}
use Rattle.cardlog.specs.Bytes.{bytes}
use Rattle.cardlog.specs.Writing.{fits, laid}
use Rattle.logging.specs.Logging.{free_by, log_after, log_by, logged, logging_tick, tick_events}
use Rattle.pipeline.specs.Tick.{tick}
use Rattle.logs.proofs.Along.{fitted_ok}
use Rattle.logs.specs.Logs.{Kept, happened, keep, kept, result_of, unless_refused}
use Rattle.logs.specs.Names.{Event, Given, PipelineCpu, Refusal}

bytes_append : (a b : List Event) → bytes (a ++ b) ≡ bytes a ++ bytes b
unfolding bytes
bytes_append [] b = refl
bytes_append (e ∷ a) b = rw (bytes_append a b, append_assoc)

-- one run of stores behind another
sets_append : (bs cs l : List ℕ) (at : ℕ) → sets l at (bs ++ cs) ≡ sets (sets l at bs) (at + length bs) cs
sets_append [] cs l at = let e : at + 0 ≡ at = omega arith in rw e
sets_append (b ∷ bs) cs l at =
    let e : at + suc (length bs) ≡ suc at + length bs = omega arith in
    sets_append bs cs (set l at b) (suc at) ∙ rw e

-- l' is l with bs stored from place a on, and b is the place behind them, which lies inside
pub record Laid (l l' : List ℕ) (a b : ℕ) (bs : List ℕ) : Type 0 where
  pub log : l' ≡ sets l a bs
  pub free : b ≡ a + length bs
  pub inside : a ≤ length l → a + length bs ≤ length l

laid_none : (l : List ℕ) (a : ℕ) → Laid l l a a []
laid_none l a = record { log = refl; free = omega arith; inside = λ h. omega arith }

laid_append : {l m n : List ℕ} {a b d : ℕ} {bs cs : List ℕ} → Laid l m a b bs → Laid m n b d cs
    → Laid l n a d (bs ++ cs)
laid_append {l} {m} {n} {a} {b} {d} {bs} {cs} x y =
    let e = length-append bs cs in
    let f : length m ≡ length l = ap length x.log ∙ length-sets l a bs in
    record {
      log = y.log ∙ rw (x.log, x.free) (sym (sets_append bs cs l a));
      free = let g = x.free in let i = y.free in omega arith;
      inside = λ h. let g = x.free in let i = x.inside h in let j = y.inside (omega arith) in omega arith;
    }

-- one tick's, by its result
laid_by : (o : Result PipelineCpu Refusal) (es : List Event) (at : ℕ) (l : List ℕ)
    → ((s : PipelineCpu) → o ≡ Ok s → fits (bytes es) at l ≡ true)
    → Laid l (log_by o (bytes es) at l) at (free_by o (bytes es) at) (bytes (unless_refused o es))
unfolding log_by free_by unless_refused laid fits bytes
laid_by (Err c) es at l h = laid_none l at
laid_by (Ok s) es at l h =
    let i = leb-true _ _ (h s refl) in
    record { log = sym (sets-eq (bytes es) l at i); free = refl; inside = λ z. i }

laid_one : (k : Kept) (t : Given)
    → Laid k.log (keep k t).log k.free (keep k t).free (bytes (unless_refused (result_of k t) (tick_events k.state t)))
unfolding keep logged log_after result_of logging_tick
laid_one k t = laid_by (result_of k t) (tick_events k.state t) k.free k.log
    (λ s e. (fitted_ok (tick k.state t) _ _ _ s e).1)

pub laid_all : (ts : List Given) (k : Kept)
    → Laid k.log (kept k ts).log k.free (kept k ts).free (bytes (happened k ts))
unfolding kept happened bytes
laid_all [] k = laid_none k.log k.free
laid_all (t ∷ ts) k =
    rw (bytes_append (unless_refused (result_of k t) (tick_events k.state t)) (happened (keep k t) ts))
    (laid_append (laid_one k t) (laid_all ts (keep k t)))

pub holds : (k : Kept) (ts : List Given) → k.free ≤ length k.log
    → ((kept k ts).log ≡ laid (bytes (happened k ts)) k.free k.log)
    × ((kept k ts).free ≡ k.free + length (bytes (happened k ts)))
unfolding laid
holds k ts h =
    let x = laid_all ts k in (x.log ∙ sets-eq (bytes (happened k ts)) k.log k.free (x.inside h), x.free)

-- the log up to the first free place: what stood before, then the bytes
pub front : (k : Kept) (ts : List Given) → k.free ≤ length k.log
    → take (kept k ts).free (kept k ts).log ≡ take k.free k.log ++ bytes (happened k ts)
front k ts h =
    let x = laid_all ts k in
    let bs : List ℕ = bytes (happened k ts) in
    let e : length (take k.free k.log ++ bs) ≡ k.free + length bs
    = length-append (take k.free k.log) bs ∙ rw (length-take-le k.free k.log h) in
    rw (x.free, x.log, sets-eq bs k.log k.free (x.inside h))
    (take_at (take k.free k.log ++ bs) (drop (k.free + length bs) k.log) (k.free + length bs) e)
