-- A run's ticks are a list of accepted ticks that meets RULES 15.4; so RULES 15.6 holds of a run. Assumes
-- nothing.
use Prim.Native.Nat.{◌+◌, suc, zero, ℕ}
use lib.ListN.{length}
use mathlib.Core.Bool.{Bool, cond, false, true}
use mathlib.Core.List.{List}
use mathlib.Core.Path.{◌∙◌, ◌≡◌, ap, refl, subst, sym}
use native.Mathlib.Omega.{arith}
use Rattle.std.specs.Prelude.{Option, None, Some, Result, Ok, Err}
use Rattle.accuracy.proofs.Accuracy.{demand3_fed}
use Rattle.accuracy.proofs.Feeding.{Fed, FeedsBy}
use Rattle.accuracy.proofs.Offers.{AllMeet, Meets, reply_offer, reply_special}
use Rattle.accuracy.specs.Accuracy.{Run, after, begin, one, one_by}
use Rattle.isa.specs.Machine.{Program, Source, first, is_empty, program_of, zero_start}
use Rattle.pipeline.specs.Tick.{tick, word_in}
use Rattle.pipeline.specs.Turn.{reply}
use Rattle.stages.specs.Loads.{want_load}
use Rattle.runs.proofs.Turns.{turn_load}
use Rattle.runs.specs.Claims.{RanTicks, RunRetires, RunTicks}
use Rattle.runs.specs.Names.{End, PipelineCpu, Refusal, Start}
use Rattle.runs.specs.Run.{Played, ended, left_after, more, play, play_by, turn_of}

-- the word of an answer given where a load is wanted
word_is : (b : Bool) (v : ℕ) → b ≡ true → word_in (cond b (Some v) None) ≡ v
unfolding word_in
word_is true v e = refl
word_is false v e = cc

module _ (src : Source) (v : Start) where
  -- the machine's program
  abbrev P : Program
  P = program_of src v

  -- a tick of the run offers the machine's instruction, and says what the machine is told
  pub meets : (s : PipelineCpu) (v : ℕ) → Meets P s (reply src v s)
  unfolding program_of
  meets s v = record { offer = λ i e. reply_offer src v s i e; special = λ n e. reply_special src v s n e }

  -- and feeds the machine the next answer left
  pub feeds : (s s' : PipelineCpu) (l : List ℕ) → (want_load s.stages ≡ true → is_empty l ≡ false)
      → FeedsBy P (Ok s') s (reply src (first l) s) l (left_after s l)
  unfolding FeedsBy reply program_of left_after
  feeds s s' l h = record { asked = λ e. (h e, sym (word_is (want_load s.stages) _ e)); next = refl }

  -- a run of at most n ticks from r with load answers l: its ticks meet the premise and feed the machine l
  pub record Follows (r : Run) (n : ℕ) (l : List ℕ) (p : Played) : Type 0 where
    pub ran : RanTicks r n p
    pub offers : AllMeet P r p.ticks
    pub fed : Fed P r l p.ticks

  -- a run that ends at once
  no_ticks : (e : End) (r : Run) (n : ℕ) (l : List ℕ) → Follows r n l (ended e r.state)
  unfolding ended after Fed AllMeet
  no_ticks e r n l = record {
    ran = record { state = refl; accepted = omega arith; within = omega arith };
    offers = tt;
    fed = tt;
  }

  -- a sum with one moved across
  bump : (a b : ℕ) → suc a + b ≡ a + suc b
  bump a b = omega arith

  -- a run behind one accepted tick
  more_ticks : (r : Run) (n : ℕ) (l : List ℕ) (s : PipelineCpu) (p : Played)
      → tick r.state (reply src (first l) r.state) ≡ Ok s
      → (want_load r.state.stages ≡ true → is_empty l ≡ false)
      → Follows (one_by (Ok s) (reply src (first l) r.state) r) n (left_after r.state l) p
      → Follows r (suc n) l (more (reply src (first l) r.state) p)
  unfolding more after Fed AllMeet one one_by
  more_ticks r n l s p e h f =
      let t = reply src (first l) r.state in
      let q : one_by (Ok s) t r ≡ one r t = ap (λ (x : Result PipelineCpu Refusal). one_by x t r) (sym e) in
      let w = f.ran.within in
      record {
        ran = record {
          state = f.ran.state ∙ ap (λ (x : Run). (after x p.ticks).state) q;
          accepted = ap (λ (x : Run). (after x p.ticks).accepted) (sym q) ∙ f.ran.accepted
              ∙ bump r.accepted (length p.ticks);
          within = omega arith;
        };
        offers = ((λ s' a. meets r.state (first l)), subst (λ (x : Run). AllMeet P x p.ticks) q f.offers);
        fed = (
          left_after r.state l,
          subst (λ (o : Result PipelineCpu Refusal). FeedsBy P o r.state t l (left_after r.state l)) (sym e)
              (feeds r.state s l h),
          subst (λ (x : Run). Fed P x (left_after r.state l) p.ticks) q f.fed,
        );
      }

  -- a turn, by what it does and the result of its tick
  follows_by : (r : Run) (n : ℕ) (l : List ℕ) (u : Option End) (o : Result PipelineCpu Refusal) (k : PipelineCpu → Played)
      → turn_of r.state.stages r.state.counts false (is_empty l) ≡ u → tick r.state (reply src (first l)
      r.state) ≡ o
      → ((s : PipelineCpu) → Follows (one_by (Ok s) (reply src (first l) r.state) r) n
      (left_after r.state l) (k s))
      → Follows r (suc n) l (play_by u o r.state (reply src (first l) r.state) k)
  unfolding play_by
  follows_by r n l (Some e) o k a b h = no_ticks e r (suc n) l
  follows_by r n l None (Err c) k a b h = no_ticks _ r (suc n) l
  follows_by r n l None (Ok s) k a b h = more_ticks r n l s (k s) b (turn_load r.state l a) (h s)

  -- every run
  pub follows : (n : ℕ) (l : List ℕ) (r : Run) → Follows r n l (play src n l r.state)
  unfolding play one_by
  follows zero l r = no_ticks _ r zero l
  follows (suc n) l r =
      follows_by r n l (turn_of r.state.stages r.state.counts false (is_empty l)) (tick r.state (reply src
      (first l) r.state))
      (λ s. play src n (left_after r.state l) s) refl refl
      (λ s. follows n (left_after r.state l) (one_by (Ok s) (reply src (first l) r.state) r))

-- the ticks of a run
pub run_ticks : RunTicks
run_ticks src limit l r = (follows src zero_start limit l r).ran

-- RULES 15.6 for a run: every N up to its retired count
pub run_retires : RunRetires
unfolding begin program_of
run_retires src v len limit l N a b =
    let prog = program_of src v in
    let r = begin v in
    let f = follows src v limit l r in
    let z = ap (λ (x : PipelineCpu). x.counts.instructions_executed) f.ran.state in
    demand3_fed prog v refl refl len (play src limit l r.state).ticks l f.offers f.fed N a (omega arith)
