-- Without MFSR no special register is asked for, and the table does not matter. Assumes nothing.
use Prim.Native.Nat.{suc, zero, ℕ}
use mathlib.Core.Bool.{Bool, cond, false, true}
use mathlib.Core.List.{List, []}
use mathlib.Core.Path.{◌∙◌, ◌≡◌, ap, refl, subst}
use Rattle.std.specs.Prelude.{Option, None, Some, is_some, Result, Ok, Err}
use Rattle.accuracy.proofs.Took.{took}
use Rattle.accuracy.specs.Accuracy.{Run, one, one_by, said, said_by}
use Rattle.isa.proofs.Asks.{asks_none}
use Rattle.isa.proofs.Bools.{split}
use Rattle.isa.specs.Effect.{marked, raises}
use Rattle.isa.specs.Inquiries.{NotMfsr, look_up}
use Rattle.isa.specs.Machine.{Source, first, is_empty}
use Rattle.isa.specs.Short.{decoded_of}
use Rattle.latch.specs.Decode.{decode_predicted, id_ex_by, id_ex_of}
use Rattle.latch.specs.Execute.{effect_from, effect_in, raised_or}
use Rattle.latch.specs.Latches.{cleared, empty_id_ex}
use Rattle.latch.specs.Retire.{halts}
use Rattle.pipeline.proofs.Resting.{rests}
use Rattle.pipeline.specs.Advance.{advance, move_of, next, resting}
use Rattle.pipeline.specs.Ask.{fetch_at, want_fetch, want_special}
use Rattle.pipeline.specs.Retire.{retire}
use Rattle.pipeline.specs.Tick.{raw_of, taken, tick}
use Rattle.pipeline.specs.Turn.{reply}
use Rattle.sheet.specs.Sheet.{sheet_source}
use Rattle.stages.specs.Advance.{advance_by, advance_stages, awake, id_ex_after, if_id_after}
use Rattle.stages.specs.Execute.{effect_for, inquiry_by, inquiry_of}
use Rattle.stages.specs.Fetch.{fetched, next_id_ex}
use Rattle.stages.specs.Move.{inquiry_in, is_wait}
use Rattle.stages.specs.Retire.{retire_stages}
use Rattle.runs.specs.Claims.{AnyTable, Unasked, Without}
use Rattle.runs.specs.Names.{DecNormal, Effect, End, Exception, Given, IdEx, IfId, Mode, Move, Nop, PipelineCpu, Place}
use Rattle.runs.specs.Names.{RawInstr, Refusal, Stages, Taken, begin_wait, keep_waiting, load_use_stall, proceed}
use Rattle.runs.specs.Names.{redirect}
use Rattle.runs.specs.Run.{Played, ended, left_after, more, play, play_by, ran, turn_of}

-- NOP is no MFSR
nop_not : NotMfsr (DecNormal Nop)
nop_not rd sr e = cc

-- an exception asks for nothing
raised_none : (x : Option Exception) (e : Effect) → e.inquiry ≡ None → (raised_or x e).inquiry ≡ None
unfolding raised_or raises marked
raised_none None e h = h
raised_none (Some x) e h = refl

-- nor does a latch without MFSR
latch_none : (u : Bool) (l : IdEx) (x y : ℕ) → NotMfsr l.decoded → (effect_in u l x y).inquiry ≡ None
unfolding effect_in
latch_none u l x y h = raised_none l.exception _ (asks_none u l.decoded l.pc x y h)

none_if : (b : Bool) (q : Option ℕ) → q ≡ None → cond b q None ≡ None
none_if true q e = e
none_if false q e = refl

inquiry_none : (l : Stages) (rs : List ℕ) → NotMfsr l.id_ex.decoded → inquiry_of l rs ≡ None
unfolding inquiry_of inquiry_by effect_for effect_from
inquiry_none l rs h = none_if l.id_ex.valid _ (latch_none l.user l.id_ex _ _ h)

-- retirement puts none there
retire_without : (s : PipelineCpu) → Without s → Without (retire s)
unfolding retire retire_stages cleared empty_id_ex
retire_without s w = split (halts s.stages.mem_wb)
    (λ e. record { if_id = rw e w.if_id; id_ex = rw e nop_not })
    (λ e. record { if_id = rw e w.if_id; id_ex = rw e w.id_ex })

-- so such a state asks for nothing
special_none : (s : PipelineCpu) → Without s → want_special s ≡ None
unfolding want_special inquiry_in
special_none s w = split (awake s.stages)
    (λ e. split (is_wait (move_of (retire s)))
    (λ f. rw (e, f))
    (λ f. rw (e, f) (inquiry_none (retire s).stages (retire s).reg (retire_without s w).id_ex)))
    (λ e. rw e)

-- and a tick that is offered none leaves such a state
fetched_without : (b : Bool) (l : IfId) (p : Place) (i : RawInstr) → NotMfsr (decoded_of l.raw)
    → NotMfsr (decoded_of i) → NotMfsr (decoded_of (fetched b l p i).raw)
unfolding fetched cleared
fetched_without true l p i h k = k
fetched_without false l p i h k = h

next_without : (l : Stages) (rs : List ℕ) → NotMfsr (decoded_of l.if_id.raw) → NotMfsr (next_id_ex l rs).decoded
unfolding next_id_ex decode_predicted id_ex_of id_ex_by empty_id_ex
next_without l rs h = split l.if_id.valid (λ e. rw e h) (λ e. rw e nop_not)

held_without : (b : Bool) (l : IfId) → NotMfsr (decoded_of l.raw) → NotMfsr (decoded_of (cond b (cleared l) l).raw)
unfolding cleared
held_without true l h = h
held_without false l h = h

advance_without : (m : Move) (s : PipelineCpu) (x : Taken) → Without s → NotMfsr (decoded_of x.raw)
    → Without (advance m s x)
unfolding advance advance_stages advance_by if_id_after id_ex_after cleared empty_id_ex
advance_without keep_waiting s x w h = record { if_id = w.if_id; id_ex = w.id_ex }
advance_without begin_wait s x w h = record { if_id = w.if_id; id_ex = w.id_ex }
advance_without (load_use_stall g) s x w h =
    record { if_id = held_without (is_some g) s.stages.if_id w.if_id; id_ex = nop_not }
advance_without proceed s x w h = record {
  if_id = fetched_without s.stages.running s.stages.if_id _ x.raw w.if_id h;
  id_ex = next_without s.stages s.reg w.if_id;
}
advance_without (redirect p) s x w h = record {
  if_id = fetched_without s.stages.running s.stages.if_id _ x.raw w.if_id h;
  id_ex = nop_not;
}

rests_without : (s : PipelineCpu) → Without s → Without (resting s)
rests_without s w = let k = rests s in record { if_id = rw k.if_id w.if_id; id_ex = rw k.id_ex w.id_ex }

goes_without : (s : PipelineCpu) (x : Taken) → Without s → NotMfsr (decoded_of x.raw) → Without (next s x)
unfolding next
goes_without s x w h = by (awake s.stages)
  where
    by : (b : Bool) → Without (cond b (advance (move_of (retire s)) (retire s) x) (resting s))
    by true = advance_without (move_of (retire s)) (retire s) x (retire_without s w) h
    by false = rests_without s w

-- what a source without MFSR offers
reply_without : (src : Source) → ((p : ℕ) (m : Mode) → NotMfsr (decoded_of (src.raw p m))) → (v : ℕ) (s : PipelineCpu)
    → NotMfsr (decoded_of (taken (reply src v s)).raw)
unfolding taken reply raw_of decoded_of
reply_without src h v s = split (want_fetch s)
    (λ e. rw e (h (fetch_at s).pc (fetch_at s).mode))
    (λ e. rw e nop_not)

-- a tick of such a run leaves such a state
tick_without : (src : Source) → ((p : ℕ) (m : Mode) → NotMfsr (decoded_of (src.raw p m))) → (v : ℕ)
    (s s' : PipelineCpu) → Without s → tick s (reply src v s) ≡ Ok s' → Without s'
tick_without src h v s s' w e = subst Without (took s (reply src v s) s' e).is
    (goes_without s (taken (reply src v s)) w (reply_without src h v s))

-- nothing is said in its ticks
said_none : (o : Result PipelineCpu Refusal) (c : Option (Option ℕ)) (l : List (ℕ × Option (Option ℕ)))
    → said_by o None c l ≡ l
unfolding said_by
said_none (Err n) c l = refl
said_none (Ok s) c l = refl

module _ (src : Source) (h : (p : ℕ) (m : Mode) → NotMfsr (decoded_of (src.raw p m))) where
  unasked_by : (r : Run) (v : ℕ) (u : Option End) (o : Result PipelineCpu Refusal) (k : PipelineCpu → Played)
      → Without r.state → tick r.state (reply src v r.state) ≡ o
      → ((s : PipelineCpu) → o ≡ Ok s → said (one_by (Ok s) (reply src v r.state) r) (k s).ticks ≡ [])
      → said r (play_by u o r.state (reply src v r.state) k).ticks ≡ []
  unfolding play_by ended more said one
  unasked_by r v (Some e) o k w q z = refl
  unasked_by r v None (Err n) k w q z = refl
  unasked_by r v None (Ok s) k w q z =
      let t = reply src v r.state in
      ap (λ (i : Option ℕ). said_by (tick r.state t) i t.special (said (one r t) (k s).ticks))
      (special_none r.state w)
      ∙ said_none (tick r.state t) t.special _
      ∙ ap (λ (o : Result PipelineCpu Refusal). said (one_by o t r) (k s).ticks) q ∙ z s refl

  unasked_run : (n : ℕ) (l : List ℕ) (r : Run) → Without r.state → said r (play src n l r.state).ticks ≡ []
  unfolding play ended said one_by
  unasked_run zero l r w = refl
  unasked_run (suc n) l r w = unasked_by r (first l) _ (tick r.state (reply src (first l) r.state)) _ w refl
      (λ s e. unasked_run n (left_after r.state l) (one_by (Ok s) (reply src (first l) r.state) r)
      (tick_without src h (first l) r.state s w e))

  -- another table
  module _ (t' : ℕ → Option (Option ℕ)) where
    abbrev src' : Source
    src' = record { raw = src.raw; table = t' }

    reply_same : (v : ℕ) (s : PipelineCpu) → Without s → reply src v s ≡ reply src' v s
    unfolding reply look_up
    reply_same v s w = rw (special_none s w)

    same_by : (u : Option End) (o : Result PipelineCpu Refusal) (s : PipelineCpu) (t : Given) (k k' : PipelineCpu → Played)
        → ((x : PipelineCpu) → o ≡ Ok x → k x ≡ k' x) → play_by u o s t k ≡ play_by u o s t k'
    unfolding play_by
    same_by (Some e) o s t k k' h = refl
    same_by None (Err n) s t k k' h = refl
    same_by None (Ok x) s t k k' h = ap (more t) (h x refl)

    same_run : (n : ℕ) (l : List ℕ) (s : PipelineCpu) → Without s → play src n l s ≡ play src' n l s
    unfolding play
    same_run zero l s w = refl
    same_run (suc n) l s w =
        same_by (turn_of s.stages s.counts false (is_empty l)) (tick s (reply src (first l) s)) s
        (reply src (first l) s) _ (λ x. play src' n (left_after s l) x)
        (λ x e. same_run n (left_after s l) x (tick_without src h (first l) s x w e))
        ∙ ap (λ (t : Given). play_by (turn_of s.stages s.counts false (is_empty l)) (tick s t) s t
        (λ x. play src' n (left_after s l) x)) (reply_same (first l) s w)

pub unasked : Unasked
unasked sheet table h limit l r w = unasked_run (sheet_source sheet table) h limit l r w

pub any_table_lem : AnyTable
unfolding ran
any_table_lem sheet l t t' h s w limit =
    rw (same_run (sheet_source sheet t) h (sheet_source sheet t').table limit l s w)
