-- An accepted tick keeps the bounds: refusal 11 never arises from a state within them. Assumes nothing.
use Prim.Native.Nat.{◌≤◌, ℕ}
use borrow.Author.Tests.{le-ltb, ltb-false, ltb-true}
use lib.Dec.{ltb}
use mathlib.Core.Bool.{Bool, cond, false, not, true}
use mathlib.Core.List.{List}
use mathlib.Core.Path.{◌≡◌, refl, subst}
use native.Mathlib.Omega.{arith}
use Rattle.std.specs.Prelude.{None, Ok, Option, Some, is_some}
use Rattle.std.proofs.lemmas.Bool.{and_parts, not-false, or_parts}
use Rattle.isa.proofs.Bools.{split}
use Rattle.isa.specs.Effect.{gives, goes_on, marked, no_access, raises}
use Rattle.isa.specs.Inquiries.{fill, mfsr_with}
use Rattle.isa.specs.Operands.{bare, ok_dest, ok_operands, operands_n, operands_of, plain}
use Rattle.isa.specs.Refusals.{ok_decoded, ok_instruction, ok_raw}
use Rattle.isa.specs.Short.{decode_short, decoded_of}
use Rattle.latch.specs.Bounds.{bad_ex_mem, bad_id_ex, bad_if_id, bad_mem_wb, bad_width}
use Rattle.latch.specs.Decode.{decode_predicted, id_ex_by, id_ex_of}
use Rattle.latch.specs.Execute.{effect_from, effect_in, ex_mem_of, raised_or}
use Rattle.latch.specs.Latches.{cleared, empty_ex_mem, empty_id_ex, empty_if_id, empty_mem_wb}
use Rattle.latch.specs.Memory.{dest_after, loads, mem_wb_of, passed_on, stores, value_after, writes_after}
use Rattle.latch.specs.Retire.{halts}
use Rattle.pipeline.specs.Advance.{advance, idle, move_of, next, resting, waiting}
use Rattle.pipeline.specs.Retire.{retire}
use Rattle.pipeline.specs.Start.{fresh}
use Rattle.pipeline.specs.Tick.{ok_offer, raw_of, taken, tick}
use Rattle.stages.specs.Advance.{advance_by, advance_stages, awake, id_ex_after, if_id_after, place_after, wait_after}
use Rattle.stages.specs.Advance.{wait_for_memory, waits_for_memory}
use Rattle.stages.specs.Counting.{counted, flushes, stalls}
use Rattle.stages.specs.Execute.{effect_for, executed, executed_by}
use Rattle.stages.specs.Fetch.{fetch_from, fetch_place, fetched, next_id_ex, place_or}
use Rattle.stages.specs.Move.{is_wait, next_ex_mem}
use Rattle.stages.specs.Refusals.{out_of_bounds}
use Rattle.stages.specs.Retire.{retire_stages}
use Rattle.accuracy.proofs.Instructions.{dest_in, short_ok, sources_in, waits_in, width_in}
use Rattle.accuracy.proofs.Took.{took, waits_told}
use Rattle.accuracy.specs.Names.{Effect, ExMem, Exception, Given, IdEx, IfId, Mode, Move, PipelineCpu, Place}
use Rattle.accuracy.specs.Names.{RawInstr, RawNormal, RawShort, Stages, Start, Taken, begin_wait, keep_waiting}
use Rattle.accuracy.specs.Names.{load_use_stall, proceed, redirect}

-- the bounds, one by one
pub record Within (l : Stages) : Type 0 where
  pub if_id : bad_if_id l.if_id ≡ false
  pub id_ex : bad_id_ex l.id_ex ≡ false
  pub ex_mem : bad_ex_mem l.ex_mem ≡ false
  pub mem_wb : bad_mem_wb l.mem_wb ≡ false
  pub wait : l.ex_cycles_left ≤ 15
  pub left : l.wait_left ≤ 2000

pub within : (l : Stages) → out_of_bounds l ≡ false → Within l
unfolding out_of_bounds
within l e =
    let a = or_parts (bad_if_id l.if_id) _ e in
    let b = or_parts (bad_id_ex l.id_ex) _ a.1 in
    let c = or_parts (bad_ex_mem l.ex_mem) _ b.1 in
    let d = or_parts (bad_mem_wb l.mem_wb) _ c.1 in
    let f = or_parts (ltb 15 l.ex_cycles_left) _ d.1 in
    record {
      if_id = a.0;
      id_ex = b.0;
      ex_mem = c.0;
      mem_wb = d.0;
      wait = ltb-false 15 l.ex_cycles_left f.0;
      left = ltb-false 2000 l.wait_left f.1;
    }

pub in_bounds : (l : Stages) → Within l → out_of_bounds l ≡ false
unfolding out_of_bounds
in_bounds l w =
    rw (w.if_id, w.id_ex, w.ex_mem, w.mem_wb, le-ltb 15 l.ex_cycles_left w.wait)
    (le-ltb 2000 l.wait_left w.left)

-- operands in bounds
over : (n : ℕ) → ltb n 32 ≡ true → ltb 31 n ≡ false
over n e = let h = ltb-true n 32 e in le-ltb 31 n (omega arith)

raw_ok : (r : RawInstr) → ok_raw r ≡ true → ok_operands (operands_of (decoded_of r)) ≡ true
unfolding ok_raw ok_instruction decoded_of operands_of
raw_ok (RawNormal i) e = e
raw_ok (RawShort h) e = short_ok (decode_short h)

raw_code_lem : (r : RawInstr) → ok_raw r ≡ true → ok_decoded (decoded_of r) ≡ true
unfolding ok_raw ok_decoded decoded_of
raw_code_lem (RawNormal i) e = e
raw_code_lem (RawShort h) e = refl

decoded_in : (g : Bool) (r : RawInstr) (p : ℕ) (m : Mode) (rs : List ℕ) → ok_raw r ≡ true
    → bad_id_ex (id_ex_of g (decoded_of r) p m rs) ≡ false
unfolding bad_id_ex id_ex_of id_ex_by ok_operands
decoded_in g r p m rs e =
    let o = operands_of (decoded_of r) in
    let q = raw_ok r e in
    let q₁ = (and_parts (ltb o.src_a 32) _ q).1 in
    let q₂ = and_parts (ltb o.src_b 32) _ q₁ in
    rw (raw_code_lem r e, q₂.1, over _ (and_parts _ _ q).0, over _ q₂.0)
    (sources_in (decoded_of r))

empty_id_ex_lem : bad_id_ex empty_id_ex ≡ false
unfolding bad_id_ex empty_id_ex ok_decoded ok_instruction ok_operands operands_n bare plain ok_dest
empty_id_ex_lem = refl

empty_ex_mem_lem : bad_ex_mem empty_ex_mem ≡ false
unfolding bad_ex_mem empty_ex_mem ok_decoded ok_instruction bad_width ok_operands operands_n bare plain ok_dest
empty_ex_mem_lem = refl

-- what execute and memory make
raised_in : (x : Option Exception) (e : Effect) → bad_width e.access.mem_size ≡ false
    → bad_width (raised_or x e).access.mem_size ≡ false
unfolding raised_or raises marked no_access bad_width
raised_in None e h = h
raised_in (Some x) e h = refl

effect_in_lem : (u : Bool) (l : IdEx) (x y : ℕ) → bad_width (effect_in u l x y).access.mem_size ≡ false
unfolding effect_in
effect_in_lem u l x y = raised_in l.exception _ (width_in u l.decoded l.pc x y)

said_in : (c : Option (Option ℕ)) → bad_width (mfsr_with c).access.mem_size ≡ false
unfolding mfsr_with raises marked gives goes_on no_access bad_width
said_in None = refl
said_in (Some None) = refl
said_in (Some (Some v)) = refl

-- what is said changes no width
fill_in : (c : Option (Option ℕ)) (e : Effect) → bad_width e.access.mem_size ≡ false
    → bad_width (fill c e).access.mem_size ≡ false
unfolding fill
fill_in c e h = split (is_some e.inquiry)
    (λ q. rw q (said_in c))
    (λ q. rw q h)

latch_in : (l : IdEx) (e : Effect) → bad_id_ex l ≡ false → bad_width e.access.mem_size ≡ false
    → bad_ex_mem (ex_mem_of l e) ≡ false
unfolding bad_id_ex bad_ex_mem ex_mem_of
latch_in l e h w =
    let c = or_parts (not (ok_decoded l.decoded)) _ h in
    let d = not-false _ (or_parts (not (ok_dest l.dest)) _ c.1).0 in
    rw (c.0, dest_in e l.dest d, w)

execute_in : (s : PipelineCpu) (c : Option (Option ℕ)) → bad_id_ex s.stages.id_ex ≡ false
    → bad_ex_mem (executed s.stages s.reg c) ≡ false
unfolding executed executed_by effect_for effect_from
execute_in s c e = by s.stages.id_ex.valid
  where
    by : (b : Bool) → bad_ex_mem (cond b
        (ex_mem_of s.stages.id_ex (fill c (effect_for s.stages s.reg s.stages.id_ex))) empty_ex_mem) ≡ false
    by true = latch_in s.stages.id_ex (fill c (effect_for s.stages s.reg s.stages.id_ex)) e
        (fill_in c _ (effect_in_lem s.stages.user s.stages.id_ex _ _))
    by false = empty_ex_mem_lem

memory_dest : (l : ExMem) (v : ℕ) → ok_dest l.dest ≡ true → ok_dest (mem_wb_of l v).dest ≡ true
unfolding mem_wb_of passed_on dest_after writes_after value_after empty_mem_wb ok_dest loads stores
memory_dest l v h = split l.valid
    (λ e. rw e (split (loads l) (λ a. rw a h) (λ a. rw a (split (stores l) (λ b. rw b) (λ b. rw b h)))))
    (λ e. rw e)

memory_in : (l : ExMem) (v : ℕ) → bad_ex_mem l ≡ false → bad_mem_wb (mem_wb_of l v) ≡ false
unfolding bad_ex_mem bad_mem_wb
memory_in l v h =
    rw (memory_dest l v
    (not-false _ (or_parts (not (ok_dest l.dest)) _ (or_parts (not (ok_decoded l.decoded)) _ h).1).0))

next_in : (s : PipelineCpu) → bad_if_id s.stages.if_id ≡ false → bad_id_ex (next_id_ex s.stages s.reg) ≡ false
unfolding next_id_ex decode_predicted bad_if_id
next_in s e = split s.stages.if_id.valid
    (λ z. rw z (decoded_in _ s.stages.if_id.raw s.stages.if_id.pc s.stages.if_id.mode s.reg (not-false _ e)))
    (λ z. rw z empty_id_ex_lem)

fetched_in : (b : Bool) (l : IfId) (q : Place) (i : RawInstr) → bad_if_id l ≡ false → ok_raw i ≡ true
    → bad_if_id (fetched b l q i) ≡ false
unfolding fetched cleared bad_if_id
fetched_in true l q i e h = rw h
fetched_in false l q i e h = e

cleared_in : (l : IfId) → bad_if_id l ≡ false → bad_if_id (cleared l) ≡ false
unfolding cleared bad_if_id
cleared_in l e = e

held_in : (b : Bool) (l : IfId) → bad_if_id l ≡ false → bad_if_id (cond b (cleared l) l) ≡ false
held_in true l e = cleared_in l e
held_in false l e = e

wait_in : (b : Bool) (n : ℕ) → n ≤ 15 → cond b 0 n ≤ 15
wait_in true n h = omega arith
wait_in false n h = h

-- retirement, each move, a tick that moves nothing
pub retire_in : (l : Stages) → Within l → Within (retire_stages l)
unfolding retire_stages
retire_in l w = split (halts l.mem_wb)
    (λ e. record {
      if_id = rw e (cleared_in l.if_id w.if_id);
      id_ex = rw e empty_id_ex_lem;
      ex_mem = rw e
          empty_ex_mem_lem;
      mem_wb = w.mem_wb;
      wait = rw e (omega arith);
      left = w.left;
    })
    (λ e. record {
      if_id = rw e w.if_id;
      id_ex = rw e w.id_ex;
      ex_mem = rw e w.ex_mem;
      mem_wb =
          w.mem_wb;
      wait = rw e w.wait;
      left = w.left;
    })

advance_in : (m : Move) (s : PipelineCpu) (x : Taken) → Within s.stages → ok_raw x.raw ≡ true → x.wait ≤ 2000
    → Within (advance m s x).stages
unfolding advance advance_by advance_stages id_ex_after if_id_after is_wait wait_after place_after counted stalls
    flushes place_or fetch_from next_ex_mem
advance_in keep_waiting s y w h n = record {
  if_id = w.if_id;
  id_ex = w.id_ex;
  ex_mem = empty_ex_mem_lem;
  mem_wb = memory_in s.stages.ex_mem y.answer w.ex_mem;
  wait = let k = w.wait in omega arith;
  left = n;
}
advance_in begin_wait s y w h n = record {
  if_id = w.if_id;
  id_ex = w.id_ex;
  ex_mem = empty_ex_mem_lem;
  mem_wb = memory_in s.stages.ex_mem y.answer w.ex_mem;
  wait = waits_in s.stages.id_ex.decoded;
  left = n;
}
advance_in (load_use_stall g) s y w h n = record {
  if_id = held_in (is_some g) s.stages.if_id w.if_id;
  id_ex = empty_id_ex_lem;
  ex_mem = execute_in s y.special w.id_ex;
  mem_wb = memory_in s.stages.ex_mem y.answer w.ex_mem;
  wait = wait_in s.stages.ex_armed _ w.wait;
  left = n;
}
advance_in proceed s y w h n = record {
  if_id = fetched_in s.stages.running s.stages.if_id (fetch_place proceed s.stages) y.raw
      w.if_id h;
  id_ex = next_in
      s w.if_id;
  ex_mem = execute_in s y.special w.id_ex;
  mem_wb = memory_in s.stages.ex_mem y.answer w.ex_mem;
  wait =
      wait_in s.stages.ex_armed _ w.wait;
  left = n;
}
advance_in (redirect t) s y w h n = record {
  if_id = cleared_in _
      (fetched_in s.stages.running s.stages.if_id (fetch_place (redirect t) s.stages) y.raw w.if_id h);
  id_ex = empty_id_ex_lem;
  ex_mem = execute_in s y.special w.id_ex;
  mem_wb = memory_in s.stages.ex_mem y.answer w.ex_mem;
  wait =
      wait_in s.stages.ex_armed _ w.wait;
  left = n;
}

waiting_in : (s : PipelineCpu) → Within s.stages → Within (waiting s).stages
unfolding waiting wait_for_memory
waiting_in s w = record {
  if_id = w.if_id;
  id_ex = w.id_ex;
  ex_mem = w.ex_mem;
  mem_wb = w.mem_wb;
  wait = w.wait;
  left = (let k = w.left in omega arith);
}

resting_in : (s : PipelineCpu) → Within s.stages → Within (resting s).stages
unfolding resting idle
resting_in s w = by (waits_for_memory s.stages)
  where
    by : (b : Bool) → Within (cond b (waiting s) (idle s)).stages
    by true = waiting_in s w
    by false = w

pub step_in : (s : PipelineCpu) (x : Taken) → Within s.stages → ok_raw x.raw ≡ true → x.wait ≤ 2000
    → Within (next s x).stages
unfolding next retire
step_in s x w h n = by (awake s.stages)
  where
    by : (b : Bool) → Within (cond b (advance (move_of (retire s)) (retire s) x) (resting s)).stages
    by true = advance_in (move_of (retire s)) (retire s) x (retire_in s.stages w) h n
    by false = resting_in s w

offer_in_lem : (o : Option RawInstr) → ok_offer o ≡ true → ok_raw (raw_of o) ≡ true
unfolding ok_offer raw_of ok_raw ok_instruction ok_operands operands_n bare plain ok_dest
offer_in_lem None e = refl
offer_in_lem (Some i) e = e

pub tick_in : (s : PipelineCpu) (t : Given) (s' : PipelineCpu) → tick s t ≡ Ok s' → out_of_bounds s'.stages ≡ false
unfolding taken
tick_in s t s' e =
    let k = took s t s' e in
    in_bounds s'.stages (subst (λ (x : PipelineCpu). Within x.stages) k.is
    (step_in s (taken t) (within s.stages k.bounds) (offer_in_lem t.offer k.fair) (waits_told s t s' k)))

pub fresh_in : (v : Start) → out_of_bounds (fresh v).stages ≡ false
unfolding fresh out_of_bounds bad_if_id bad_id_ex bad_ex_mem bad_mem_wb ok_raw ok_decoded ok_instruction bad_width
    empty_if_id empty_id_ex empty_ex_mem empty_mem_wb ok_operands operands_n bare plain ok_dest
fresh_in v = refl
