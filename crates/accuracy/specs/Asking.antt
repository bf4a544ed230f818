-- Asking is right: a tick is accepted exactly if it gives what asking names; and lists of ticks made by asking.
use Rattle.std.specs.Prelude.{ℕ, Bool, false, true, List, [], ◌++◌, ◌∷◌, ◌≡◌, Option, None, Some, is_some}
use Rattle.std.specs.Prelude.{option_to_list, Ok, Err}
use Rattle.isa.specs.Machine.{Source}
use Rattle.isa.specs.Short.{decoded_of}
use Rattle.latch.specs.Latches.{empty_ex_mem}
use Rattle.pipeline.specs.Advance.{next}
use Rattle.pipeline.specs.Ask.{ask}
use Rattle.pipeline.specs.Parts.{execute_part}
use Rattle.pipeline.specs.Retire.{retire}
use Rattle.pipeline.specs.Tick.{bad_wait, fits_offer, ok_offer, taken, tick}
use Rattle.pipeline.specs.Turn.{reply}
use Rattle.stages.specs.Advance.{awake}
use Rattle.stages.specs.Execute.{effect_for}
use Rattle.accuracy.specs.Accuracy.{Run, offered, one, said}
use Rattle.accuracy.specs.Names.{ExMem, Given, Load, Origins, PipelineCpu, Place, RawInstr, Refusal, Request, Store}
use Rattle.accuracy.specs.Names.{Wanted}

-- a load is wanted
unfoldable pub is_load : Option Request → Bool
is_load None = false
is_load (Some (Load a w)) = true
is_load (Some (Store a w v)) = false

-- a tick with the offer that is wanted, which 1 does not refuse, an answer exactly where a load is wanted, something
-- said exactly where a special register is asked for, and waits of which 24 refuses none
pub record Gives (w : Wanted) (t : Given) : Type 0 where
  pub offer : fits_offer w.fetch t.offer ≡ true
  pub fair : ok_offer t.offer ≡ true
  pub answer : is_some t.answer ≡ is_load w.request
  pub special : is_some t.special ≡ is_some w.special
  pub fetch_wait : bad_wait (is_some w.fetch) t.fetch_wait ≡ false
  pub load_wait : bad_wait (is_load w.request) t.load_wait ≡ false

-- execution by itself, called with ID/EX once MEM/WB has retired, gives EX/MEM x and the origins o; c: what it is told
abbrev pub Executes : PipelineCpu → Option (Option ℕ) → ExMem → Origins → Type 0
Executes s c x o =
    let s₁ = retire s in
    let d = s₁.stages.id_ex in
    execute_part s₁ d c
    ≡ Ok (record { ex_mem = x; redirect = (effect_for s₁.stages s₁.reg d).redirect; origins = o })

pub record Asking : Type 0 where
  -- what is wanted can be given
  pub given : (w : Wanted) → (t : Given) × Gives w t
  -- a tick that gives it is accepted, and no other
  pub accepts : (s : PipelineCpu) (w : Wanted) (t : Given) → ask s ≡ Ok w → Gives w t
      → tick s t ≡ Ok (next s (taken t))
  pub only : (s s' : PipelineCpu) (w : Wanted) (t : Given) → ask s ≡ Ok w → tick s t ≡ Ok s' → Gives w t
  -- an instruction counts as offered for the address and mode that are wanted
  pub offers : (r : Run) (w : Wanted) (t : Given) (ts : List Given) (p : Place) (i : RawInstr)
      → ask r.state ≡ Ok w → Gives w t → w.fetch ≡ Some p → t.offer ≡ Some i
      → offered r (t ∷ ts) ≡ (p, decoded_of i) ∷ offered (one r t) ts
  -- what is said counts for the special register that is asked for
  pub says : (r : Run) (w : Wanted) (t : Given) (ts : List Given) (n : ℕ) → ask r.state ≡ Ok w → Gives w t
      → w.special ≡ Some n → said r (t ∷ ts) ≡ (n, t.special) ∷ said (one r t) ts
  -- a list's requests grow by the one that is wanted
  pub requests : (r : Run) (w : Wanted) (t : Given) → ask r.state ≡ Ok w → Gives w t
      → (one r t).requests ≡ r.requests ++ option_to_list w.request
  -- the origins shown are those that execution by itself passes on, and it gives the EX/MEM that the tick leaves
  pub shows : (s s' : PipelineCpu) (w : Wanted) (t : Given) (o : Origins) → ask s ≡ Ok w → tick s t ≡ Ok s'
      → w.origins ≡ Some o → Executes s t.special s'.stages.ex_mem o
  -- where none are shown nothing executes: a tick that moves anything leaves EX/MEM empty
  pub hides : (s s' : PipelineCpu) (w : Wanted) (t : Given) → ask s ≡ Ok w → tick s t ≡ Ok s'
      → w.origins ≡ None → awake s.stages ≡ true → s'.stages.ex_mem ≡ empty_ex_mem
  -- where asking is refused, every tick is, with the same refusal
  pub refuses : (s : PipelineCpu) (c : Refusal) (t : Given) → ask s ≡ Err c → tick s t ≡ Err c

-- the ticks of a list that are asked for, answered from a source, with an answer at hand for each
unfoldable pub replies : Source → List ℕ → Run → List Given
replies src [] r = []
replies src (v ∷ vs) r = reply src v r.state ∷ replies src vs (one r (reply src v r.state))
