-- RULES 15.3 to 15.8: one claim about a whole list of ticks, from a fresh state.
use Rattle.std.specs.Prelude.{◌*◌, ◌+◌, ◌≤◌, suc, ℕ, ◌==◌, length, Bool, ◌&&◌, cond, false, true, List, [], ◌++◌, ◌∷◌}
use Rattle.std.specs.Prelude.{◌≡◌, ⊤, Option, None, Some, option_to_list, Result, Ok, Err}
use Rattle.isa.specs.Machine.{Arch, Program, arch_with, machine, whole_program}
use Rattle.isa.specs.Short.{decoded_of}
use Rattle.pipeline.specs.Ask.{asks, fetch_at, want_special}
use Rattle.pipeline.specs.Start.{fresh}
use Rattle.pipeline.specs.Tick.{tick, wait_of}
use Rattle.accuracy.specs.Count.{path, retire_tick}
use Rattle.accuracy.specs.Names.{DecNormal, Decoded, Given, Mode, Nop, Normal, PipelineCpu, Place, RawInstr, Refusal}
use Rattle.accuracy.specs.Names.{Request, Short, Start}

-- a list of ticks so far: the state handed back, the accepted ticks, the requests asked for and the waits told in them
pub record Run : Type 0 where
  pub state : PipelineCpu
  pub accepted : ℕ
  pub requests : List Request
  pub waits : ℕ

-- one tick more: a refused one has no number and changes nothing
unfoldable pub one_by : Result PipelineCpu Refusal → Given → Run → Run
one_by (Err c) t r = r
one_by (Ok s) t r = record {
  state = s;
  accepted = suc r.accepted;
  requests = r.requests ++ asks r.state.stages;
  waits = r.waits + wait_of t;
}

unfoldable pub one : Run → Given → Run
one r t = one_by (tick r.state t) t r

unfoldable pub after : Run → List Given → Run
after r [] = r
after r (t ∷ ts) = after (one r t) ts

-- the accepted ticks' answers, in order; a refused tick feeds the machine nothing
unfoldable pub fed : Result PipelineCpu Refusal → Given → List ℕ
fed (Err c) t = []
fed (Ok s) t = option_to_list t.answer

unfoldable pub answers : Run → List Given → List ℕ
answers r [] = []
answers r (t ∷ ts) = fed (tick r.state t) t ++ answers (one r t) ts

-- the instructions offered to accepted ticks, each with the address and mode that it was fetched from
unfoldable pub offered_by : Result PipelineCpu Refusal → Option RawInstr → Place → List (Place × Decoded)
    → List (Place × Decoded)
offered_by (Err c) o p l = l
offered_by (Ok s) None p l = l
offered_by (Ok s) (Some i) p l = (p, decoded_of i) ∷ l

unfoldable pub offered : Run → List Given → List (Place × Decoded)
offered r [] = []
offered r (t ∷ ts) = offered_by (tick r.state t) t.offer (fetch_at r.state) (offered (one r t) ts)

-- each of them is the one that f has for its address and mode
unfoldable pub Agree : (ℕ → Mode → Decoded) → List (Place × Decoded) → Type 0
Agree f [] = ⊤
Agree f (x ∷ l) = (f x.0.pc x.0.mode ≡ x.1) × Agree f l

unfoldable pub same_mode : Mode → Mode → Bool
same_mode Normal Normal = true
same_mode Normal Short = false
same_mode Short Normal = false
same_mode Short Short = true

-- the first of them for address p and mode m, or a NOP
unfoldable pub first_offer : List (Place × Decoded) → ℕ → Mode → Decoded
first_offer [] p m = DecNormal Nop
first_offer (x ∷ l) p m = cond (p == x.0.pc && same_mode m x.0.mode) x.1 (first_offer l p m)

-- what was said of special registers in accepted ticks, each with the number that was asked for
unfoldable pub said_by : Result PipelineCpu Refusal → Option ℕ → Option (Option ℕ) → List (ℕ × Option (Option ℕ))
    → List (ℕ × Option (Option ℕ))
said_by (Err c) q x l = l
said_by (Ok s) None x l = l
said_by (Ok s) (Some n) x l = (n, x) ∷ l

unfoldable pub said : Run → List Given → List (ℕ × Option (Option ℕ))
said r [] = []
said r (t ∷ ts) = said_by (tick r.state t) (want_special r.state) t.special (said (one r t) ts)

-- each of it is what table g says of its number
unfoldable pub AgreeSaid : (ℕ → Option (Option ℕ)) → List (ℕ × Option (Option ℕ)) → Type 0
AgreeSaid g [] = ⊤
AgreeSaid g (x ∷ l) = (g x.0 ≡ x.1) × AgreeSaid g l

-- the first of it for number n, or no such register
unfoldable pub first_said : List (ℕ × Option (Option ℕ)) → ℕ → Option (Option ℕ)
first_said [] n = Some None
first_said (x ∷ l) n = cond (n == x.0) x.1 (first_said l n)

-- the run before its first tick
unfoldable pub begin : Start → Run
begin v = record { state = fresh v; accepted = 0; requests = []; waits = 0 }

-- The N-th retirement in a list: the tick `here` raises the retired count from N - 1 to N. Its number is exact and
-- at most 16N + 4, but for the waits told in earlier accepted ticks, which are added to both; the registers after it
-- are the machine's after N instructions, all done; the requests of earlier accepted ticks are the machine's by then;
-- and the retire place is the machine's.
pub record Retires (prog : Program) (w : Arch) (r : Run) (ts : List Given) (N : ℕ) : Type 0 where
  pub pre : List Given
  pub here : Given
  pub post : List Given
  pub split : ts ≡ pre ++ here ∷ post
  pub before : suc (after r pre).state.counts.instructions_executed ≡ N
  pub now : (one (after r pre) here).state.counts.instructions_executed ≡ N
  pub due : (one (after r pre) here).accepted ≡ retire_tick prog (λ n. path prog w n) N + (after r pre).waits
  pub soon : (one (after r pre) here).accepted ≤ 16 * N + 4 + (after r pre).waits
  pub reg : (one (after r pre) here).state.reg ≡ (machine prog w N).arch.reg
  pub did : (machine prog w N).done ≡ N
  pub requests : (after r pre).requests ≡ (machine prog w N).arch.requests
  pub place : ((one (after r pre) here).state.stages.retire_at.pc ≡ (machine prog w N).arch.pc)
      × ((one (after r pre) here).state.stages.retire_at.mode ≡ (machine prog w N).arch.mode)

-- RULES 15.6: where an address and mode always offer accepted ticks the same instruction, the one offered first, and of
-- each special register the same is always said, what was said first
abbrev pub Demand3 : Type 0
Demand3 =
    (v : Start) (ts : List Given) → length v.reg ≡ 32
    → let r = begin v in
    let f = first_offer (offered r ts) in
    let told = first_said (said r ts) in
    Agree f (offered r ts) → AgreeSaid told (said r ts)
    → (N : ℕ) → 1 ≤ N → N ≤ (after r ts).state.counts.instructions_executed
    → Retires (whole_program v f told) (arch_with v (answers r ts)) r ts N

-- the same for any instructions that the accepted offers agree with, whatever stands where none was offered, and for
-- any table that what was said agrees with
abbrev pub Demand3For : Type 0
Demand3For =
    (f : ℕ → Mode → Decoded) (g : ℕ → Option (Option ℕ)) (v : Start) (ts : List Given) → length v.reg ≡ 32
    → let r = begin v in
    Agree f (offered r ts) → AgreeSaid g (said r ts)
    → (N : ℕ) → 1 ≤ N → N ≤ (after r ts).state.counts.instructions_executed
    → Retires (whole_program v f g) (arch_with v (answers r ts)) r ts N
