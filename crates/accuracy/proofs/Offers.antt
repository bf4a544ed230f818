-- A list that agrees with a program's instructions and special registers, tick by tick. Assumes nothing.
use Prim.Native.Nat.{ℕ}
use borrow.Author.Tests.{eq-eqb, eqb-true}
use lib.Dec.{eqb}
use mathlib.Core.Bool.{Bool, ◌&&◌, cond, false, true}
use mathlib.Core.List.{List, [], ◌∷◌}
use mathlib.Core.Path.{◌∙◌, ◌≡◌, ap, refl, sym}
use Rattle.std.specs.Prelude.{Err, None, Ok, Option, Result, Some, ⊤}
use Rattle.std.proofs.lemmas.Bool.{and_parts}
use Rattle.isa.proofs.Bools.{split}
use Rattle.isa.specs.Inquiries.{look_up}
use Rattle.isa.specs.Machine.{Program, Source}
use Rattle.isa.specs.Short.{decoded_of}
use Rattle.pipeline.specs.Ask.{fetch_at, want_fetch, want_special}
use Rattle.pipeline.specs.Tick.{tick}
use Rattle.pipeline.specs.Turn.{reply}
use Rattle.accuracy.proofs.Instructions.{mode_eq}
use Rattle.accuracy.specs.Accuracy.{Agree, AgreeSaid, Run, first_offer, first_said, offered, offered_by, one, said}
use Rattle.accuracy.specs.Accuracy.{said_by, same_mode}
use Rattle.accuracy.specs.Asking.{replies}
use Rattle.accuracy.specs.Names.{Decoded, Given, Mode, Normal, PipelineCpu, Place, RawInstr, Refusal, Short}

-- a tick on state s whose offer, decoded, is the program's instruction there, and which says of a special register what
-- the program says
pub record Meets (prog : Program) (s : PipelineCpu) (t : Given) : Type 0 where
  pub offer : (i : RawInstr) → t.offer ≡ Some i
      → decoded_of i ≡ prog.instruction (fetch_at s).pc (fetch_at s).mode
  pub special : (n : ℕ) → want_special s ≡ Some n → t.special ≡ prog.table n

-- every accepted tick of a list is such
unfoldable pub AllMeet : Program → Run → List Given → Type 0
AllMeet prog r [] = ⊤
AllMeet prog r (t ∷ ts) =
    ((s : PipelineCpu) → tick r.state t ≡ Ok s → Meets prog r.state t) × AllMeet prog (one r t) ts

module _ (f : ℕ → Mode → Decoded) where
  -- an accepted offer is f's instruction for its place
  abbrev IsAt : Result PipelineCpu Refusal → Option RawInstr → Place → Type 0
  IsAt o u p = (s : PipelineCpu) (i : RawInstr) → o ≡ Ok s → u ≡ Some i → decoded_of i ≡ f p.pc p.mode

  -- one tick more agrees exactly if its offer does
  split_agree : (o : Result PipelineCpu Refusal) (u : Option RawInstr) (p : Place) (l : List (Place × Decoded))
      → Agree f (offered_by o u p l) → IsAt o u p × Agree f l
  unfolding offered_by Agree
  split_agree (Err c) u p l a = ((λ s i e k. cc), a)
  split_agree (Ok s) None p l a = ((λ s i e k. cc), a)
  split_agree (Ok s) (Some j) p l a =
      ((λ s i e k. let z : i ≡ j = cc in ap (λ (x : RawInstr). decoded_of x) z ∙ sym a.0), a.1)

  join_agree : (o : Result PipelineCpu Refusal) (u : Option RawInstr) (p : Place) (l : List (Place × Decoded))
      → IsAt o u p → Agree f l → Agree f (offered_by o u p l)
  unfolding offered_by Agree
  join_agree (Err c) u p l h a = a
  join_agree (Ok s) None p l h a = a
  join_agree (Ok s) (Some j) p l h a = (sym (h s j refl refl), a)

module _ (g : ℕ → Option (Option ℕ)) where
  -- what an accepted tick says of a special register is what table g says
  abbrev SaysAt : Result PipelineCpu Refusal → Option ℕ → Option (Option ℕ) → Type 0
  SaysAt o q c = (s : PipelineCpu) (n : ℕ) → o ≡ Ok s → q ≡ Some n → c ≡ g n

  -- one tick more agrees exactly if what it says does
  split_said : (o : Result PipelineCpu Refusal) (q : Option ℕ) (c : Option (Option ℕ))
      (l : List (ℕ × Option (Option ℕ))) → AgreeSaid g (said_by o q c l) → SaysAt o q c × AgreeSaid g l
  unfolding said_by AgreeSaid
  split_said (Err r) q c l a = ((λ s n e k. cc), a)
  split_said (Ok s) None c l a = ((λ s n e k. cc), a)
  split_said (Ok s) (Some m) c l a = ((λ s n e k. let z : m ≡ n = cc in sym a.0 ∙ ap g z), a.1)

  join_said : (o : Result PipelineCpu Refusal) (q : Option ℕ) (c : Option (Option ℕ))
      (l : List (ℕ × Option (Option ℕ))) → SaysAt o q c → AgreeSaid g l → AgreeSaid g (said_by o q c l)
  unfolding said_by AgreeSaid
  join_said (Err r) q c l h a = a
  join_said (Ok s) None c l h a = a
  join_said (Ok s) (Some m) c l h a = (sym (h s m refl refl), a)

-- a list that agrees with a program's instructions and special registers
pub all_meet : (prog : Program) (ts : List Given) (r : Run) → Agree prog.instruction (offered r ts)
    → AgreeSaid prog.table (said r ts) → AllMeet prog r ts
unfolding AllMeet offered said
all_meet prog [] r a b = tt
all_meet prog (t ∷ ts) r a b =
    let x = split_agree prog.instruction (tick r.state t) t.offer (fetch_at r.state) _ a in
    let y = split_said prog.table (tick r.state t) (want_special r.state) t.special _ b in (
      (λ s e. record { offer = λ i k. x.0 s i e k; special = λ n k. y.0 s n e k }),
      all_meet prog ts (one r t) x.1 y.1,
    )

-- the instruction of a reply
reply_is : (b : Bool) (o i : RawInstr) → cond b (Some o) None ≡ Some i → o ≡ i
reply_is true o i e = cc
reply_is false o i e = cc

-- a tick answered from a source offers its instruction
pub reply_offer : (src : Source) (v : ℕ) (s : PipelineCpu) (i : RawInstr) → (reply src v s).offer ≡ Some i
    → decoded_of i ≡ decoded_of (src.raw (fetch_at s).pc (fetch_at s).mode)
unfolding reply
reply_offer src v s i e = ap (λ (x : RawInstr). decoded_of x) (sym (reply_is (want_fetch s) _ i e))

-- and says what the source says
pub reply_special : (src : Source) (v : ℕ) (s : PipelineCpu) (n : ℕ) → want_special s ≡ Some n
    → (reply src v s).special ≡ src.table n
unfolding reply look_up
reply_special src v s n e = rw e

-- so a list so answered agrees with the source
pub source_agrees : (src : Source) (vs : List ℕ) (r : Run)
    → Agree (λ p m. decoded_of (src.raw p m)) (offered r (replies src vs r))
unfolding replies offered Agree
source_agrees src [] r = tt
source_agrees src (v ∷ vs) r =
    let t = reply src v r.state in
    join_agree (λ p m. decoded_of (src.raw p m)) (tick r.state t) t.offer (fetch_at r.state) _
    (λ s i e k. reply_offer src v r.state i k) (source_agrees src vs (one r t))

pub source_says : (src : Source) (vs : List ℕ) (r : Run) → AgreeSaid src.table (said r (replies src vs r))
unfolding replies said AgreeSaid
source_says src [] r = tt
source_says src (v ∷ vs) r =
    let t = reply src v r.state in
    join_said src.table (tick r.state t) (want_special r.state) t.special _
    (λ s n e k. reply_special src v r.state n k) (source_says src vs (one r t))

-- modes compared
mode_self : (m : Mode) → same_mode m m ≡ true
unfolding same_mode
mode_self Normal = refl
mode_self Short = refl

-- what agrees with f agrees with g too once g has f's instruction d put at place q
put_agrees : (f g : ℕ → Mode → Decoded) (q : Place) (d : Decoded) → f q.pc q.mode ≡ d
    → (l : List (Place × Decoded)) → Agree f l → Agree g l
    → Agree (λ p m. cond (eqb p q.pc && same_mode m q.mode) d (g p m)) l
unfolding Agree
put_agrees f g q d h [] a b = tt
put_agrees f g q d h (x ∷ l) a b = (
  split (eqb x.0.pc q.pc && same_mode x.0.mode q.mode)
      (λ z.
      let k : x.0.pc ≡ q.pc = eqb-true _ _ (and_parts _ _ z).0 in
      let m : x.0.mode ≡ q.mode = mode_eq _ _ (and_parts (eqb x.0.pc q.pc) _ z).1 in
      rw z (cc (h, a.0)))
      (λ z. rw z b.0),
  put_agrees f g q d h l a.1 b.1,
)

-- what agrees with any instructions agrees with the first offers
pub first_agrees : (f : ℕ → Mode → Decoded) (l : List (Place × Decoded)) → Agree f l → Agree (first_offer l) l
unfolding Agree first_offer
first_agrees f [] a = tt
first_agrees f (x ∷ l) a = (
  rw (eq-eqb x.0.pc x.0.pc refl, mode_self x.0.mode),
  put_agrees f (first_offer l) x.0 x.1 a.0 l a.1 (first_agrees f l a.1),
)

-- the same of what was said
put_said : (f g : ℕ → Option (Option ℕ)) (m : ℕ) (d : Option (Option ℕ)) → f m ≡ d
    → (l : List (ℕ × Option (Option ℕ))) → AgreeSaid f l → AgreeSaid g l → AgreeSaid (λ n. cond (eqb n m) d (g n)) l
unfolding AgreeSaid
put_said f g m d h [] a b = tt
put_said f g m d h (x ∷ l) a b = (
  split (eqb x.0 m)
      (λ z. let k : x.0 ≡ m = eqb-true _ _ z in rw z (cc (h, a.0)))
      (λ z. rw z b.0),
  put_said f g m d h l a.1 b.1,
)

pub first_says : (g : ℕ → Option (Option ℕ)) (l : List (ℕ × Option (Option ℕ))) → AgreeSaid g l
    → AgreeSaid (first_said l) l
unfolding AgreeSaid first_said
first_says g [] a = tt
first_says g (x ∷ l) a = (
  rw (eq-eqb x.0 x.0 refl),
  put_said g (first_said l) x.0 x.1 a.0 l a.1 (first_says g l a.1),
)
