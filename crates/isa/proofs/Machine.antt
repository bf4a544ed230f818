-- Facts of the one-at-a-time machine alone: having done N, it ran before each, and stopped at none. Assumes
-- nothing.
use Prim.Native.Nat.{◌<◌, ◌≤◌, suc, zero, ℕ}
use borrow.Author.Tests.{ltb-false, ltb-true}
use lib.Dec.{ltb}
use mathlib.Core.Bool.{cond, false, not, true}
use mathlib.Core.Path.{◌∙◌, ◌≡◌, ap, refl, subst}
use native.Mathlib.Omega.{arith}
use Rattle.isa.proofs.Bools.{split}
use Rattle.isa.specs.Machine.{Arch, Machine, Program, effect_at, instruction_at, machine, machine_by, machine_step}
use Rattle.isa.specs.Machine.{step_by, stops_at}

-- the instruction at the machine's address and mode done
unfoldable pub step : Program → Arch → Arch
step g w = step_by g (instruction_at g w) w

-- every instruction done in turn, with no stopping: the path that the pipeline speculates along
unfoldable pub walk : Program → Arch → ℕ → Arch
walk prog w zero = w
walk prog w (suc n) = step prog (walk prog w n)

-- one instruction done
pub record Does (g : Program) (m m' : Machine) (n : ℕ) : Type 0 where
  pub runs : m.runs ≡ true
  pub did : m.done ≡ n
  pub fine : stops_at g (instruction_at g m.arch) m.arch ≡ false
  pub to : m'.arch ≡ step g m.arch
  pub on : m'.runs ≡ not (effect_at g (instruction_at g m.arch) m.arch).marks.halt

does_step : (g : Program) (m : Machine) (n : ℕ) → m.done ≤ n → (machine_step g m).done ≡ suc n → Does g m
    (machine_step g m) n
unfolding machine_step machine_by step
does_step g m n l e = split m.runs
    (λ u. split (stops_at g (instruction_at g m.arch) m.arch)
    (λ b. absurd (let z : m.done ≡ suc n = rw (u, b) at e in omega arith))
    (λ b. record {
      runs = u;
      did = (let z : suc m.done ≡ suc n = rw (u, b) at e in omega arith);
      fine = b;
      to =
          rw (u, b);
      on = rw (u, b);
    }))
    (λ u. absurd (let z : m.done ≡ suc n = rw u at e in omega arith))

done_step : (g : Program) (m : Machine) → (machine_step g m).done ≤ suc m.done
unfolding machine_step machine_by
done_step g m = split m.runs
    (λ u. split (stops_at g (instruction_at g m.arch) m.arch)
    (λ b. rw (u, b) (omega arith)) (λ b. rw (u, b) (omega arith)))
    (λ u. rw u (omega arith))

pub done_le : (g : Program) (w : Arch) (n : ℕ) → (machine g w n).done ≤ n
unfolding machine
done_le g w zero = omega arith
done_le g w (suc n) = let h = done_le g w n in let k = done_step g (machine g w n) in omega arith

pub did_last : (g : Program) (w : Arch) (n : ℕ) → (machine g w (suc n)).done ≡ suc n → Does g (machine g w n)
    (machine g w (suc n)) n
unfolding machine
did_last g w n e = does_step g (machine g w n) n (done_le g w n) e

pub did_all : (g : Program) (w : Arch) (N : ℕ) → (machine g w N).done ≡ N → (n : ℕ) → n ≤ N → (machine g w n).done
    ≡ n
did_all g w zero e n l = let z : 0 ≡ n = omega arith in subst (λ (x : ℕ). (machine g w x).done ≡ x) z e
did_all g w (suc N) e n l = split (ltb N n)
    (λ q. let h = ltb-true N n q in let z : suc N ≡ n = omega arith in subst (λ (x : ℕ). (machine g w x).done ≡ x)
    z
    e)
    (λ q. let h = ltb-false N n q in did_all g w N (did_last g w N e).did n h)

pub did_next : (g : Program) (w : Arch) (N : ℕ) → (machine g w N).done ≡ N → (n : ℕ) → n < N → Does g
    (machine g w n) (machine g w (suc n)) n
did_next g w N e n l = did_last g w n (did_all g w N e (suc n) l)

pub did_walk : (g : Program) (w : Arch) (N : ℕ) → (machine g w N).done ≡ N → (n : ℕ) → n ≤ N →
    (machine g w n).arch ≡ walk g w n
unfolding walk machine
did_walk g w N e zero l = refl
did_walk g w N e (suc n) l = (did_next g w N e n l).to ∙ ap (λ (x : Arch). step g x)
    (did_walk g w N e n (omega arith))

-- a step that is not stopped
pub isa_goes : (g : Program) (m : Machine) → m.runs ≡ true → stops_at g (instruction_at g m.arch) m.arch ≡
    false
    → machine_step g m ≡ record {
      arch = step g m.arch;
      runs = not (effect_at g (instruction_at g m.arch) m.arch).marks.halt;
      done = suc
          m.done;
    }
unfolding machine_step machine_by step
isa_goes g m a b = λ j. cond (a j) (cond (b j) (record { arch = m.arch; runs = false; done = m.done })
    (record {
      arch = step_by g (instruction_at g m.arch) m.arch;
      runs = not
          (effect_at g (instruction_at g m.arch) m.arch).marks.halt;
      done = suc m.done;
    })) m
