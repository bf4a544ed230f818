-- What the accuracy rule counts, read off the one-at-a-time machine's path; no part of the pipeline stands here.
use Rattle.std.specs.Prelude.{◌*◌, ◌+◌, pred, suc, zero, ℕ, Bool, cond, not, Option, is_some}
use Rattle.isa.specs.Machine.{Arch, Program, effect_at, instruction_at, machine}
use Rattle.isa.specs.Waits.{is_div, is_mul, is_used_load, predict}
use Rattle.word.specs.Words.{bit}
use Rattle.accuracy.specs.Names.{Place}

-- the prediction at an instruction
unfoldable pub predict_at : Program → Arch → Option Place
predict_at prog w = predict (instruction_at prog w) w.pc w.mode

-- a redirect: taken and not predicted so, or predicted taken and not taken
unfoldable pub is_redirect : Program → Arch → Bool
is_redirect prog w =
    cond (is_some (predict_at prog w)) (not (is_some (effect_at prog (instruction_at prog w) w).redirect))
    (is_some (effect_at prog (instruction_at prog w) w).redirect)

-- how many numbers below n pass a test
unfoldable pub count : (ℕ → Bool) → ℕ → ℕ
count p zero = 0
count p (suc n) = count p n + bit (p n)

-- M: multiplies among the first n instructions of a path
unfoldable pub multiplies : Program → (ℕ → Arch) → ℕ → ℕ
multiplies prog at n = count (λ k. is_mul (instruction_at prog (at k))) n

-- D: divides among them
unfoldable pub divides : Program → (ℕ → Arch) → ℕ → ℕ
divides prog at n = count (λ k. is_div (instruction_at prog (at k))) n

-- L: loads used by the very next of them
unfoldable pub used_loads : Program → (ℕ → Arch) → ℕ → ℕ
used_loads prog at n = count (λ k. is_used_load (instruction_at prog (at k)) (instruction_at prog (at (suc k)))) (pred n)

-- R: redirects among the first n - 1
unfoldable pub redirects : Program → (ℕ → Arch) → ℕ → ℕ
redirects prog at n = count (λ k. is_redirect prog (at k)) (pred n)

-- the accepted tick in which the n-th instruction retires
unfoldable pub retire_tick : Program → (ℕ → Arch) → ℕ → ℕ
retire_tick prog at n =
    n + 4 + 2 * multiplies prog at n + 15 * divides prog at n + used_loads prog at n + 2 * redirects prog at n

-- the states that the machine goes through
unfoldable pub path : Program → Arch → ℕ → Arch
path prog w n = (machine prog w n).arch
