-- The due time in closed form, and its bound.
use Prim.Native.Nat.{◌*◌, ◌+◌, ◌<◌, ◌≤◌, suc, zero, ℕ}
use mathlib.Core.Bool.{Bool, ◌&&◌, false, true}
use mathlib.Core.Path.{◌∙◌, ◌≡◌, ap, refl, subst, sym}
use native.Mathlib.Omega.{arith}
use Rattle.std.specs.Prelude.{Option, is_some}
use Rattle.isa.proofs.Machine.{did_walk, walk}
use Rattle.isa.specs.Machine.{Arch, Program, instruction_at, machine}
use Rattle.isa.specs.Waits.{is_div, is_mul, is_used_load, waits}
use Rattle.word.specs.Words.{bit}
use Rattle.accuracy.proofs.Instructions.{slow_load, slow_one, waits_is}
use Rattle.accuracy.proofs.Path.{due, slow_turn, swerve_turn}
use Rattle.accuracy.specs.Count.{count, divides, is_redirect, multiplies, path, redirects, retire_tick, used_loads}
use Rattle.accuracy.specs.Names.{Decoded, Place}

pub count_same : (p q : ℕ → Bool) (k : ℕ) → ((n : ℕ) → n < k → p n ≡ q n) → count p k ≡ count q k
unfolding count
count_same p q zero h = refl
count_same p q (suc k) h = rw (h k (omega arith))
    (ap (λ (x : ℕ). x + bit (q k)) (count_same p q k (λ n l. h n (omega arith))))

pub due_time : (prog : Program) (w : Arch) (n : ℕ) → due prog w n ≡ retire_tick prog (λ k. walk prog w k) (suc n)
unfolding due retire_tick multiplies divides used_loads redirects count
due_time prog w zero = let a = waits_is (instruction_at prog (walk prog w 0)) in omega arith
due_time prog w (suc n) = let ih = due_time prog w n in let a = waits_is (instruction_at prog (walk prog w (suc n)))
    in omega arith

-- no more than 15 above the one tick
bits : (u v l r : Bool) → (u && v) ≡ false → (0 < 2 * bit u + 15 * bit v → l ≡ false) →
    (0 < 2 * bit u + 15 * bit v → r ≡ false)
    → (2 * bit u + 15 * bit v) + bit l + 2 * bit r ≤ 15
unfolding bit
bits true true l r e h k = absurd (let z : ◌≡◌ {A = ℕ} 0 1 = cc in omega arith)
bits true false l r e h k = rw (h (omega arith), k (omega arith)) (omega arith)
bits false true l r e h k = rw (h (omega arith), k (omega arith)) (omega arith)
bits false false true true e h k = omega arith
bits false false true false e h k = omega arith
bits false false false true e h k = omega arith
bits false false false false e h k = omega arith

cost : (prog : Program) (w : Arch) (j : Decoded) → waits (instruction_at prog w) + bit
    (is_used_load (instruction_at prog w) j) + 2 * bit (is_redirect prog w) ≤ 15
unfolding is_used_load
cost prog w j = subst (λ (k : ℕ). k + bit (is_used_load (instruction_at prog w) j) + 2 * bit (is_redirect prog w) ≤ 15)
    (sym (waits_is (instruction_at prog w))) (bits (is_mul (instruction_at prog w)) (is_div (instruction_at prog w))
    (is_used_load (instruction_at prog w) j) (is_redirect prog w) (slow_one (instruction_at prog w))
    (λ h. rw (slow_load (instruction_at prog w) (subst (λ (n : ℕ). 0 < n) (sym (waits_is (instruction_at prog w)))
    h)))
    (λ h. sym (swerve_turn prog w) ∙ ap (λ (g : Option Place). is_some g)
    (slow_turn prog w (subst (λ (n : ℕ). 0 < n) (sym (waits_is (instruction_at prog w))) h))))

bound_by : (prog : Program) (w : Arch) (n : ℕ)
    → due prog w n + bit (is_used_load (instruction_at prog (walk prog w n))
    (instruction_at prog (walk prog w (suc n))))
    + 2 * bit (is_redirect prog (walk prog w n)) ≤ 16 * suc n + 4
unfolding due
bound_by prog w zero = let c = cost prog (walk prog w 0) (instruction_at prog (walk prog w 1)) in omega arith
bound_by prog w (suc n) =
    let c = cost prog (walk prog w (suc n)) (instruction_at prog (walk prog w (suc (suc n)))) in
    let ih = bound_by prog w n in omega arith

pub bound : (prog : Program) (w : Arch) (n : ℕ) → due prog w n ≤ 16 * suc n + 4
bound prog w n = let h = bound_by prog w n in omega arith

-- on the machine's own path, while it has done every instruction
pub time_path : (prog : Program) (w : Arch) (k : ℕ) → (machine prog w (suc k)).done ≡ suc k
    → retire_tick prog (λ n. path prog w n) (suc k) ≡ retire_tick prog (λ n. walk prog w n) (suc k)
unfolding retire_tick multiplies divides used_loads redirects path
time_path prog w k e =
    let h : (n : ℕ) → n ≤ k → (machine prog w n).arch ≡ walk prog w n = λ n l. did_walk prog w (suc k) e n
    (omega arith) in
    let m = count_same (λ n. is_mul (instruction_at prog (machine prog w n).arch))
    (λ n. is_mul (instruction_at prog (walk prog w n))) (suc k) (λ n l. rw (h n (omega arith))) in
    let d = count_same (λ n. is_div (instruction_at prog (machine prog w n).arch))
    (λ n. is_div (instruction_at prog (walk prog w n))) (suc k) (λ n l. rw (h n (omega arith))) in
    let u = count_same (λ n. is_used_load (instruction_at prog (machine prog w n).arch)
    (instruction_at prog (machine prog w (suc n)).arch))
    (λ n. is_used_load (instruction_at prog (walk prog w n)) (instruction_at prog (walk prog w (suc n)))) k
    (λ n l. cc (h n (omega arith), h (suc n) l)) in
    let r = count_same (λ n. is_redirect prog (machine prog w n).arch) (λ n. is_redirect prog (walk prog w n)) k
    (λ n l. rw (h n (omega arith))) in
    rw (m, d, u, r)
