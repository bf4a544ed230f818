-- The player as far as the pipeline. Assumes nothing.
use Prim.Native.Nat.{◌+◌, ◌-◌, ◌≤◌, suc, zero, ℕ}
use borrow.Author.Tests.{le-ltb}
use lib.ListN.{get_or, length, length-set}
use lib.Seq.{get_or-set_same}
use mathlib.Core.Bool.{Bool, false, not}
use mathlib.Core.List.{List, [], ◌++◌, ◌∷◌, append_assoc, append-nil}
use mathlib.Core.Path.{◌∙◌, ◌≡◌, ap, refl, subst, sym}
use native.Mathlib.Omega.{arith}
use Rattle.std.specs.Prelude.{Ok}
use Rattle.accuracy.proofs.Accuracy.{live, start_live}
use Rattle.accuracy.proofs.Feeding.{Fed, fed_whole}
use Rattle.accuracy.proofs.Offers.{AllMeet, all_meet}
use Rattle.accuracy.specs.Accuracy.{Run, after, answers, begin}
use Rattle.accuracy.specs.Count.{path, retire_tick}
use Rattle.isa.specs.Machine.{Arch, Program, arch_with, machine, program_of}
use Rattle.pipeline.specs.Start.{fresh}
use Rattle.player.proofs.Plays.{passes, play_halted, play_is}
use Rattle.player.specs.Player as player
use Rattle.player.specs.Player.{Play, checked_play, ended, played, refused_play, reported, unrefused_play, values_of}
use Rattle.runs.proofs.Sheets.{sheet_halted_lem, sheet_halts_lem}
use Rattle.runs.proofs.Ticks.{follows, run_retires, run_ticks}
use Rattle.runs.specs.Run as runs
use Rattle.runs.specs.Run.{checked_run, play, ran, refused_run, run_check}
use Rattle.sheet.proofs.Limit.{by_check, limited}
use Rattle.sheet.specs.Sheet.{limited_check, sheet_check, sheet_source}
use Rattle.agreement.proofs.Parts.{accepted_le, after_last, fed_part, meet_part, part_length}
use Rattle.agreement.proofs.Standing.{Stands, all_stand, live_stands}
use Rattle.agreement.specs.Claims.{EveryList, EveryN, EveryTick, HaltedPlay, HaltedRun, Same}
use Rattle.agreement.specs.Names.{Given, Halted, PipelineCpu, PlayHalted, Played, Ran, Start}

-- a sheet and a limit that are not refused
unrefused : (sheet : List ℕ) (n : ℕ) → sheet_check sheet ≡ Ok tt → n ≤ 1000000 → limited_check sheet n ≡ Ok tt
unfolding limited_check
unrefused sheet n a b = rw (a, le-ltb 1000000 n b)

played_is : (v : Start) (sheet l table : List ℕ) (n : ℕ) → limited_check sheet n ≡ Ok tt
    → played v sheet l table n ≡ reported v (player.play (program_of (sheet_source sheet table) v) n false (arch_with v l))
unfolding played checked_play unrefused_play
played_is v sheet l table n e = rw e

module _ (sheet table : List ℕ) (v : Start) (len : length v.reg ≡ 32) (l : List ℕ) where
  abbrev G : Program
  G = program_of (sheet_source sheet table) v

  abbrev W : Arch
  W = arch_with v l

  wide : length W.reg ≡ 32
  unfolding arch_with
  wide = length-set v.reg 0 0 ∙ len

  nought : get_or W.reg 0 0 ≡ 0
  unfolding arch_with
  nought = get_or-set_same v.reg 0 0 0 (omega arith)

  -- after a list of ticks that meets the premise and feeds the machine l
  list_stands : (ts : List Given) → AllMeet G (begin v) ts → Fed G (begin v) l ts
      → (k : ℕ) × Stands G W wide nought (after (begin v) ts) k
  unfolding begin fresh program_of
  list_stands ts off fe =
      let s = start_live G v refl refl l in
      all_stand G W wide nought ts (begin v) l 0 (live 0 0 0 s refl)
      (live_stands G W wide nought (begin v) 0 l 0 0 0 s (omega arith)) off fe

  -- after the first of a run's ticks
  part_stands : (limit : ℕ) (pre post : List Given)
      → (play (sheet_source sheet table) limit l (fresh v)).ticks ≡ pre ++ post
      → (k : ℕ) × Stands G W wide nought (after (begin v) pre) k
  unfolding begin
  part_stands limit pre post e =
      let f = follows (sheet_source sheet table) v limit l (begin v) in
      list_stands pre
      (meet_part G pre post (begin v) (subst (λ (ts : List Given). AllMeet G (begin v) ts) e f.offers))
      (fed_part G pre post (begin v) l (subst (λ (ts : List Given). Fed G (begin v) l ts) e f.fed))

  -- the play with as many instructions allowed as the machine does
  limit_steps : (k : ℕ) → (machine G W k).done ≡ k
      → ((player.play G k false W).arch ≡ (machine G W k).arch) × (length (player.play G k false W).did ≡ k)
  unfolding machine player.play ended
  limit_steps k d =
      let x = passes G W k d 0 k 0 (omega arith) in
      let y : k + 0 ≡ k = omega arith in (
        ap (λ (n : ℕ). (player.play G n false W).arch) (sym y) ∙ x.arch,
        ap (λ (n : ℕ). length (player.play G n false W).did) (sym y) ∙ x.did ∙ y,
      )

  -- a play with no fewer allowed than the machine does before it halts
  halts_steps : (k n : ℕ) → (machine G W k).done ≡ k → (machine G W k).runs ≡ false → k ≤ n
      → ((player.play G n false W).end ≡ PlayHalted) × ((player.play G n false W).arch ≡ (machine G W k).arch)
      × (length (player.play G n false W).did ≡ k)
  unfolding machine ended
  halts_steps k n d u b =
      let m = n - k in
      let x = passes G W k d m k 0 (omega arith) in
      let y : k + m ≡ n = omega arith in
      let q : player.play G m (not (machine G W k).runs) (machine G W k).arch
      ≡ ended PlayHalted (machine G W k).arch =
      ap (λ (c : Bool). player.play G m (not c) (machine G W k).arch) u ∙ play_halted G m _ in (
        ap (λ (i : ℕ). (player.play G i false W).end) (sym y) ∙ x.end ∙ ap (λ (p : Play). p.end) q,
        ap (λ (i : ℕ). (player.play G i false W).arch) (sym y) ∙ x.arch ∙ ap (λ (p : Play). p.arch) q,
        ap (λ (i : ℕ). length (player.play G i false W).did) (sym y) ∙ x.did
            ∙ ap (λ (p : Play). k + length p.did) q ∙ omega arith,
      )

  -- a play and a list of ticks that stand at the same machine
  same_by : (n k : ℕ) (r : Run) → Stands G W wide nought r k → limited_check sheet n ≡ Ok tt
      → (player.play G n false W).arch ≡ (machine G W k).arch → length (player.play G n false W).did ≡ k
      → Same (played v sheet l table n) r.state
  unfolding reported values_of
  same_by n k r h e a d =
      let q = played_is v sheet l table n e in
      record {
        done = ap (λ (p : Played). p.done) q ∙ d ∙ sym h.count;
        reg = ap (λ (p : Played). p.values.reg) q ∙ ap (λ (w : Arch). w.reg) a ∙ sym h.reg;
        pc = ap (λ (p : Played). p.values.at.pc) q ∙ ap (λ (w : Arch). w.pc) a ∙ sym h.pc;
        mode = ap (λ (p : Played). p.values.at.mode) q ∙ ap (λ (w : Arch). w.mode) a ∙ sym h.mode;
      }

  -- the ticks accepted among the first of a run's
  part_within : (limit : ℕ) (pre post : List Given)
      → (play (sheet_source sheet table) limit l (fresh v)).ticks ≡ pre ++ post → (after (begin v) pre).accepted ≤ limit
  unfolding begin
  part_within limit pre post e =
      let a = accepted_le pre (begin v) in
      let b = part_length pre post in
      let c = ap (λ (ts : List Given). length ts) e in
      let d = (run_ticks (sheet_source sheet table) limit l (begin v)).within in
      omega arith

  -- the play with as many instructions allowed as are retired after a list of ticks
  as_far : (ts : List Given) → (x : (k : ℕ) × Stands G W wide nought (after (begin v) ts) k) → sheet_check sheet ≡ Ok tt
      → x.0 ≤ 1000000
      → let s = (after (begin v) ts).state in
      Same (played v sheet l table s.counts.instructions_executed) s
  as_far ts x e b =
      let h = x.1 in
      let y = limit_steps x.0 h.did in
      subst (λ (k : ℕ). Same (played v sheet l table k) (after (begin v) ts).state) (sym h.count)
      (same_by x.0 x.0 (after (begin v) ts) h (unrefused sheet x.0 e b) y.0 y.1)

pub every_tick_lem : EveryTick
every_tick_lem sheet table v len limit l e pre post q =
    let x = part_stands sheet table v len l limit pre post q in
    let a = part_within sheet table v len l limit pre post q in
    let b = x.1.within in
    let c = limited sheet limit e in
    let d = c.1 in
    as_far sheet table v len l pre x c.0 (omega arith)

pub every_list_lem : EveryList
unfolding program_of
every_list_lem sheet table e v len ts a d b l =
    let m = answers (begin v) ts ++ l in
    let g = program_of (sheet_source sheet table) v in
    let x = list_stands sheet table v len m ts (all_meet g ts (begin v) a d) (fed_whole g (λ w y. refl) ts (begin v) l) in
    let c = x.1.count in
    as_far sheet table v len m ts x e (omega arith)

pub every_n_lem : EveryN
unfolding begin fresh after
every_n_lem sheet table v len limit l zero b = record { pre = []; post = _; split = refl; retired = refl }
every_n_lem sheet table v len limit l (suc N) b =
    let x = run_retires (sheet_source sheet table) v len limit l (suc N) (omega arith) b in
    record {
      pre = x.pre ++ x.here ∷ [];
      post = x.post;
      split = x.split ∙ sym (append_assoc x.pre (x.here ∷ []) x.post);
      retired = ap (λ (r : Run). r.state.counts.instructions_executed) (after_last x.pre x.here (begin v))
          ∙ x.now;
    }

limit_of : (s : PipelineCpu) (sheet : List ℕ) (limit : ℕ) → run_check s sheet limit ≡ Ok tt
    → limited_check sheet limit ≡ Ok tt
unfolding run_check
limit_of s sheet limit e = by_check (limited_check sheet limit)
    (λ a. a)
    (λ r a. absurd (let z = rw a at e in cc))

-- a run that halts was not refused
unrefused_run : (s : PipelineCpu) (sheet l table : List ℕ) (limit : ℕ) → (ran s sheet l table limit).end ≡ Halted
    → (limited_check sheet limit ≡ Ok tt)
    × (ran s sheet l table limit ≡ runs.reported (play (sheet_source sheet table) limit l s))
unfolding ran checked_run refused_run
unrefused_run s sheet l table limit = by_check (run_check s sheet limit)
    (λ a. rw a (λ e. (limit_of s sheet limit a, refl)))
    (λ r a. rw a (λ e. cc))

pub halted_run_lem : HaltedRun
unfolding runs.reported reported begin
halted_run_lem sheet table v len limit l e n b c =
    let r = ran (fresh v) sheet l table limit in
    let p = play (sheet_source sheet table) limit l (fresh v) in
    let u = unrefused_run (fresh v) sheet l table limit e in
    let g = sheet_halted_lem sheet table v len limit l e in
    let x = part_stands sheet table v len l limit p.ticks [] (sym (append-nil p.ticks)) in
    let k = x.0 in
    let h = x.1 in
    let q : r.state ≡ (after (begin v) p.ticks).state =
    ap (λ (z : Ran). z.state) u.1 ∙ (run_ticks (sheet_source sheet table) limit l (begin v)).state in
    let z : r.state.counts.instructions_executed ≡ k =
    ap (λ (s : PipelineCpu). s.counts.instructions_executed) q ∙ h.count in
    let f = subst (λ (i : ℕ). (machine (G sheet table v len l) (W sheet table v len l) i).runs ≡ false) z g.halts in
    let y = halts_steps sheet table v len l k n h.did f (omega arith) in
    let a = limited sheet limit u.0 in
    let w = played_is v sheet l table n (unrefused sheet n a.0 c) in (
      ap (λ (i : Played). i.end) w ∙ y.0,
      subst (λ (s : PipelineCpu). Same (played v sheet l table n) s) (sym q)
          (same_by sheet table v len l n k (after (begin v) p.ticks) h (unrefused sheet n a.0 c) y.1 y.2),
    )

-- a play that halts was not refused
unrefused_play_lem : (v : Start) (sheet l table : List ℕ) (n : ℕ) → (played v sheet l table n).end ≡ PlayHalted
    → limited_check sheet n ≡ Ok tt
unfolding played checked_play refused_play
unrefused_play_lem v sheet l table n = by_check (limited_check sheet n)
    (λ a e. a)
    (λ r a. rw a (λ e. cc))

pub halted_play_lem : HaltedPlay
unfolding reported
halted_play_lem sheet table v len n l e limit b t =
    let u = unrefused_play_lem v sheet l table n e in
    let a = limited sheet n u in
    let g = program_of (sheet_source sheet table) v in
    let w = arch_with v l in
    let q = played_is v sheet l table n u in
    let h = play_is g w n in
    let N = length (player.play g n false w).did in
    let d : (played v sheet l table n).done ≡ N = ap (λ (p : Played). p.done) q in
    let f = h.halted (sym (ap (λ (p : Played). p.end) q) ∙ e) in
    let k = subst (λ (i : ℕ). retire_tick g (λ j. path g w j) i ≤ limit) d t in
    let x = sheet_halts_lem sheet table a.0 v len limit l b N h.did f k in
    let i = h.within in
    let j = x.1 in
    (x.0, (halted_run_lem sheet table v len limit l x.0 n (omega arith) a.1).1)
