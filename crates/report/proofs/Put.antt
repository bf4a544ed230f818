-- Putting one text behind another puts both.
use Rattle.std.proofs.Common.{◌≡◌, ℕ, ◌+◌, ◌-◌, min, List, [], ◌++◌, length, take, ◌∙◌, sym, refl}
use Rattle.std.proofs.Common.{append_assoc, append-nil, arith}
use Rattle.std.proofs.Math.Nat.{add-sub_cancel_left}
use Rattle.std.proofs.Math.Seq.{take-length}
use Rattle.report.proofs.Written.{count_more, room_is, written_more}
use Rattle.report.specs.Inner.{Holds, Puts}
use Rattle.report.specs.Written.{written, written_count}
use Rattle.report.specs.declared.Text.{Text}
use borrow.Rule.Slice.PartMut.{put_mid}

-- n bytes of t copied behind what b holds, as many as there is room for
pub put_copied : {b c : Text} {t zs : List ℕ} {n : ℕ} → n ≡ min (length t) (length b.out.now - b.len) → zs ≡ take n t
    → c.out.ghost_name ≡ b.out.ghost_name → c.out.now ≡ put_mid b.len (b.len + n - b.len) b.out.now zs
    → c.len ≡ b.len + n → Puts b t c
put_copied {b} {c} {t} {zs} {n} fits copied same out len = record {
  same_reference = same;
  behind = λ l text h.
      let e : n ≡ min (length t) (length l - length text) = rw (h.buffer, h.len, room_is) at fits in
      record {
        buffer = out ∙ rw (add-sub_cancel_left, copied, h.len, h.buffer) (sym (written_more text t l n e));
        len = len ∙ rw h.len (sym (count_more text t l n e));
      };
}

pub holds_none : (l : List ℕ) (b : Text) → b.out.now ≡ l → b.len ≡ 0 → Holds l [] b
unfolding written written_count
holds_none l b same e = record { buffer = rw (same, take-length); len = omega arith }

-- a text that was put into an empty buffer stands there whole
pub held : {l t : List ℕ} {b c : Text} → Holds l [] b → Puts b t c → Holds l t c
held {l} {t} h p = p.behind l [] h

pub put_both : {b c d : Text} {s t : List ℕ} → Puts b s c → Puts c t d → Puts b (s ++ t) d
put_both {b} {c} {d} {s} {t} p q = record {
  same_reference = q.same_reference ∙ p.same_reference;
  behind = λ l text h. rw append_assoc at (q.behind l (text ++ s) (p.behind l text h));
}

pub put_nothing : (b : Text) → Puts b [] b
put_nothing b = record { same_reference = refl; behind = λ l text h. rw append-nil h }
