-- A stretch's answer without a word of how it is read: 0 or 10 for the awaited frame as sending writes it, 17 for anything else.
use Rattle.std.specs.Prelude.{Result, Ok, Err}
use mathlib.Core.Path.{◌≡◌, refl, sym, ap, ◌∙◌}
use mathlib.Core.List.{List, [], ◌∷◌}
use mathlib.Core.Bool.{Bool, true, false, ◌&&◌}
use Prim.Native.Nat.{ℕ, suc, ◌+◌, ◌*◌, ◌≤◌, ◌<◌}
use native.Mathlib.Omega.{arith}
use lib.Dec.{eqb}
use lib.ListN.{length}
use lib.Pow.{are_bytes}
use borrow.Author.Tests.{lt-ltb, le-leb, leb-true, ne_eqb, eqb-true}
use Rattle.lists.specs.Lists.{pick, over, Exactly}
use Rattle.lists.proofs.Same.{same-equal, and_left, and_right}
use Rattle.text_hex.specs.Hex.{pair_value, bytes_of}
use Rattle.cable_frame.specs.Frame.{frame, frame_size}
use Rattle.cable_judge.specs.declared.answers.NoFrame.{NoFrame}
use Rattle.cable_judge.specs.Judge.{told_count, told_size, told_data, is_awaited, fits_out, accepted, Outcome, outcome, verdict}
use Rattle.cable_judge.proofs.Verdicts.{Told, right, same, awaited-split, right-facts, length-data}
use Rattle.cable_head.specs.Feed.{feed_number}
use Rattle.cable.specs.Awaited.{Awaited, Rightly}
use Rattle.cable.specs.Runs.{more, told}
use Rattle.cable.proofs.Seen.{answers}

-- what is read of hex pairs are bytes
bytes_read : (l : List ℕ) → are_bytes (bytes_of l) ≡ true
unfolding bytes_of
bytes_read [] = refl
bytes_read (c ∷ []) = refl
bytes_read (c ∷ (d ∷ l)) =
    let h : pair_value c d < 256 = omega arith in
    rw (lt-ltb (pair_value c d) 256 h) (bytes_read l)

module _ (n c : ℕ) (out s : List ℕ) where
  abbrev M : ℕ
  M = told_count n s

  -- what is judged right is the awaited frame
  awaited : is_awaited n c s ≡ true → Awaited n c s M (told_data n M s)
  unfolding told_data
  awaited e =
      let z : (right n c s && same n c s) ≡ true = sym (awaited-split n c s) ∙ e in
      let g : right n c s ≡ true = and_left (right n c s) (same n c s) z in
      let f : Told n M c (told_size n M s) s = right-facts n c s g in
      record {
        below = f.below;
        most = f.most;
        agreed = f.agreed;
        size = rw (length-data n c s g) f.sized;
        bytes = bytes_read _;
        text = same-equal eqb (λ x y. eqb-true x y) s (frame n M (told_data n M s)) (and_right (right n c s) (same n c s) z);
      }

  pub answer-frame : (m : ℕ) (d : List ℕ) → Awaited n c s m d
      → verdict n c out s ≡ pick (fits_out n (length d) (length out)) (outcome (Ok (length d)) (n + 1) m (over (n * frame_size) d out)) (outcome (Err NoFrame.OutputShort) n c out)
  answer-frame m d a = rw a.text (answers n m d c out a.below a.most a.agreed a.size a.bytes)

  refused : is_awaited n c s ≡ false → verdict n c out s ≡ outcome (Err NoFrame.NotAwaited) n c out
  unfolding verdict
  refused e = rw e

  pub answer-other : ((m : ℕ) (d : List ℕ) → Awaited n c s m d → ⊥) → verdict n c out s ≡ outcome (Err NoFrame.NotAwaited) n c out
  answer-other h = by (is_awaited n c s) refl
    where
      by : (t : Bool) → is_awaited n c s ≡ t → verdict n c out s ≡ outcome (Err NoFrame.NotAwaited) n c out
      by true e = absurd (h M (told_data n M s) (awaited e))
      by false e = refused e

-- once all frames are in, any stretch is told 17
pub all_in : (m : ℕ) (out s : List ℕ) → 1 ≤ m → verdict m m out s ≡ outcome (Err NoFrame.NotAwaited) m m out
all_in m out s h = answer-other m m out s (λ k d a. by k a.below (eqb m k) refl (rw (ne_eqb m 0 (λ e. omega arith)) at a.agreed))
  where
    by : (k : ℕ) → m < k → (t : Bool) → eqb m k ≡ t → t ≡ true → ⊥
    by k b t e f = omega (arith, eqb-true m k (e ∙ f))

one : (n c : ℕ) (out s : List ℕ) (l : List (Result ℕ NoFrame)) → length (more (verdict n c out s).answer l) ≡ suc (length l)
unfolding verdict
one n c out s l = by (is_awaited n c s) (fits_out n (told_size n (told_count n s) s) (length out))
  where
    by : (x y : Bool) → length (more (pick x (pick y (accepted n (told_count n s) s out) (outcome (Err NoFrame.OutputShort) n c out)) (outcome (Err NoFrame.NotAwaited) n c out)).answer l) ≡ suc (length l)
    by true true = refl
    by true false = refl
    by false y = refl

-- a stretch is accepted exactly if it is the awaited frame as sending writes it, and finds room
pub accepted-exactly : (n c : ℕ) (out s : List ℕ) → Exactly (feed_number (verdict n c out s).answer ≡ 0) (Rightly n c s out)
accepted-exactly n c out s = record { only = only; when = when }
  where
    fits : (x : Bool) → fits_out n (length (told_data n (told_count n s) s)) (length out) ≡ x → Awaited n c s (told_count n s) (told_data n (told_count n s) s)
        → feed_number (pick x (outcome (Ok (length (told_data n (told_count n s) s))) (n + 1) (told_count n s) (over (n * frame_size) (told_data n (told_count n s) s) out)) (outcome (Err NoFrame.OutputShort) n c out)).answer ≡ 0
        → Rightly n c s out
    fits true e a h = record { count = told_count n s; bytes = told_data n (told_count n s) s; frame = a; room = leb-true _ (length out) e }
    fits false e a h = absurd (let z : ◌≡◌ {A = ℕ} 10 0 = h in omega arith)

    by : (x : Bool) → is_awaited n c s ≡ x → feed_number (verdict n c out s).answer ≡ 0 → Rightly n c s out
    by true e h =
        let a = awaited n c out s e in
        fits (fits_out n (length (told_data n (told_count n s) s)) (length out)) refl a (sym (ap (λ (o : Outcome). feed_number o.answer) (answer-frame n c out s (told_count n s) (told_data n (told_count n s) s) a)) ∙ h)
    by false e h = absurd (let z : ◌≡◌ {A = ℕ} 17 0 = sym (ap (λ (o : Outcome). feed_number o.answer) (refused n c out s e)) ∙ h in omega arith)

    only : feed_number (verdict n c out s).answer ≡ 0 → Rightly n c s out
    only h = by (is_awaited n c s) refl h

    when : Rightly n c s out → feed_number (verdict n c out s).answer ≡ 0
    when r = rw (answer-frame n c out s r.count r.bytes r.frame, le-leb (n * frame_size + length r.bytes) (length out) r.room)

-- each stretch gets one answer
pub each-answered : (n c : ℕ) (out : List ℕ) (ss : List (List ℕ)) → length (told n c out ss).answers ≡ length ss
unfolding told
each-answered n c out [] = refl
each-answered n c out (s ∷ ss) =
    one n c out s (told (verdict n c out s).awaited (verdict n c out s).count (verdict n c out s).out ss).answers
    ∙ ap suc (each-answered (verdict n c out s).awaited (verdict n c out s).count (verdict n c out s).out ss)
