-- From any state, damaged ones included: a feed writes only inside its output and its own bytes, takes no more than it is offered, and some byte if it can.
use mathlib.Core.Path.{◌≡◌, refl, sym, ◌∙◌}
use mathlib.Core.List.{List, [], ◌∷◌, ◌++◌}
use mathlib.Core.Bool.{Bool, true, false}
use Prim.Native.Nat.{ℕ, ◌+◌, ◌*◌, ◌≤◌, ◌<◌}
use native.Mathlib.Omega.{arith}
use lib.Dec.{leb, ltb}
use lib.ListN.{length, take, drop, length-append, length-take, length-drop}
use borrow.Author.Tests.{leb-true, leb-false, ltb-true, ltb-false}
use Rattle.std.specs.Prelude.{Option, Some, None, Err}
use Rattle.lists.specs.Lists.{pick}
use Rattle.lists.proofs.Over.{length_over, over-drop}
use Rattle.lists.proofs.Same.{and_left, and_right}
use Rattle.cable_frame.specs.Frame.{frame_size}
use Rattle.cable_scan.specs.Scan.{line_next, ends, scanned, scan_on}
use Rattle.cable_judge.specs.declared.answers.NoFrame.TheVariants as NoFrame
use Rattle.cable_judge.specs.Judge.{told_count, told_size, told_data, is_awaited, fits_out, accepted, outcome, verdict}
use Rattle.cable_judge.proofs.Verdicts.{right, same, awaited-split, length-data}
use Rattle.cable_head.specs.Feed.{line_at, awaited_at, count_at, held_size, head_need, number_at, held_of, numbers, head_with, scan_of, taken_of, stretch_with, verdict_with, Left, left_of, fed_on, fed_end, fed_by, feed_step}
use Rattle.cable_head.proofs.Heads.{length-numbers, short_none}
use Rattle.cable_head.proofs.Feeds.{taken-most}
use Rattle.cable.specs.Inside.{Inside}
use Rattle.cable.specs.Runs.{feeds, offers}
use Rattle.cable.proofs.Held.{with-length}

-- ---- the output keeps its length

verdict-length : (n c : ℕ) (out s : List ℕ) → length (verdict n c out s).out ≡ length out
unfolding verdict
verdict-length n c out s = by (is_awaited n c s) refl (fits_out n (told_size n (told_count n s) s) (length out)) refl
  where
    by : (x : Bool) → is_awaited n c s ≡ x → (y : Bool) → fits_out n (told_size n (told_count n s) s) (length out) ≡ y
        → length (pick x (pick y (accepted n (told_count n s) s out) (outcome (Err NoFrame.OutputShort) n c out)) (outcome (Err NoFrame.NotAwaited) n c out)).out ≡ length out
    by true e true f =
        let d : List ℕ = told_data n (told_count n s) s in
        let k = length-data n c s (and_left (right n c s) (same n c s) (sym (awaited-split n c s) ∙ e)) in
        length_over (n * frame_size) d out (omega (arith, k, leb-true (n * frame_size + told_size n (told_count n s) s) (length out) f))
    by true e false f = refl
    by false e y f = refl

-- ---- the head keeps its length, and the bytes past the need stand

with-past : (s : List ℕ) (line n c : ℕ) (h : List ℕ) → head_need ≤ length h → length s ≤ held_size → drop head_need (head_with s line n c h) ≡ drop head_need h
unfolding head_with
with-past s line n c h full short =
    let a : List ℕ = numbers (length s) line n c in
    let k : length (a ++ s) ≤ head_need = omega (arith, length-append a s, length-numbers (length s) line n c) in
    over-drop 0 (a ++ s) h (omega arith) head_need (omega arith)

-- ---- some byte is taken

scan-least : (k line : ℕ) (t : List ℕ) → k ≤ (scan_on k line t).taken
unfolding scan_on
scan-least k line [] = omega arith
scan-least k line (b ∷ t) = by (ends line b) (scan-least (k + 1) (line_next line b) t)
  where
    by : (e : Bool) → k + 1 ≤ (scan_on (k + 1) (line_next line b) t).taken → k ≤ (pick e (scanned (k + 1) None) (scan_on (k + 1) (line_next line b) t)).taken
    by true h = omega arith
    by false h = omega arith

scan-some : (line : ℕ) (t : List ℕ) → 1 ≤ length t → 1 ≤ (scan_on 0 line t).taken
unfolding scan_on
scan-some line [] h = absurd (omega arith)
scan-some line (b ∷ t) h = by (ends line b) (scan-least (0 + 1) (line_next line b) t)
  where
    by : (e : Bool) → 0 + 1 ≤ (scan_on (0 + 1) (line_next line b) t).taken → 1 ≤ (pick e (scanned (0 + 1) None) (scan_on (0 + 1) (line_next line b) t)).taken
    by true i = omega arith
    by false i = i

-- ---- a feed

module _ (h t out : List ℕ) (full : head_need ≤ length h) where
  end-inside : Inside h t out (fed_end h t out)
  end-inside =
      let v = verdict_with h (taken_of h t) out in
      record {
        most = taken-most h t;
        some = λ _ e. scan-some (number_at line_at h) t e;
        head = with-length [] 0 v.awaited v.count h full (omega arith);
        past = with-past [] 0 v.awaited v.count h full (omega arith);
        out = verdict-length (number_at awaited_at h) (number_at count_at h) out (stretch_with h (taken_of h t));
      }

  on-inside : (line : ℕ) → Inside h t out (fed_on line h t out)
  on-inside line =
      let s : List ℕ = stretch_with h (taken_of h t) in
      let k : length s ≤ held_size = omega (arith, length-take held_size (held_of h ++ taken_of h t)) in
      record {
        most = taken-most h t;
        some = λ _ e. scan-some (number_at line_at h) t e;
        head = with-length s line (number_at awaited_at h) (number_at count_at h) h full k;
        past = with-past s line (number_at awaited_at h) (number_at count_at h) h full k;
        out = refl;
      }

pub feed-inside : (h t out : List ℕ) → Inside h t out (feed_step h t out)
unfolding feed_step
feed-inside h t out = by (ltb (length h) head_need) refl (scan_of h t).line
  where
    by : (x : Bool) → ltb (length h) head_need ≡ x → (y : Option ℕ) → Inside h t out (pick x (left_of (Err NoFrame.HeadShort) 0 h out) (fed_by y h t out))
    by true e y =
        let k : length h < head_need = ltb-true (length h) head_need e in
        record { most = omega arith; some = λ f _. absurd (omega (arith, f)); head = refl; past = refl; out = refl }
    by false e None = end-inside h t out (ltb-false (length h) head_need e)
    by false e (Some line) = on-inside h t out (ltb-false (length h) head_need e) line

-- ---- enough feeds take all of a text

-- as many feeds as the text has bytes, each offered a byte or more
pub all-taken : (ns h t out : List ℕ) → head_need ≤ length h → offers ns ≡ true → length t ≤ length ns → (feeds h out t ns).left ≡ []
unfolding feeds offers
all-taken [] h t out full o e = short_none t e
all-taken (n ∷ ns) h t out full o e =
    let f : Left = feed_step h (take n t) out in
    let i : Inside h (take n t) out f = feed-inside h (take n t) out in
    all-taken ns f.head (drop f.taken t) f.out (omega (arith, i.head)) (and_right (leb 1 n) (offers ns) o) (by (leb 1 (length t)) refl)
  where
    by : (x : Bool) → leb 1 (length t) ≡ x → length (drop (feed_step h (take n t) out).taken t) ≤ length ns
    by true g =
        let a : 1 ≤ n = leb-true 1 n (and_left (leb 1 n) (offers ns) o) in
        let b : 1 ≤ length t = leb-true 1 (length t) g in
        omega (arith, length-drop (feed_step h (take n t) out).taken t, (feed-inside h (take n t) out).some full (omega (arith, length-take n t)))
    by false g = omega (arith, length-drop (feed_step h (take n t) out).taken t, leb-false 1 (length t) g)
