-- Each way through a feed.
use mathlib.Core.Path.{◌≡◌}
use mathlib.Core.List.{List, [], ◌∷◌}
use mathlib.Core.Bool.{Bool, true, false}
use Prim.Native.Nat.{ℕ, suc, ◌+◌, ◌≤◌, ◌<◌}
use native.Mathlib.Omega.{arith}
use lib.ListN.{length, take}
use borrow.Author.Tests.{lt-ltb, le-ltb}
use Rattle.lists.specs.Lists.{pick}
use Rattle.cable_scan.specs.Scan.{line_next, ends, scanned, scan_on}
use Rattle.cable_scan.specs.declared.Scanned.{Scanned}
use Rattle.cable_judge.specs.declared.answers.NoFrame.{NoFrame}
use Rattle.std.specs.Prelude.{Some, None, Result, Err}
use Rattle.cable_head.specs.Feed.{head_need, line_at, number_at, scan_of, head_on, left_of, Concludes, feed_step}

scan-most : (k line : ℕ) (t : List ℕ) → (scan_on k line t).taken ≤ k + length t
unfolding scan_on
scan-most k line [] = omega arith
scan-most k line (b ∷ t) = by (ends line b) (scan-most (k + 1) (line_next line b) t)
  where
    by : (e : Bool) → (scan_on (k + 1) (line_next line b) t).taken ≤ k + 1 + length t
        → (pick e (scanned (k + 1) None) (scan_on (k + 1) (line_next line b) t)).taken ≤ k + suc (length t)
    by true h = omega arith
    by false h = omega arith

-- no more is taken than was fed
pub taken-most : (h t : List ℕ) → (scan_of h t).taken ≤ length t
taken-most h t = omega (arith, scan-most 0 (number_at line_at h) t)

pub feed-short : (h t out : List ℕ) → length h < head_need → left_of (Err NoFrame.HeadShort) 0 h out ≡ feed_step h t out
unfolding feed_step
feed-short h t out e = rw (lt-ltb (length h) head_need e)

module _ (h t out : List ℕ) (full : head_need ≤ length h) (s : Scanned) (es : s ≡ scan_of h t) where
  pub taken-inside : s.taken ≤ length t
  taken-inside = rw es (taken-most h t)

  pub feed-on : (line : ℕ) → s.line ≡ Some line → (x : List ℕ) → x ≡ head_on line (take s.taken t) h → left_of (Err NoFrame.Unended) s.taken x out ≡ feed_step h t out
  unfolding feed_step
  feed-on line e x ex =
      let f : (scan_of h t).line ≡ Some line = rw es at e in
      rw (le-ltb (length h) head_need full, f, ex, es)

  pub feed-end : s.line ≡ None → (a : Result ℕ NoFrame) (x o : List ℕ) → Concludes h (take s.taken t) out a x o → left_of a s.taken x o ≡ feed_step h t out
  unfolding feed_step
  feed-end e a x o c =
      let f : (scan_of h t).line ≡ None = rw es at e in
      rw (le-ltb (length h) head_need full, f, c.answer, c.head, c.out, es)
