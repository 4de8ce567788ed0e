-- The first line of what is left of a text, and the lines behind it.
use mathlib.Core.Path.{◌≡◌, refl, sym, ◌∙◌}
use Prim.Native.Nat.{ℕ, suc, ◌+◌, ◌-◌, ◌≤◌, ◌<◌}
use mathlib.Core.List.{List, [], ◌∷◌}
use mathlib.Core.Bool.{Bool, true, false, not, cond}
use native.Mathlib.Omega.{arith}
use lib.Dec.{eqb, ltb}
use lib.ListN.{length, take, drop, length-drop}
use lib.Seq.{length-take-le}
use borrow.Author.Tests.{lt-ltb, le-ltb, ltb-true, ltb-false}
use Rattle.std.specs.Prelude.{Option, Some, None}
use Rattle.std.specs.List.{position_or_len}
use Rattle.lists.specs.Lists.{pick}
use Rattle.job_lines.specs.Lines.{line_feed, in_front, cut, line_length, first_line, past_line, between}

-- ---- how long it is: up to the first line feed, or to the end
abbrev feeds : List ℕ → ℕ
feeds t = position_or_len (λ c. eqb c line_feed) t

line-feed : (t : List ℕ) → feeds t < length t → line_length t ≡ feeds t + 1
unfolding line_length
line-feed [] h = absurd (omega arith)
line-feed (c ∷ t) h = by (eqb c line_feed) h (line-feed t)
  where
    by : (b : Bool) → cond (not b) (1 + feeds t) 0 < suc (length t) → (feeds t < length t → line_length t ≡ feeds t + 1) → pick b 1 (suc (line_length t)) ≡ cond (not b) (1 + feeds t) 0 + 1
    by true h e = refl
    by false h e = omega (arith, e (omega arith))

line-end : (t : List ℕ) → length t ≤ feeds t → line_length t ≡ length t
unfolding line_length
line-end [] h = refl
line-end (c ∷ t) h = by (eqb c line_feed) h (line-end t)
  where
    by : (b : Bool) → suc (length t) ≤ cond (not b) (1 + feeds t) 0 → (length t ≤ feeds t → line_length t ≡ length t) → pick b 1 (suc (line_length t)) ≡ suc (length t)
    by true h e = absurd (omega arith)
    by false h e = omega (arith, e (omega arith))

module _ (t : List ℕ) {r : Option ℕ} (e : r ≡ cond (ltb (feeds t) (length t)) (Some (feeds t)) None) where
  pub line-some : (n : ℕ) → r ≡ Some n → line_length t ≡ n + 1
  line-some n f = by (ltb (feeds t) (length t)) refl (sym f ∙ e)
    where
      by : (b : Bool) → ltb (feeds t) (length t) ≡ b → Some n ≡ cond b (Some (feeds t)) None → line_length t ≡ n + 1
      by true g k = let q : n ≡ feeds t = cc in omega (arith, line-feed t (ltb-true (feeds t) (length t) g))
      by false g k = cc

  pub line-none : r ≡ None → line_length t ≡ length t
  line-none f = by (ltb (feeds t) (length t)) refl (sym f ∙ e)
    where
      by : (b : Bool) → ltb (feeds t) (length t) ≡ b → None ≡ cond b (Some (feeds t)) None → line_length t ≡ length t
      by true g k = cc
      by false g k = line-end t (ltb-false (feeds t) (length t) g)

pub line-most : (t : List ℕ) → line_length t ≤ length t
unfolding line_length
line-most [] = omega arith
line-most (c ∷ t) = by (eqb c line_feed) (line-most t)
  where
    by : (b : Bool) → line_length t ≤ length t → pick b 1 (suc (line_length t)) ≤ length (c ∷ t)
    by true h = omega arith
    by false h = omega arith

pub line-least : (t : List ℕ) → 0 < length t → 0 < line_length t
unfolding line_length
line-least [] h = h
line-least (c ∷ t) h = by (eqb c line_feed)
  where
    by : (b : Bool) → 0 < pick b 1 (suc (line_length t))
    by true = omega arith
    by false = omega arith

pub line-long : (t : List ℕ) → length (first_line t) ≡ line_length t
line-long t = length-take-le (line_length t) t (line-most t)

-- from a position up to the place past its line
pub line-between : (at : ℕ) (t : List ℕ) → between at (past_line t at) t ≡ first_line (drop at t)
line-between at t = by (ltb (length t) at) refl
  where
    n : ℕ
    n = line_length (drop at t)

    by : (b : Bool) → ltb (length t) at ≡ b → between at (past_line t at) t ≡ first_line (drop at t)
    by true e =
        let h : length t < at = ltb-true (length t) at e in
        let z : n ≡ 0 = omega (arith, line-most (drop at t), length-drop at t) in
        rw (z, lt-ltb (length t) (at + 0) (omega arith))
    by false e =
        let h : at ≤ length t = ltb-false (length t) at e in
        let m : at + n ≤ length t = omega (arith, line-most (drop at t), length-drop at t) in
        let f : at + n - at ≡ n = omega arith in
        rw (le-ltb (length t) (at + n) m, le-ltb (at + n) at (omega arith), f)

-- ---- cut behind it
pub cut-first : (t : List ℕ) → 0 < length t → cut t ≡ first_line t ∷ cut (drop (line_length t) t)
unfolding cut in_front line_length
cut-first [] h = absurd (omega arith)
cut-first (c ∷ []) h = by (eqb c line_feed)
  where
    by : (b : Bool) → pick b ((c ∷ []) ∷ []) ((c ∷ []) ∷ []) ≡ take (pick b 1 1) (c ∷ []) ∷ cut (drop (pick b 1 1) (c ∷ []))
    by true = refl
    by false = refl
cut-first (c ∷ (d ∷ t)) h = by (eqb c line_feed) (cut-first (d ∷ t) (omega arith))
  where
    by : (b : Bool) → cut (d ∷ t) ≡ first_line (d ∷ t) ∷ cut (drop (line_length (d ∷ t)) (d ∷ t))
        → pick b ((c ∷ []) ∷ cut (d ∷ t)) (in_front c (cut (d ∷ t)))
        ≡ take (pick b 1 (suc (line_length (d ∷ t)))) (c ∷ (d ∷ t)) ∷ cut (drop (pick b 1 (suc (line_length (d ∷ t)))) (c ∷ (d ∷ t)))
    by true e = refl
    by false e = rw e
