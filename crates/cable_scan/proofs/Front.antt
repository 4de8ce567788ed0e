-- Runs without a line feed at the front of a text, and what the search of all that is left tells.
use Rattle.std.proofs.Common.{◌≡◌, ℕ, zero, suc, ◌+◌, ◌-◌, ◌*◌, min, ◌≤◌, ◌<◌, Bool, true, false, ◌&&◌, List, [], ◌∷◌, ◌++◌, length, take, drop, get_or, eqb, refl, sym, ap, subst, ◌∙◌, arith, ⊎_elim}
use mathlib.Core.Bool.{not, and_assoc}
use Rattle.std.specs.List.{fold}
use Rattle.std.proofs.lemmas.Bool.{cases_lt, false≢true}
use Rattle.std.proofs.lemmas.List.{get_or-drop, drop-drop, drop_at, get_or_append_left, length-append, length-drop, length-take}
use lib.Seq.{get_or-take}
use Rattle.lists.proofs.Same.{and_left, and_right}
use Rattle.lists.specs.Lists.{part}
use Rattle.lists.proofs.Runs.{length_part}
use Rattle.lists.proofs.Parts.{get_or-part}
use Rattle.memchr.specs.Find.{Nowhere, NoneBefore, Passes, is_byte}
use Rattle.cable_frame.specs.Frame.{line_feed}
use Rattle.cable_scan.specs.Lines.{quiet}

-- a flag that falls at the first line feed
pub none-quiet : (b : Bool) (l : List ℕ) → fold (λ c x. c && not (eqb x line_feed)) b l ≡ (b && quiet l)
unfolding quiet
none-quiet true [] = refl
none-quiet false [] = refl
none-quiet b (x ∷ l) = none-quiet (b && not (eqb x line_feed)) l ∙ and_assoc b (not (eqb x line_feed)) (quiet l)

pub quiet-nowhere : (l : List ℕ) → quiet l ≡ true → (k : ℕ) → k < length l → Passes (is_byte line_feed) l k → ⊥
unfolding quiet
quiet-nowhere [] q k i p = absurd (omega arith)
quiet-nowhere (b ∷ l) q zero i p = false≢true (sym (ap not p) ∙ and_left (not (eqb b line_feed)) (quiet l) q)
quiet-nowhere (b ∷ l) q (suc k) i p = quiet-nowhere l (and_right (not (eqb b line_feed)) (quiet l) q) k (omega arith) p

abbrev pub run_size : ℕ
run_size = 32

-- how much of a text is looked at in runs
abbrev front_size : List ℕ → ℕ
front_size t = min (length t) (16 * run_size)

abbrev pub front : List ℕ → List ℕ
front t = take (front_size t) t

-- a run r after the first p bytes of the front, and s after it
module _ (t : List ℕ) (p : ℕ) (r s : List ℕ) (left : drop p (front t) ≡ r ++ s) (size : length r ≡ run_size) where
  pub run-rest : drop (p + run_size) (front t) ≡ s
  run-rest = sym (drop-drop run_size p (front t)) ∙ ap (drop run_size) left ∙ drop_at r s run_size size

  pub run-inside : p ≤ length t → p + run_size ≤ length t
  run-inside h = omega (arith, ap length left, length-append r s, length-drop p (front t), length-take (front_size t) t)

  pub run-byte : (i : ℕ) → i < length r → get_or r i 0 ≡ get_or t (p + i) 0
  run-byte i h =
      let inside : p + i < front_size t = omega (arith, ap length left, length-append r s, length-drop p (front t), length-take (front_size t) t) in
      sym (get_or_append_left r s 0 i h)
      ∙ sym (ap (λ l. get_or l i 0) left)
      ∙ get_or-drop p (front t) i 0
      ∙ get_or-take (front_size t) t (p + i) 0 inside

-- no line feed in the first f bytes, and a search of r, which follows them
module _ (t : List ℕ) (f : ℕ) (r : List ℕ) (same : (i : ℕ) → i < length r → get_or r i 0 ≡ get_or t (f + i) 0) (inside : f + length r ≤ length t)
    (before : Nowhere (Passes (is_byte line_feed) t) 0 f) where
  in_run : (k : ℕ) → f ≤ k → k < f + length r → Passes (is_byte line_feed) t k → Passes (is_byte line_feed) r (k - f)
  in_run k low high = subst (λ x. is_byte line_feed x ≡ true) (let place : f + (k - f) ≡ k = omega arith in sym (same (k - f) (omega arith) ∙ ap (λ i. get_or t i 0) place))

  pub found-later : (k : ℕ) → NoneBefore (Passes (is_byte line_feed) r) 0 (length r) k → Passes (is_byte line_feed) r k
      → NoneBefore (Passes (is_byte line_feed) t) 0 (length t) (f + k) × Passes (is_byte line_feed) t (f + k)
  found-later k n p = (
    record {
      low = omega arith;
      high = omega (arith, n.high);
      before = λ m low high here.
          ⊎_elim (λ under. before m low under here) (λ from. n.before (m - f) (omega arith) (omega arith) (in_run m from (omega (arith, n.high)) here)) (cases_lt m f);
    },
    subst (λ x. is_byte line_feed x ≡ true) (same k n.high) p,
  )

  pub missed-later : Nowhere (Passes (is_byte line_feed) r) 0 (length r) → (e : ℕ) → e ≡ f + length r → Nowhere (Passes (is_byte line_feed) t) 0 e
  missed-later n e ends k low high here =
      ⊎_elim (λ under. before k low under here) (λ from. n (k - f) (omega arith) (omega arith) (in_run k from (omega arith) here)) (cases_lt k f)

-- what is left after f bytes
pub rest-byte : (t : List ℕ) (f i : ℕ) → i < length (part f (length t) t) → f ≤ length t → get_or (part f (length t) t) i 0 ≡ get_or t (f + i) 0
rest-byte t f i h within = get_or-part f (length t) i t (omega (arith, length_part f (length t) t (omega arith)))
