-- A text scanned line by line: to the next line feed, how far the line agrees then, and what its line feed does.
use mathlib.Core.Path.{◌≡◌, refl, sym, ap, ◌∙◌}
use mathlib.Core.List.{List, [], ◌∷◌, ◌++◌, append-nil}
use mathlib.Core.Bool.{true, false, not}
use Prim.Native.Nat.{ℕ, suc, ◌+◌, ◌-◌, ◌≤◌, ◌<◌}
use native.Mathlib.Nat.{add-zero}
use native.Mathlib.Omega.{arith}
use lib.Dec.{eqb}
use lib.ListN.{length, drop, get_or, drop_of_length-le}
use borrow.Author.Tests.{eq-eqb, ne_eqb, eqb-true, le-leb, not-true}
use Rattle.memchr.specs.Find.{Nowhere, NoneBefore, Passes, is_byte}
use Rattle.std.specs.Prelude.{Some, None}
use Rattle.lists.specs.Lists.{part}
use Rattle.lists.proofs.Runs.{drop-first, length_part, part-rest, part-drop}
use Rattle.lists.proofs.Parts.{get_or-part}
use Rattle.lists.proofs.Same.{and_left, and_right}
use Rattle.cable_frame.specs.Frame.{line_feed}
use Rattle.cable_scan.specs.Scan.{agreed, line_next, line_on, scanned, scan_on}
use Rattle.cable_scan.specs.Lines.{quiet}

-- ---- no line feed

pub quiet-append : (l m : List ℕ) → quiet l ≡ true → quiet m ≡ true → quiet (l ++ m) ≡ true
unfolding quiet
quiet-append [] m h k = k
quiet-append (b ∷ l) m h k = rw (and_left (not (eqb b line_feed)) (quiet l) h) (quiet-append l m (and_right (not (eqb b line_feed)) (quiet l) h) k)

pub quiet-first : (b : ℕ) (l : List ℕ) → quiet (b ∷ l) ≡ true → eqb b line_feed ≡ false
unfolding quiet
quiet-first b l h = not-true (eqb b line_feed) (and_left (not (eqb b line_feed)) (quiet l) h)

pub quiet-rest : (b : ℕ) (l : List ℕ) → quiet (b ∷ l) ≡ true → quiet l ≡ true
unfolding quiet
quiet-rest b l h = and_right (not (eqb b line_feed)) (quiet l) h

quiet-each : (l : List ℕ) → ((k : ℕ) → k < length l → get_or l k 0 ≡ line_feed → ⊥) → quiet l ≡ true
unfolding quiet
quiet-each [] h = refl
quiet-each (b ∷ l) h = rw (ne_eqb b line_feed (h 0 (omega arith))) (quiet-each l (λ k i. h (suc k) (omega arith)))

-- ---- a line

-- once it is settled how a line starts, it stays so
pub line-settled : (line : ℕ) (v : List ℕ) → agreed ≤ line → quiet v ≡ true → line_on line v ≡ line
unfolding line_on
line-settled line [] h q = refl
line-settled line (b ∷ v) h q = rw (quiet-first b v q, le-leb agreed line h) (line-settled line v h (quiet-rest b v q))

module _ (i : ℕ) (v : List ℕ) (h : i < length v) where
  pub line-turn : (line : ℕ) → line_on line (drop i v) ≡ line_on (line_next line (get_or v i 0)) (drop (i + 1) v)
  unfolding line_on
  line-turn line = rw (drop-first i v h)

  pub quiet-turn : quiet (drop i v) ≡ true → quiet (drop (i + 1) v) ≡ true
  quiet-turn q = quiet-rest (get_or v i 0) (drop (i + 1) v) (rw (drop-first i v h) at q)

pub line-none : (line i : ℕ) (v : List ℕ) → length v ≤ i → line_on line (drop i v) ≡ line
unfolding line_on
line-none line i v h = rw (drop_of_length-le v {i = i} h)

-- ---- a line's end

-- e is where the first line feed from a on stands
pub record Fed (t : List ℕ) (a e : ℕ) : Type 0 where
  pub from : a ≤ e
  pub inside : e < length t
  pub none : quiet (part a e t) ≡ true
  pub here : get_or t e 0 ≡ line_feed

-- what a search of the rest of a text for a line feed tells
module _ (t : List ℕ) (a : ℕ) (h : a ≤ length t) where
  rest_at : (k : ℕ) → a + k < length t → get_or (part a (length t) t) k 0 ≡ get_or t (a + k) 0
  rest_at k i = get_or-part a (length t) k t i

  pub feed-found : (n : ℕ) → NoneBefore (Passes (is_byte line_feed) (part a (length t) t)) 0 (length (part a (length t) t)) n
      → Passes (is_byte line_feed) (part a (length t) t) n → Fed t a (a + n)
  feed-found n f p =
      let l : length (part a (length t) t) ≡ length t - a = length_part a (length t) t (omega arith) in
      let r : a + n < length t = omega (arith, f.high) in
      let m : length (part a (a + n) t) ≡ n = length_part a (a + n) t (omega arith) ∙ omega arith in
      record {
        from = omega arith;
        inside = r;
        none =
            quiet-each (part a (a + n) t) (λ k i w.
            f.before k (omega arith) (omega arith) (eq-eqb _ line_feed (rest_at k (omega arith) ∙ sym (get_or-part a (a + n) k t (omega arith)) ∙ w)));
        here = sym (rest_at n r) ∙ eqb-true _ line_feed p;
      }

  pub feed-missed : Nowhere (Passes (is_byte line_feed) (part a (length t) t)) 0 (length (part a (length t) t)) → quiet (part a (length t) t) ≡ true
  feed-missed f = quiet-each (part a (length t) t) (λ k i w. f k (omega arith) i (eq-eqb _ line_feed w))

-- ---- the scan of a line

scan-quiet : (k line : ℕ) (v r : List ℕ) → quiet v ≡ true → scan_on k line (v ++ r) ≡ scan_on (k + length v) (line_on line v) r
unfolding scan_on line_on
scan-quiet k line [] r q = rw add-zero
scan-quiet k line (b ∷ v) r q =
    let z : k + suc (length v) ≡ k + 1 + length v = omega arith in
    rw (quiet-first b v q, z) (rw (quiet-first b v q) at (scan-quiet (k + 1) (line_next line b) v r (quiet-rest b v q)))

module _ (t : List ℕ) (i e line st : ℕ) (f : Fed t i e) (g : st ≡ line_on line (part i e t)) where
  passed : scan_on i line (drop i t) ≡ scan_on e st (line_feed ∷ drop (e + 1) t)
  passed =
      let n : i + length (part i e t) ≡ e = let m : e ≤ length t = omega (arith, f.inside) in omega (arith, length_part i e t m, f.from) in
      let d : drop e t ≡ line_feed ∷ drop (e + 1) t = drop-first e t f.inside ∙ rw f.here in
      ap (scan_on i line) (sym (part-drop i e t f.from)) ∙ scan-quiet i line (part i e t) (drop e t) f.none ∙ rw (n, g, d)

  pub line-ends : st ≡ agreed → scanned (e + 1) None ≡ scan_on i line (drop i t)
  unfolding scan_on
  line-ends k = sym (passed ∙ rw (eq-eqb st agreed k))

  pub line-on : (st ≡ agreed → ⊥) → scan_on (e + 1) 0 (drop (e + 1) t) ≡ scan_on i line (drop i t)
  unfolding scan_on
  line-on k = sym (passed ∙ rw (ne_eqb st agreed k))

-- the text ends before the line does
pub line-last : (t : List ℕ) (i line st : ℕ) → i ≤ length t → quiet (part i (length t) t) ≡ true → st ≡ line_on line (part i (length t) t)
    → scanned (length t) (Some st) ≡ scan_on i line (drop i t)
unfolding scan_on
line-last t i line st h q g =
    let n : i + length (part i (length t) t) ≡ length t = omega (arith, length_part i (length t) t (omega arith)) in
    let d : part i (length t) t ++ [] ≡ drop i t = append-nil _ ∙ part-rest i t in
    sym (ap (scan_on i line) (sym d) ∙ scan-quiet i line (part i (length t) t) [] q ∙ rw (n, g))
