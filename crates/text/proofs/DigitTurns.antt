-- A turn of each loop over digits: what is left to write, what is left to read.
use mathlib.Core.Path.{◌≡◌, refl, sym, ap, ◌∙◌}
use Prim.Native.Nat.{ℕ, suc, ◌+◌, ◌-◌, ◌*◌, ◌/◌, ◌%◌, ◌≤◌, ◌<◌}
use mathlib.Core.List.{List, [], ◌∷◌, ◌++◌}
use mathlib.Core.Bool.{Bool, true, false, cond, ◌&&◌}
use native.Mathlib.Omega.{arith}
use lib.Dec.{leb, ltb}
use lib.ListN.{length, drop, get_or, set, drop_of_length-le}
use borrow.Author.Tests.{le-leb, lt-leb, ltb-true, ltb-false}
use Rattle.std.specs.List.{position_or_len}
use Rattle.std.proofs.lemmas.List.Recursion.{is_position_or_len}
use Rattle.lists.specs.Lists.{pick, over}
use Rattle.lists.proofs.Same.{and_left, and_right}
use Rattle.lists.proofs.Runs.{drop-first, over_none, over_last}
use Rattle.text.specs.Digits.{digit, digits, value_of, all_digits, read_on, span}
use Rattle.text.proofs.Written.{length_digits}

-- ---- digits: the lowest goes last, the others before it
pub digits-turn : (b at left rest : ℕ) (l : List ℕ) → 0 < left → at + left ≤ length l
    → over at (digits b (left - 1) (rest / b)) (set l (at + (left - 1)) (digit (rest % b))) ≡ over at (digits b left rest) l
unfolding digits
digits-turn b at left rest l p h =
    let j : ℕ = left - 1 in
    let f : left ≡ suc j = omega arith in
    let n : length (digits b j (rest / b)) ≡ j = length_digits b j (rest / b) in
    sym (ap (λ (m : ℕ). over at (digits b m rest) l) f
    ∙ sym (over_last at (digit (rest % b)) (digits b j (rest / b)) l (omega arith))
    ∙ ap (λ (m : ℕ). over at (digits b j (rest / b)) (set l (at + m) (digit (rest % b)))) n)

pub digits-end : (b at left rest : ℕ) (l : List ℕ) → left ≤ 0 → over at (digits b left rest) l ≡ l
unfolding digits
digits-end b at left rest l h = let f : left ≡ 0 = omega arith in rw f (over_none at l)

-- ---- digits read
module _ (b i : ℕ) (l : List ℕ) (h : i < length l) where
  pub all_first : all_digits b (drop i l) ≡ (ltb (value_of (get_or l i 0)) b && all_digits b (drop (i + 1) l))
  unfolding all_digits
  all_first = rw (drop-first i l h)

  pub read-turn : (v : ℕ) → read_on b (v * b + value_of (get_or l i 0)) (drop (i + 1) l) ≡ read_on b v (drop i l)
  unfolding read_on
  read-turn v = rw (drop-first i l h)

-- every character left is a digit, so the next one is, and so are those after it
pub digit-below : (b i : ℕ) (l : List ℕ) → i < length l → all_digits b (drop i l) ≡ true → value_of (get_or l i 0) < b
digit-below b i l h a = ltb-true (value_of (get_or l i 0)) b (and_left _ (all_digits b (drop (i + 1) l)) (sym (all_first b i l h) ∙ a))

pub digits-below : (b i : ℕ) (l : List ℕ) → i < length l → all_digits b (drop i l) ≡ true → all_digits b (drop (i + 1) l) ≡ true
digits-below b i l h a = and_right (ltb (value_of (get_or l i 0)) b) _ (sym (all_first b i l h) ∙ a)

pub all_none : (b i : ℕ) (l : List ℕ) → length l ≤ i → all_digits b (drop i l) ≡ true
unfolding all_digits
all_none b i l h = rw (drop_of_length-le l {i = i} h)

pub read-end : (b i v : ℕ) (l : List ℕ) → length l ≤ i → read_on b v (drop i l) ≡ v
unfolding read_on
read-end b i v l h = rw (drop_of_length-le l {i = i} h)

-- ---- how many digits stand in front: the place of the first character that is none
pub span-place : (b : ℕ) (l : List ℕ) → span b l ≡ position_or_len (λ c. leb b (value_of c)) l
unfolding span
span-place b = is_position_or_len (span b) (λ c. leb b (value_of c)) refl (λ c l. by c (span b l) (ltb (value_of c) b) refl)
  where
    by : (c n : ℕ) (t : Bool) → ltb (value_of c) b ≡ t → pick t (suc n) 0 ≡ cond (leb b (value_of c)) 0 (1 + n)
    by c n true e = rw (lt-leb b (value_of c) (ltb-true (value_of c) b e)) (omega arith)
    by c n false e = rw (le-leb b (value_of c) (ltb-false (value_of c) b e))

pub span-most : (b : ℕ) (l : List ℕ) → span b l ≤ length l
unfolding span
span-most b [] = omega arith
span-most b (c ∷ l) = by (ltb (value_of c) b) (span-most b l)
  where
    by : (t : Bool) → span b l ≤ length l → pick t (suc (span b l)) 0 ≤ suc (length l)
    by true h = omega arith
    by false h = omega arith

-- digits, and then none
pub span-digits : (b : ℕ) (l m : List ℕ) → all_digits b l ≡ true → span b m ≡ 0 → span b (l ++ m) ≡ length l
unfolding span all_digits
span-digits b [] m h k = k
span-digits b (c ∷ l) m h k =
    rw (and_left (ltb (value_of c) b) (all_digits b l) h) (ap suc (span-digits b l m (and_right (ltb (value_of c) b) (all_digits b l) h) k))
