-- A line's key and its first comma, as the library's searches tell them, and what the line says by its key.
use mathlib.Core.Path.{◌≡◌, refl, sym, ap, ◌∙◌}
use Prim.Native.Nat.{ℕ, suc, ◌+◌, ◌-◌, ◌≤◌}
use mathlib.Core.List.{List, [], ◌∷◌}
use mathlib.Core.Bool.{Bool, true, false, cond, ◌&&◌}
use native.Mathlib.Omega.{arith}
use native.Mathlib.Numerals.{add-one}
use lib.Dec.{eqb, ltb}
use lib.Pointwise.{pointwise}
use Rattle.std.specs.Prelude.{◌==◌, position}
use Rattle.std.specs.List.{position_or_len}
use native.Mathlib.Decide.{ℕ_discrete}
use Rattle.std.proofs.lemmas.List.Recursion.{is_position_or_len}
use lib.ListN.{length, take, drop, length-drop, drop_of_length-le}
use lib.Seq.{take_all}
use borrow.Author.Tests.{eq-eqb, ne_eqb, ltb-false}
use Rattle.lists.specs.Lists.{pick, first_that, holds}
use Rattle.text.specs.Decimal.{read_number}
use Rattle.std.specs.Prelude.{Option, Some, None}
use Rattle.job_items.specs.Item.{is_line, starts_with, value, piece_key, link_key, end_key, pairs, comma, piece_item, link_of, link_item, end_item, item}

-- ---- the key
pub starts-same : (key l : List ℕ) → pointwise eqb key (take (length key) l) ≡ starts_with key l
unfolding starts_with
starts-same [] l = refl
starts-same (k ∷ ks) [] = refl
starts-same (k ∷ ks) (c ∷ l) = ap (λ (b : Bool). eqb k c && b) (starts-same ks l)

-- ---- a link's numbers

no_number : (w : Option ℕ) → link_of w None ≡ None
no_number (Some w) = refl
no_number None = refl

-- the place of the first comma, and how many characters stand before it
abbrev commas : List ℕ → Option ℕ
commas v = position (λ c. c == comma) v

comma-place : (v : List ℕ) → first_that (eqb comma) v ≡ position_or_len (λ c. c == comma) v
unfolding first_that
comma-place = is_position_or_len (first_that (eqb comma)) (λ c. c == comma) refl (λ x xs. by x (first_that (eqb comma) xs) (ℕ_discrete x comma))
  where
    by : (x n : ℕ) → Dec (x ≡ comma) → pick (eqb comma x) 0 (suc n) ≡ cond (eqb x comma) 0 (1 + n)
    by x n (yes e) = rw (eq-eqb comma x (sym e), eq-eqb x comma e)
    by x n (no e) = rw (ne_eqb comma x (λ f. e (sym f)), ne_eqb x comma e) (omega arith)

module _ (v : List ℕ) where
  pub no-comma : None ≡ commas v → None ≡ link_item v
  unfolding link_item holds
  no-comma e = by (ltb (position_or_len (λ c. c == comma) v) (length v)) refl e
    where
      by : (t : Bool) → ltb (position_or_len (λ c. c == comma) v) (length v) ≡ t → None ≡ cond t (Some (position_or_len (λ c. c == comma) v)) None → None ≡ link_item v
      by true f g = cc
      by false f g =
          let k : length v ≤ suc (first_that (eqb comma) v) = omega (arith, ltb-false _ _ f, comma-place v) in
          rw (drop_of_length-le v k) (sym (no_number (read_number (take (first_that (eqb comma) v) v))))

  pub comma-is : (k : ℕ) → Some k ≡ commas v → k ≡ first_that (eqb comma) v
  comma-is k e = by (ltb (position_or_len (λ c. c == comma) v) (length v)) e ∙ sym (comma-place v)
    where
      by : (t : Bool) → Some k ≡ cond t (Some (position_or_len (λ c. c == comma) v)) None → k ≡ position_or_len (λ c. c == comma) v
      by true g = cc
      by false g = cc

  pub comma-parts : (k : ℕ) → Some k ≡ commas v → link_of (read_number (take k v)) (read_number (take (length v - (k + 1)) (drop (k + 1) v))) ≡ link_item v
  unfolding link_item
  comma-parts k e =
      let b : take (length v - (k + 1)) (drop (k + 1) v) ≡ drop (k + 1) v = take_all (length v - (k + 1)) (drop (k + 1) v) (omega (arith, length-drop (k + 1) v)) in
      rw (b, add-one k, comma-is k e)

-- ---- what a line says, by its key

module _ (l : List ℕ) where
  pub no_item : is_line l ≡ false → item l ≡ None
  unfolding item
  no_item e = rw e

  module _ (e : is_line l ≡ true) where
    pub item-piece : starts_with piece_key l ≡ true → item l ≡ piece_item (pairs l)
    unfolding item
    item-piece p = rw (e, p)

    module _ (p : starts_with piece_key l ≡ false) where
      pub item-link : starts_with link_key l ≡ true → item l ≡ link_item (value link_key l)
      unfolding item
      item-link k = rw (e, p, k)

      module _ (k : starts_with link_key l ≡ false) where
        pub item-end : starts_with end_key l ≡ true → item l ≡ end_item (value end_key l)
        unfolding item
        item-end n = rw (e, p, k, n)

        pub item-other : starts_with end_key l ≡ false → item l ≡ None
        unfolding item
        item-other n = rw (e, p, k, n)
