-- A rule of a table: tested once over all entries, it holds at each.
use mathlib.Core.Path.{◌≡◌, ap, sym, ◌∙◌}
use mathlib.Core.Bool.{Bool, true, ◌&&◌}
use mathlib.Core.List.{List, [], ◌∷◌}
use Prim.Native.Nat.{ℕ, zero, suc, ◌+◌, ◌<◌}
use native.Mathlib.Nat.{add-zero, zero-add, add-suc, suc-add, le_of_suc-le-suc, not-suc-le-zero}
use lib.ListN.{length, get_or}
use Rattle.lists.proofs.Same.{and_left, and_right}

-- the rule at each entry and its place, counted from i
unfoldable pub everywhere : {A : Type 0} → (ℕ → A → Bool) → ℕ → List A → Bool
everywhere rule i [] = true
everywhere rule i (x ∷ l) = rule i x && everywhere rule (suc i) l

module _ {A : Type 0} (rule : ℕ → A → Bool) (none : A) where
  from : (l : List A) (i : ℕ) → everywhere rule i l ≡ true → (k : ℕ) → k < length l → rule (i + k) (get_or l k none) ≡ true
  unfolding everywhere
  from [] i t k h = absurd (not-suc-le-zero h)
  from (x ∷ l) i t zero h = rw add-zero (and_left (rule i x) (everywhere rule (suc i) l) t)
  from (x ∷ l) i t (suc k) h =
      ap (λ (m : ℕ). rule m (get_or l k none)) (add-suc i k ∙ sym (suc-add i k))
      ∙ from l (suc i) (and_right (rule i x) (everywhere rule (suc i) l) t) k (le_of_suc-le-suc h)

  pub at_entry : (l : List A) → everywhere rule 0 l ≡ true → (k : ℕ) → k < length l → rule k (get_or l k none) ≡ true
  at_entry l t k h = rw zero-add at (from l 0 t k h)
