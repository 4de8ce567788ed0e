-- A table by its neighbours: it passes a test exactly if each entry passes it with the one before.
use Rattle.std.proofs.Common.{◌≡◌, ℕ, zero, suc, ◌+◌, ◌-◌, ◌<◌, Bool, true, false, List, [], ◌∷◌, length, get_or, leb, refl, sym, arith, MatchBool, add-one}
use Rattle.std.specs.List.{IsAllAdjacentAnswer}
use Rattle.std.specs.List.Sorted.{IsNonDecreasing}
use Rattle.std.specs.Ordering.{is_le, is_some_and, nat_cmp}
use Rattle.std.specs.Prelude.{Some}
use Rattle.std.proofs.lemmas.List.Sorted.{non_decreasing_from_is_sorted}
use borrow.Author.Tests.{le-leb, lt-leb}
use mathlib.Core.Bool.{and-false}
use Rattle.lists.specs.Lists.{part}
use Rattle.lists.proofs.Parts.{get_or-part}
use Rattle.lists.proofs.Runs.{length_part}
use Rattle.layout.specs.Tables.{chain, chained, rises}

module _ (t : ℕ → ℕ → Bool) where
  chain-passes : (a : ℕ) (l : List ℕ) → ((k : ℕ) → k < length l → t (get_or (a ∷ l) k 0) (get_or l k 0) ≡ true) → chain t a l ≡ true
  unfolding chain
  chain-passes a [] h = refl
  chain-passes a (x ∷ l) h = rw (h 0 (omega arith)) (chain-passes x l (λ k i. h (suc k) (omega arith)))

  chain-fails : (a : ℕ) (l : List ℕ) (k : ℕ) → k < length l → t (get_or (a ∷ l) k 0) (get_or l k 0) ≡ false → chain t a l ≡ false
  unfolding chain
  chain-fails a [] k h e = absurd (omega arith)
  chain-fails a (x ∷ l) zero h e = rw e
  chain-fails a (x ∷ l) (suc k) h e = rw (chain-fails x l k (omega arith) e, and-false)

  pub chained_is : (l : List ℕ) (r : Bool) → IsAllAdjacentAnswer (λ a x b. b ≡ t a x) l r → r ≡ chained t l
  unfolding chained
  chained_is [] true h = refl
  chained_is [] false h = absurd (omega (arith, h.1))
  chained_is (a ∷ l) true h = sym (chain-passes a l (λ k i. sym (rw (add-one k) at (h k 0 (omega arith)))))
  chained_is (a ∷ l) false h = sym (chain-fails a l h.0 (omega (arith, h.1)) (sym (rw (add-one h.0) at (h.2 0))))

pub rises_is : (l : List ℕ) (r : Bool) → IsAllAdjacentAnswer (λ x y b. is_some_and is_le (Some (nat_cmp x y)) ≡ b) l r → r ≡ rises l
rises_is l r h = chained_is (λ a x. leb a x) l r (go r (non_decreasing_from_is_sorted l r h))
  where
    go : (r : Bool) → MatchBool r (IsNonDecreasing l) ((k : ℕ) × (k + 1 < length l) × ((d : ℕ) → get_or l (k + 1) d < get_or l k d)) → IsAllAdjacentAnswer (λ a x b. b ≡ leb a x) l r
    go true p = λ k d i. sym (le-leb _ _ (p k (k + 1) d (omega arith) i))
    go false p = (p.0, p.1, λ d. sym (lt-leb _ _ (p.2 d)))

pub last_entry : (a n : ℕ) (w : List ℕ) → a + n < length w → get_or (part a (a + n + 1) w) (length (part a (a + n + 1) w) - 1) 0 ≡ get_or w (a + n) 0
last_entry a n w h =
    let m : length (part a (a + n + 1) w) - 1 ≡ n = omega (arith, length_part a (a + n + 1) w (omega arith)) in
    rw m (get_or-part a (a + n + 1) n w (omega arith))
