-- Tests of whole lists, an element or a part at a time.
use mathlib.Core.Path.{◌≡◌, refl, ap}
use Prim.Native.Nat.{ℕ, suc, ◌+◌, ◌-◌, ◌≤◌, ◌<◌}
use mathlib.Core.Bool.{Bool, true, false, ◌&&◌, and_assoc, and-false}
use mathlib.Core.List.{List, [], ◌∷◌, ◌++◌}
use native.Mathlib.Omega.{arith}
use lib.Dec.{eqb}
use lib.ListN.{length, drop, get_or, drop_of_length-le}
use Rattle.lists.specs.Lists.{part, zeros, same_list}
use Rattle.lists.proofs.Runs.{drop-first, part-first, part-drop}

pub zeros-append : (l m : List ℕ) → zeros (l ++ m) ≡ (zeros l && zeros m)
unfolding zeros
zeros-append [] m = refl
zeros-append (x ∷ l) m = rw (zeros-append l m, and_assoc)

module _ (a e : ℕ) (l : List ℕ) where
  pub zeros-first : a < e → e ≤ length l → zeros (part a e l) ≡ (eqb (get_or l a 0) 0 && zeros (part (a + 1) e l))
  unfolding zeros
  zeros-first h k = rw (part-first a e l)

  pub zeros-none : e ≤ a → zeros (part a e l) ≡ true
  unfolding zeros
  zeros-none h = let n : e - a ≡ 0 = omega arith in rw n

  pub zeros-part : a ≤ e → zeros (drop a l) ≡ (zeros (part a e l) && zeros (drop e l))
  zeros-part h = rw (part-drop a e l h) at (zeros-append (part a e l) (drop e l))

module _ (t : ℕ → ℕ → Bool) where
  pub same-lengths : (l m : List ℕ) → (length l ≡ length m → ⊥) → same_list t l m ≡ false
  unfolding same_list
  same-lengths [] [] h = absurd (h refl)
  same-lengths [] (y ∷ m) h = refl
  same-lengths (x ∷ l) [] h = refl
  same-lengths (x ∷ l) (y ∷ m) h = rw (same-lengths l m (λ e. h (ap suc e)), and-false)

  pub same_first : (i : ℕ) (l m : List ℕ) → i < length l → i < length m
      → same_list t (drop i l) (drop i m) ≡ (t (get_or l i 0) (get_or m i 0) && same_list t (drop (i + 1) l) (drop (i + 1) m))
  unfolding same_list
  same_first i l m h k = rw (drop-first i l, drop-first i m)

  pub same_none : (i : ℕ) (l m : List ℕ) → length l ≤ i → length m ≤ i → same_list t (drop i l) (drop i m) ≡ true
  unfolding same_list
  same_none i l m h k = rw (drop_of_length-le l {i = i} h, drop_of_length-le m {i = i} k)

  -- two lists in a row, cut at one place
  pub same-append : (a b c d : List ℕ) → length a ≡ length c → same_list t (a ++ b) (c ++ d) ≡ (same_list t a c && same_list t b d)
  unfolding same_list
  same-append [] b [] d h = refl
  same-append [] b (y ∷ c) d h = absurd (omega arith)
  same-append (x ∷ a) b [] d h = absurd (omega arith)
  same-append (x ∷ a) b (y ∷ c) d h = rw (same-append a b c d (omega arith), and_assoc)
