-- Two runs of one list, number by number.
use mathlib.Core.Path.{◌≡◌, sym, ◌∙◌}
use Prim.Native.Nat.{ℕ, ◌+◌, ◌≤◌, ◌<◌}
use mathlib.Core.List.{List}
use mathlib.Core.Bool.{Bool, true, false, ◌&&◌}
use native.Mathlib.Omega.{arith}
use borrow.Author.Tests.{eq-eqb, ne_eqb}
use lib.ListN.{length, drop, get_or}
use lib.Dec.{eqb}
use Rattle.lists.specs.Lists.{part, same_list}
use Rattle.lists.proofs.Parts.{get_or-part}
use Rattle.lists.proofs.Runs.{length_part}
use Rattle.lists.proofs.Tests.{same-lengths, same_first, same_none}

-- the n numbers of l from a on and those from c on are the same, the first i of both left out
unfoldable pub alike : List ℕ → ℕ → ℕ → ℕ → ℕ → Bool
alike l a c n i = same_list eqb (drop i (part a (a + n) l)) (drop i (part c (c + n) l))

pub length_run : (a n : ℕ) (l : List ℕ) → a + n ≤ length l → length (part a (a + n) l) ≡ n
length_run a n l h = length_part a (a + n) l h ∙ omega arith

-- runs that are not as long as each other
pub runs-differ : (a n c m : ℕ) (l : List ℕ) → a + n ≤ length l → c + m ≤ length l → (m ≡ n → ⊥) → same_list eqb (part a (a + n) l) (part c (c + m) l) ≡ false
runs-differ a n c m l h k d =
    same-lengths eqb (part a (a + n) l) (part c (c + m) l) (λ e. d (sym (length_run c m l k) ∙ sym e ∙ length_run a n l h))

module _ (l : List ℕ) (a c n i : ℕ) (h : a + n ≤ length l) (k : c + n ≤ length l) where
  alike-first : i < n → alike l a c n i ≡ (eqb (get_or l (a + i) 0) (get_or l (c + i) 0) && alike l a c n (i + 1))
  unfolding alike
  alike-first m =
      rw (get_or-part a (a + n) i l (omega arith), get_or-part c (c + n) i l (omega arith)) at
      (same_first eqb i (part a (a + n) l) (part c (c + n) l) (omega (arith, length_run a n l h)) (omega (arith, length_run c n l k)))

  pub alike_next : i < n → get_or l (c + i) 0 ≡ get_or l (a + i) 0 → alike l a c n i ≡ alike l a c n (i + 1)
  alike_next m e = alike-first m ∙ rw (eq-eqb (get_or l (a + i) 0) (get_or l (c + i) 0) (sym e))

  pub alike-not : i < n → (get_or l (c + i) 0 ≡ get_or l (a + i) 0 → ⊥) → alike l a c n i ≡ false
  alike-not m d = alike-first m ∙ rw (ne_eqb (get_or l (a + i) 0) (get_or l (c + i) 0) (λ e. d (sym e)))

  pub alike_all : n ≤ i → alike l a c n i ≡ true
  unfolding alike
  alike_all m = same_none eqb i (part a (a + n) l) (part c (c + n) l) (omega (arith, length_run a n l h)) (omega (arith, length_run c n l k))
