-- A turn of each loop that writes, over lists of any type; and what the loops write over a list of numbers, in the words of Lists.
use mathlib.Core.Path.{◌≡◌, refl, sym, ap, ◌∙◌}
use mathlib.Core.List.{List, [], ◌∷◌, ◌++◌, append_assoc}
use Prim.Native.Nat.{ℕ, zero, suc, ◌+◌, ◌-◌, ◌≤◌, ◌<◌}
use native.Mathlib.Omega.{arith}
use lib.ListN.{length, take, drop, get_or, set, replicate, length-set, length-drop, length-replicate}
use lib.Seq.{take-suc, take-set-le, drop-cons, drop-set-add, drop-set-lt, get_or-drop, get_or-set_same}
use Rattle.lists.specs.Lists.{part, over}
use Rattle.lists.proofs.Runs.{length_part}

module _ {A : Type 0} where
  -- one more of the first i written
  pub clear_next : (z : A) (i : ℕ) (l : List A) → i < length l → set (replicate i z ++ drop i l) i z ≡ replicate (suc i) z ++ drop (suc i) l
  clear_next z zero [] h = absurd (omega arith)
  clear_next z zero (x ∷ l) h = refl
  clear_next z (suc i) [] h = absurd (omega arith)
  clear_next z (suc i) (x ∷ l) h = ap (λ (m : List A). z ∷ m) (clear_next z i l (omega arith))

  -- the last of the first n from a on moved up to b: the first i are left
  module _ (a b n i : ℕ) (x : A) (s : List A) (e : n ≡ suc i) (h : a ≤ b) (k : b + i < length s) (read : x ≡ get_or s (a + i) x) where
    pub move_next : take b (set s (b + i) x) ++ (take i (drop a (set s (b + i) x)) ++ drop (b + i) (set s (b + i) x))
        ≡ take b s ++ (take n (drop a s) ++ drop (b + n) s)
    move_next =
        let f : b + i ≡ a + (b - a + i) = omega arith in
        let g : b + n ≡ suc (b + i) = omega arith in
        let m : i < length (drop a s) = rw length-drop (omega arith) in
        let in_range : b + i < length (set s (b + i) x) = rw length-set k in
        let front = take-set-le b s (b + i) x (omega arith) in
        let middle : take i (drop a (set s (b + i) x)) ≡ take i (drop a s) =
        rw f (ap (take i) (drop-set-add a s (b - a + i) x) ∙ take-set-le i (drop a s) (b - a + i) x (omega arith)) in
        let back = drop-cons (set s (b + i) x) (b + i) x in_range
        ∙ ap (λ (y : A). y ∷ drop (suc (b + i)) (set s (b + i) x)) (get_or-set_same s (b + i) x x k)
        ∙ ap (λ (l : List A). x ∷ l) (drop-set-lt (suc (b + i)) s (b + i) x (omega arith)) in
        let last : take (suc i) (drop a s) ≡ take i (drop a s) ++ (x ∷ []) =
        take-suc (drop a s) i x m ∙ ap (λ (y : A). take i (drop a s) ++ (y ∷ [])) (get_or-drop a s i x ∙ sym read) in
        rw (front, middle, back, g, e, last, append_assoc)

-- over a list of numbers
module _ (a : ℕ) (s : List ℕ) where
  pub cleared-over : (e : ℕ) → a ≤ e → take a s ++ (replicate (e - a) 0 ++ drop e s) ≡ over a (replicate (e - a) 0) s
  unfolding over
  cleared-over e h =
      let n : a + length (replicate {A = ℕ} (e - a) 0) ≡ e = omega (arith, length-replicate {A = ℕ} (e - a) 0) in
      rw n refl

  pub moved-over : (b n : ℕ) → a + n ≤ length s → take b s ++ (take n (drop a s) ++ drop (b + n) s) ≡ over b (part a (a + n) s) s
  unfolding over
  moved-over b n h =
      let m : length (part a (a + n) s) ≡ n = length_part a (a + n) s h ∙ omega arith in
      let e : a + n - a ≡ n = omega arith in
      rw (m, e) refl
