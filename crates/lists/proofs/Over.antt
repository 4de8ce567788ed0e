-- What a list holds after another is written over a part of it.
use mathlib.Core.Path.{◌≡◌, refl, ap, ◌∙◌}
use Prim.Native.Nat.{ℕ, ◌+◌, ◌-◌, ◌≤◌, ◌<◌}
use mathlib.Core.List.{List, ◌++◌, append_assoc}
use native.Mathlib.Omega.{arith}
use lib.ListN.{length, take, drop, get_or, length-append, length-take, length-drop, get_or-append}
use lib.Seq.{take-append-le, take_at, drop_at, drop-drop, take-take, get_or-take, get_or-drop, get_or-append-add, length-take-le}
use Rattle.lists.specs.Lists.{part, over}

module _ (i : ℕ) (vs l : List ℕ) (h : i + length vs ≤ length l) where
  pub length_over : length (over i vs l) ≡ length l
  unfolding over
  length_over = simp (length-append, length-take, length-drop) (omega arith)

  pub over-before : (k : ℕ) → k < i → get_or (over i vs l) k 0 ≡ get_or l k 0
  unfolding over
  over-before k b = get_or-append (take i l) _ 0 k (omega (arith, length-take-le i l (omega arith))) ∙ get_or-take i l k 0 b

  pub over-after : (k : ℕ) → i + length vs ≤ k → get_or (over i vs l) k 0 ≡ get_or l k 0
  unfolding over
  over-after k b =
      let m : ℕ = k - (i + length vs) in
      let e : k ≡ length (take i l) + (length vs + m) = omega (arith, length-take-le i l (omega arith)) in
      let f : (i + length vs) + m ≡ k = omega arith in
      ap (λ (j : ℕ). get_or (over i vs l) j 0) e
      ∙ get_or-append-add (take i l) (vs ++ drop (i + length vs) l) (length vs + m) 0
      ∙ get_or-append-add vs (drop (i + length vs) l) m 0
      ∙ get_or-drop (i + length vs) l m 0 ∙ ap (λ (j : ℕ). get_or l j 0) f

  pub over-take : (m : ℕ) → m ≤ i → take m (over i vs l) ≡ take m l
  unfolding over
  over-take m b = take-append-le m (take i l) _ (omega (arith, length-take-le i l (omega arith))) ∙ take-take m i l b

  pub over-drop : (m : ℕ) → i + length vs ≤ m → drop m (over i vs l) ≡ drop m l
  unfolding over
  over-drop m b =
      let k : ℕ = i + length vs in
      let n : length (take i l ++ vs) ≡ k = omega (arith, length-append (take i l) vs, length-take-le i l (omega arith)) in
      let e : k + (m - k) ≡ m = omega arith in
      let f : drop k (over i vs l) ≡ drop k l = rw (← append_assoc) (drop_at (take i l ++ vs) (drop k l) k n) in
      rw (← e, ← drop-drop (m - k) k (over i vs l), f, drop-drop)

  -- what was written stands there
  pub part-over : part i (i + length vs) (over i vs l) ≡ vs
  unfolding over
  part-over =
      let n : i + length vs - i ≡ length vs = omega arith in
      ap (take (i + length vs - i)) (drop_at (take i l) (vs ++ drop (i + length vs) l) i (length-take-le i l (omega arith)))
      ∙ ap (λ (k : ℕ). take k (vs ++ drop (i + length vs) l)) n
      ∙ take_at vs (drop (i + length vs) l) (length vs) refl
