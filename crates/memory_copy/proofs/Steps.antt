-- Numbers copied one by one, and in steps of several: one step, one behind the other, and a last one that overlaps what is written.
use mathlib.Core.Path.{◌≡◌, refl, sym, ap, ◌∙◌}
use Prim.Native.Nat.{ℕ, ◌+◌, ◌-◌, ◌≤◌, ◌<◌}
use mathlib.Core.List.{List, ◌++◌}
use native.Mathlib.Nat.{add-zero}
use native.Mathlib.Omega.{arith}
use lib.ListN.{length, take, drop, get_or, set, length-drop, drop_of_length-le}
use lib.Seq.{length-take-le, take_all, take-add, drop-drop}
use Rattle.lists.specs.Lists.{over}
use Rattle.lists.proofs.Over.{length_over, over-take, over-drop}
use Rattle.lists.proofs.Overs.{over-then}
use Rattle.lists.proofs.Runs.{drop-first, over_none, over_first}

-- ---- one by one: what is left to write gives the same after a turn as before it, and leaves the slice as it is once all is written

-- of vs, written from a on, the numbers from i on are left
module _ (a : ℕ) (vs : List ℕ) (i : ℕ) (s : List ℕ) where
  pub copy-next : i < length vs → a + length vs ≤ length s → over (a + (i + 1)) (drop (i + 1) vs) (set s (a + i) (get_or vs i 0)) ≡ over (a + i) (drop i vs) s
  copy-next h k =
      let n : a + (i + 1) ≡ a + i + 1 = omega arith in
      rw (n, drop-first i vs) (over_first (a + i) (get_or vs i 0) (drop (i + 1) vs) s (omega arith))

  pub copy-all : length vs ≤ i → over (a + i) (drop i vs) s ≡ s
  copy-all h = rw (drop_of_length-le vs {i = i} h) (over_none (a + i) s)

-- ---- written at once, over a part that is lent

pub over-lent-part : (a k : ℕ) (vs l : List ℕ) → length vs ≡ k → take a l ++ (vs ++ drop k (drop a l)) ≡ over a vs l
unfolding over
over-lent-part a k vs l n = rw (n, drop-drop k a l)

-- ---- one step: of vs, written from a on, the k from i on

pub step-lent : (k a i : ℕ) (vs l y : List ℕ) → i + k ≤ length vs → y ≡ take (i + k - i) (drop i vs)
    → take (a + i) l ++ (y ++ drop (a + i + k - (a + i)) (drop (a + i) l)) ≡ over (a + i) (take k (drop i vs)) l
step-lent k a i vs l y b e =
    let m : i + k - i ≡ k = omega arith in
    let r : a + i + k - (a + i) ≡ k = omega arith in
    let n : length (take k (drop i vs)) ≡ k = length-take-le k (drop i vs) (omega (arith, length-drop i vs)) in
    rw (e, m, r) (over-lent-part (a + i) k (take k (drop i vs)) l n)

-- ---- steps

-- the longer of two that are written at one place is what counts
over-is : (i : ℕ) (vs l : List ℕ) → over i vs l ≡ take i l ++ (vs ++ drop (i + length vs) l)
unfolding over
over-is i vs l = refl

pub over-over : (i : ℕ) (us vs l : List ℕ) → length us ≤ length vs → i + length vs ≤ length l → over i vs (over i us l) ≡ over i vs l
over-over i us vs l h b =
    let room : i + length us ≤ length l = omega arith in
    over-is i vs (over i us l)
    ∙ rw (over-take i us l room i (omega arith), over-drop i us l room (i + length vs) (omega arith)) (sym (over-is i vs l))

module _ (a : ℕ) (vs l : List ℕ) (h : a + length vs ≤ length l) where
  steps_next : (i k : ℕ) → i + k ≤ length vs → over (a + i) (take k (drop i vs)) (over a (take i vs) l) ≡ over a (take (i + k) vs) l
  steps_next i k b =
      let n : length (take i vs) ≡ i = length-take-le i vs (omega arith) in
      let room : a + length (take i vs) ≤ length l = omega arith in
      ap (λ (j : ℕ). over (a + j) (take k (drop i vs)) (over a (take i vs) l)) (sym n)
      ∙ over-then a (take i vs) l room (take k (drop i vs))
      ∙ ap (λ (m : List ℕ). over a m l) (sym (take-add i k vs))

  -- k from j on, of which some may be written: the first i are
  steps_on : (i j k : ℕ) → j ≤ i → i ≤ j + k → j + k ≤ length vs → over (a + j) (take k (drop j vs)) (over a (take i vs) l) ≡ over a (take (j + k) vs) l
  steps_on i j k b c d =
      let next = take k (drop j vs) in
      let known = take (i - j) (drop j vs) in
      let front = over a (take j vs) l in
      let j-i : j + (i - j) ≡ i = omega arith in
      let next-n : length next ≡ k = length-take-le k (drop j vs) (omega (arith, length-drop j vs)) in
      let known-n : length known ≡ i - j = length-take-le (i - j) (drop j vs) (omega (arith, length-drop j vs)) in
      let front-n : length front ≡ length l = length_over a (take j vs) l (omega (arith, length-take-le j vs (omega arith))) in
      ap (λ (m : ℕ). over (a + j) next (over a (take m vs) l)) (sym j-i)
      ∙ ap (over (a + j) next) (sym (steps_next j (i - j) (omega arith)))
      ∙ over-over (a + j) known next front (omega arith) (omega arith)
      ∙ steps_next j k (omega arith)

  -- ---- the same of the slices before and after a step

  pub step-first : (k : ℕ) {t : List ℕ} → t ≡ over (a + 0) (take k (drop 0 vs)) l → t ≡ over a (take k vs) l
  step-first k e = e ∙ ap (λ (j : ℕ). over j (take k vs) l) (add-zero a)

  pub step-on : (i j k : ℕ) {s t : List ℕ} → j ≤ i → i ≤ j + k → j + k ≤ length vs → s ≡ over a (take i vs) l → t ≡ over (a + j) (take k (drop j vs)) s
      → t ≡ over a (take (j + k) vs) l
  step-on i j k b c d e f = f ∙ ap (over (a + j) (take k (drop j vs))) e ∙ steps_on i j k b c d

  pub step-last : (i j k : ℕ) {s t : List ℕ} → j ≤ i → j + k ≡ length vs → i ≤ length vs → s ≡ over a (take i vs) l → t ≡ over (a + j) (take k (drop j vs)) s → t ≡ over a vs l
  step-last i j k b c d e f =
      step-on i j k b (omega arith) (omega arith) e f ∙ ap (λ (m : ℕ). over a (take m vs) l) c ∙ ap (λ (m : List ℕ). over a m l) (take_all (length vs) vs (omega arith))
