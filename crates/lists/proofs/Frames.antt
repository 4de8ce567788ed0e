-- Parts of a list by their numbers: parts that two lists share, that meet, that are written or moved, and runs of zeros.
use mathlib.Core.Path.{◌≡◌, refl, sym, ap, ◌∙◌}
use Prim.Native.Nat.{ℕ, zero, suc, ◌+◌, ◌-◌, ◌≤◌, ◌<◌}
use mathlib.Core.List.{List, [], ◌∷◌, ◌++◌}
use mathlib.Core.Bool.{Bool, true, false}
use native.Mathlib.Omega.{arith}
use borrow.Author.Tests.{eqb-true}
use lib.Dec.{eqb}
use lib.ListN.{length, drop, get_or, replicate, length-replicate, get_or-replicate}
use lib.Seq.{take-add, drop-drop, ext_get_or}
use Rattle.lists.specs.Lists.{pick, part, over, zeros, first_that}
use Rattle.lists.proofs.Parts.{get_or-part}
use Rattle.lists.proofs.Runs.{length_part}
use Rattle.lists.proofs.Same.{and_left, and_right}
use Rattle.lists.proofs.Over.{length_over, over-before, over-after, part-over}

-- two lists that hold the same from index a up to index e
pub part_same : (a e : ℕ) (l m : List ℕ) → e ≤ length l → length m ≡ length l → ((k : ℕ) → a ≤ k → k < e → get_or m k 0 ≡ get_or l k 0) → part a e m ≡ part a e l
part_same a e l m h n same =
    let p = length_part a e l h in
    let q = length_part a e m (omega arith) in
    ext_get_or 0 (part a e m) (part a e l) (q ∙ sym p)
    (λ k i. get_or-part a e k m (omega arith) ∙ same (a + k) (omega arith) (omega arith) ∙ sym (get_or-part a e k l (omega arith)))

-- two parts that meet
pub part_join : (a m e : ℕ) (l : List ℕ) → a ≤ m → m ≤ e → part a m l ++ part m e l ≡ part a e l
part_join a m e l h k =
    let n : e - a ≡ (m - a) + (e - m) = omega arith in
    let f : a + (m - a) ≡ m = omega arith in
    rw (n, take-add (m - a) (e - m) (drop a l), drop-drop (m - a) a l, f)

-- ---- parts that are written

module _ (i : ℕ) (vs l : List ℕ) (h : i + length vs ≤ length l) where
  over-in : (k : ℕ) → k < length vs → get_or (over i vs l) (i + k) 0 ≡ get_or vs k 0
  over-in k b = sym (get_or-part i (i + length vs) k (over i vs l) (omega arith)) ∙ ap (λ (m : List ℕ). get_or m k 0) (part-over i vs l h)

  -- what was written, and before it what stood there
  pub part-grown : (a : ℕ) → a ≤ i → part a (i + length vs) (over i vs l) ≡ part a i l ++ vs
  part-grown a b =
      let p = part_same a i l (over i vs l) (omega arith) (length_over i vs l h) (λ k m n. over-before i vs l h k n) in
      rw (← part_join a i (i + length vs) (over i vs l) b (omega arith), p, part-over i vs l h)

-- the numbers from index a up to index e, moved to index i
module _ (a e i : ℕ) (l : List ℕ) (h : e ≤ length l) (k : i + (e - a) ≤ length l) where
  moved-fits : i + length (part a e l) ≤ length l
  moved-fits = omega (arith, length_part a e l h)

  pub length_moved : length (over i (part a e l) l) ≡ length l
  length_moved = length_over i (part a e l) l moved-fits

  pub moved_before : (j : ℕ) → j < i → get_or (over i (part a e l) l) j 0 ≡ get_or l j 0
  moved_before = over-before i (part a e l) l moved-fits

  pub moved-after : (j : ℕ) → i + (e - a) ≤ j → get_or (over i (part a e l) l) j 0 ≡ get_or l j 0
  moved-after j b = over-after i (part a e l) l moved-fits j (omega (arith, length_part a e l h))

  pub part_moved : part i (i + (e - a)) (over i (part a e l) l) ≡ part a e l
  part_moved = rw (length_part a e l h) at (part-over i (part a e l) l moved-fits)

-- ---- zeros

zeros-at : (l : List ℕ) → zeros l ≡ true → (k : ℕ) → get_or l k 0 ≡ 0
unfolding zeros
zeros-at [] h k = refl
zeros-at (x ∷ l) h zero = eqb-true x 0 (and_left (eqb x 0) (zeros l) h)
zeros-at (x ∷ l) h (suc k) = zeros-at l (and_right (eqb x 0) (zeros l) h) k

zeros-replicate : (n : ℕ) → zeros (replicate n 0) ≡ true
unfolding zeros
zeros-replicate zero = refl
zeros-replicate (suc n) = zeros-replicate n

module _ (a e : ℕ) (l : List ℕ) where
  pub zeros-in : zeros (part a e l) ≡ true → (k : ℕ) → a ≤ k → k < e → get_or l k 0 ≡ 0
  zeros-in h k b c =
      let n : a + (k - a) ≡ k = omega arith in
      rw (get_or-part a e (k - a) l (omega arith), n) at (zeros-at (part a e l) h (k - a))

  module _ (h : e ≤ length l) (null : (k : ℕ) → a ≤ k → k < e → get_or l k 0 ≡ 0) where
    pub part-zeros : part a e l ≡ replicate (e - a) 0
    part-zeros =
        let p = length_part a e l h in
        ext_get_or 0 (part a e l) (replicate (e - a) 0) (p ∙ sym (length-replicate (e - a) 0))
        (λ k i. get_or-part a e k l (omega arith) ∙ null (a + k) (omega arith) (omega arith) ∙ sym (get_or-replicate (e - a) k 0 0 (omega arith)))

    pub zeros_of : zeros (part a e l) ≡ true
    zeros_of = rw part-zeros (zeros-replicate (e - a))

-- n zeros written from index a on
module _ (a n : ℕ) (l : List ℕ) (h : a + n ≤ length l) where
  cleared-fits : a + length (replicate {A = ℕ} n 0) ≤ length l
  cleared-fits = omega (arith, length-replicate {A = ℕ} n 0)

  pub length-cleared : length (over a (replicate n 0) l) ≡ length l
  length-cleared = length_over a (replicate n 0) l cleared-fits

  pub cleared-before : (k : ℕ) → k < a → get_or (over a (replicate n 0) l) k 0 ≡ get_or l k 0
  cleared-before = over-before a (replicate n 0) l cleared-fits

  pub cleared-in : (k : ℕ) → a ≤ k → k < a + n → get_or (over a (replicate n 0) l) k 0 ≡ 0
  cleared-in k b c =
      let e = length-replicate {A = ℕ} n 0 in
      let m : k ≡ a + (k - a) = omega arith in
      rw m (over-in a (replicate n 0) l cleared-fits (k - a) (omega arith) ∙ get_or-replicate n (k - a) 0 0 (omega arith))

  pub cleared-after : (k : ℕ) → a + n ≤ k → get_or (over a (replicate n 0) l) k 0 ≡ get_or l k 0
  cleared-after k b = over-after a (replicate n 0) l cleared-fits k (omega (arith, length-replicate {A = ℕ} n 0))

-- ---- the first that passes a test

pub first-most : {A : Type 0} (test : A → Bool) (l : List A) → first_that test l ≤ length l
unfolding first_that
first-most test [] = omega arith
first-most test (x ∷ l) = go (test x) (first-most test l)
  where
    go : (b : Bool) → first_that test l ≤ length l → pick b 0 (suc (first_that test l)) ≤ suc (length l)
    go true h = omega arith
    go false h = omega arith
