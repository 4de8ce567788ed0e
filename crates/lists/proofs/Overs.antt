-- Lists written over parts of a list: inside its front, one behind the other, and over the front of a part that is lent.
use mathlib.Core.Path.{◌≡◌}
use Prim.Native.Nat.{ℕ, ◌+◌, ◌-◌, ◌≤◌}
use mathlib.Core.List.{List, ◌++◌, append_assoc, append-nil}
use native.Mathlib.Nat.{zero-add}
use native.Mathlib.Omega.{arith}
use lib.ListN.{length, take, drop, length-append, length-drop, take-append-drop, drop_of_length-le}
use lib.Seq.{length-take-le, take_all, take_at, take-append-le, drop-append-le, drop_at, drop-drop}
use Rattle.lists.specs.Lists.{part, over}
use Rattle.lists.proofs.Runs.{length_part, part-drop}

pub over-append : (i : ℕ) (vs l r : List ℕ) → i + length vs ≤ length l → over i vs (l ++ r) ≡ over i vs l ++ r
unfolding over
over-append i vs l r h =
    let a : i ≤ length l = omega arith in
    rw (take-append-le i l r a, drop-append-le (i + length vs) l r h) (simp append_assoc)

module _ (i : ℕ) (vs l : List ℕ) (h : i + length vs ≤ length l) where
  -- one behind the other
  pub over-then : (us : List ℕ) → over (i + length vs) us (over i vs l) ≡ over i (vs ++ us) l
  unfolding over
  over-then us =
      let n : length (take i l ++ vs) ≡ i + length vs = omega (arith, length-append (take i l) vs, length-take-le i l (omega arith)) in
      let m : i + length vs + length us ≡ i + length (vs ++ us) = omega (arith, length-append vs us) in
      rw (← append_assoc (take i l) vs (drop (i + length vs) l), take_at (take i l ++ vs) (drop (i + length vs) l) (i + length vs) n)
      (rw (← drop-drop (length us) (i + length vs) ((take i l ++ vs) ++ drop (i + length vs) l), drop_at (take i l ++ vs) (drop (i + length vs) l) (i + length vs) n, drop-drop, m)
      (simp append_assoc))

  -- the part from index i on, lent and back, with vs written over its front
  pub over-lent : take i l ++ (over 0 vs (take (length l - i) (drop i l)) ++ drop (length l - i) (drop i l)) ≡ over i vs l
  unfolding over
  over-lent =
      let n : length (drop i l) ≤ length l - i = omega (arith, length-drop i l) in
      rw (take_all (length l - i) (drop i l) n, drop_of_length-le (drop i l) {i = length l - i} n, append-nil, zero-add, drop-drop (length vs) i l)

-- a part written over itself
pub over-part : (a e : ℕ) (l : List ℕ) → a ≤ e → e ≤ length l → over a (part a e l) l ≡ l
unfolding over
over-part a e l h k =
    let n : a + length (part a e l) ≡ e = omega (arith, length_part a e l k) in
    rw (n, part-drop a e l h, take-append-drop a l)
