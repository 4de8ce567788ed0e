-- A table cut into frames, a part at a time: the part that comes next, and the frames that are left.
use mathlib.Core.Path.{◌≡◌, ap, ◌∙◌}
use mathlib.Core.List.{List, [], ◌∷◌, ◌++◌, append-nil}
use Prim.Native.Nat.{ℕ, suc, ◌+◌, ◌≤◌, ◌<◌, min}
use native.Mathlib.Omega.{arith}
use lib.ListN.{length, take, drop, length-append, drop_of_length-le}
use lib.Seq.{take_at, drop_at, take_all}
use Rattle.lists.specs.Lists.{over}
use Rattle.lists.proofs.Overs.{over-then}
use Rattle.cable_frame.specs.Frame.{frame, frames_from, frame_size, frame_length, frame_count}
use Rattle.cable_frame.proofs.LinesPut.{length-frame}

-- the frames of what is left of a table, from number i of m on
abbrev pub left : ℕ → ℕ → List ℕ → List ℕ
left i m r = frames_from (frame_count r) i m r

pub left-none : (i m : ℕ) (r : List ℕ) → length r ≡ 0 → left i m r ≡ []
unfolding frames_from
left-none i m r h = let e : frame_count r ≡ 0 = omega arith in rw e

cut : (r x y : List ℕ) → r ≡ x ++ y → length x ≡ min frame_size (length r) → (take frame_size r ≡ x) × (drop frame_size r ≡ y)
cut r x [] e n =
    let s : r ≡ x = e ∙ append-nil x in
    let k : length x ≤ frame_size = omega (arith, n) in
    (ap (take frame_size) s ∙ take_all frame_size x k, ap (drop frame_size) s ∙ drop_of_length-le x {i = frame_size} k)
cut r x (b ∷ y) e n =
    let k : length x ≡ frame_size = omega (arith, n, ap length e, length-append x (b ∷ y)) in
    (ap (take frame_size) e ∙ take_at x (b ∷ y) frame_size k, ap (drop frame_size) e ∙ drop_at x (b ∷ y) frame_size k)

-- x comes next, and y is left behind it
module _ (i m : ℕ) (r x y : List ℕ) (h : 0 < length r) (e : r ≡ x ++ y) (n : length x ≡ min frame_size (length r)) where
  pub count-next : frame_count r ≡ frame_count y + 1
  count-next = omega (arith, ap length e, length-append x y)

  left-next : left i m r ≡ frame i m x ++ left (i + 1) m y
  unfolding frames_from
  left-next =
      let k : frame_count r ≡ suc (frame_count y) = omega (arith, count-next) in
      let j : suc i ≡ i + 1 = omega arith in
      let c = cut r x y e n in
      rw (k, c.0, c.1, j)

  pub left-length : length (left i m r) ≡ frame_length i m (length x) + length (left (i + 1) m y)
  left-length = ap length left-next ∙ length-append (frame i m x) (left (i + 1) m y) ∙ ap (λ (k : ℕ). k + length (left (i + 1) m y)) (length-frame i m x)

  -- the next frame is written, and the others are left to be written behind it
  pub left_put : (at : ℕ) (l : List ℕ) → at + length (left i m r) ≤ length l
      → over (at + frame_length i m (length x)) (left (i + 1) m y) (over at (frame i m x) l) ≡ over at (left i m r) l
  left_put at l k =
      let s = length-frame i m x in
      rw (← s, left-next) (over-then at (frame i m x) l (omega (arith, left-length, s)) (left (i + 1) m y))
