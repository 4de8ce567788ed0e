-- Lines and frames: how long they are, and one written behind the other.
use mathlib.Core.Path.{◌≡◌, refl, ap, sym, ◌∙◌}
use Prim.Native.Nat.{ℕ, ◌+◌, ◌≤◌, ◌<◌, min}
use mathlib.Core.Bool.{Bool, true, false}
use lib.Dec.{leb}
use lib.Seq.{take_all}
use borrow.Author.Tests.{leb-true, leb-false}
use mathlib.Core.List.{List, [], ◌∷◌, ◌++◌, append_assoc}
use native.Mathlib.Omega.{arith}
use lib.ListN.{length, take, set, length-append}
use Rattle.lists.specs.Lists.{over}
use Rattle.lists.proofs.Runs.{set-over}
use Rattle.lists.proofs.Over.{length_over}
use Rattle.lists.proofs.Overs.{over-then}
use Rattle.cable_crc.specs.Crc.{crc32}
use Rattle.text.specs.Decimal.{width, decimal}
use Rattle.text_hex.specs.Hex.{hex_word, hex_pairs}
use Rattle.text.proofs.Written.{length_digits}
use Rattle.text_hex.proofs.Pairs.{length_pairs}
use Rattle.cable_frame.specs.Frame.{frame_key, of_key, data_key, check_key, line_of, checked, frame, frame_length, line_feed}

pub length-line : (key v : List ℕ) → length (line_of key v) ≡ length key + (length v + 1)
length-line key v = length-append key (v ++ (line_feed ∷ [])) ∙ ap (λ (n : ℕ). length key + n) (length-append v (line_feed ∷ []))

-- no more is taken than there is
pub take-least : (n k : ℕ) (l : List ℕ) → k ≡ min n (length l) → take k l ≡ take n l
take-least n k l e = by (leb n (length l)) refl
  where
    by : (t : Bool) → leb n (length l) ≡ t → take k l ≡ take n l
    by true f = let h : k ≡ n = omega (arith, leb-true n (length l) f) in rw h
    by false f =
        let g : length l < n = leb-false n (length l) f in
        take_all k l (omega arith) ∙ sym (take_all n l (omega arith))

-- a key, its value and the line feed, one behind the other
line-put : (at : ℕ) (key v l : List ℕ) → at + (length key + (length v + 1)) ≤ length l
    → set (over (at + length key) v (over at key l)) (at + length key + length v) line_feed ≡ over at (line_of key v) l
line-put at key v l h =
    let a : at + length key ≤ length l = omega arith in
    let e : over (at + length key) v (over at key l) ≡ over at (key ++ v) l = over-then at key l a v in
    let n : length (key ++ v) ≡ length key + length v = length-append key v in
    let b : at + length (key ++ v) ≤ length l = omega arith in
    let k : at + length key + length v ≡ at + length (key ++ v) = omega arith in
    let m : length (over at (key ++ v) l) ≡ length l = length_over at (key ++ v) l b in
    rw (e, k) (set-over (at + length (key ++ v)) line_feed (over at (key ++ v) l) (omega arith)
    ∙ over-then at (key ++ v) l b (line_feed ∷ []) ∙ ap (λ (x : List ℕ). over at x l) (append_assoc key v (line_feed ∷ [])))

-- the same, from what each call left
pub line-done : (at : ℕ) (key v l x y : List ℕ) (k : ℕ) → x ≡ over at key l → y ≡ over (at + length key) v x → k ≡ at + length key + length v
    → at + (length key + (length v + 1)) ≤ length l → set y k line_feed ≡ over at (line_of key v) l
line-done at key v l x y k e f g h = rw (f, e, g) (line-put at key v l h)

module _ (n m : ℕ) (d : List ℕ) where
  pub length-frame : length (frame n m d) ≡ frame_length n m (length d)
  unfolding frame
  length-frame =
      let a : List ℕ = line_of frame_key (decimal n) in
      let b : List ℕ = line_of of_key (decimal m) in
      let c : List ℕ = line_of data_key (hex_pairs d) in
      let e : List ℕ = line_of check_key (hex_word (crc32 (checked n m d))) in
      omega (
        arith,
        length-append a (b ++ (c ++ e)),
        length-append b (c ++ e),
        length-append c e,
        length-line frame_key (decimal n),
        length-line of_key (decimal m),
        length-line data_key (hex_pairs d),
        length-line check_key (hex_word (crc32 (checked n m d))),
        length_digits 10 (width n) n,
        length_digits 10 (width m) m,
        length_pairs d,
        length_digits 16 8 (crc32 (checked n m d)),
      )

-- four lists, one behind the other
pub four-put : (at : ℕ) (a b c d l : List ℕ) → at + (length a + (length b + (length c + length d))) ≤ length l
    → over (at + length a + length b + length c) d (over (at + length a + length b) c (over (at + length a) b (over at a l))) ≡ over at (a ++ (b ++ (c ++ d))) l
four-put at a b c d l h =
    let ab : length (a ++ b) ≡ length a + length b = length-append a b in
    let abc : length ((a ++ b) ++ c) ≡ length a + length b + length c = length-append (a ++ b) c ∙ ap (λ (n : ℕ). n + length c) ab in
    let e : at + length a + length b ≡ at + length (a ++ b) = omega arith in
    let f : at + length (a ++ b) + length c ≡ at + length ((a ++ b) ++ c) = omega arith in
    rw (over-then at a l (omega arith) b, e, over-then at (a ++ b) l (omega arith) c, f, over-then at ((a ++ b) ++ c) l (omega arith) d)
    (ap (λ (x : List ℕ). over at x l) (append_assoc (a ++ b) c d ∙ append_assoc a b (c ++ d)))
