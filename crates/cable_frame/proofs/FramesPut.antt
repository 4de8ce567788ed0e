-- A frame, from what each call left.
use mathlib.Core.Path.{◌≡◌, ap, sym, ◌∙◌}
use Prim.Native.Nat.{ℕ, ◌+◌, ◌*◌, ◌≤◌}
use mathlib.Core.List.{List, ◌++◌}
use native.Mathlib.Omega.{arith}
use lib.ListN.{length, replicate, length-append}
use Rattle.lists.specs.Lists.{over}
use Rattle.lists.proofs.Overs.{over-then}
use Rattle.lists.proofs.Whole.{over-whole}
use Rattle.big_endian.specs.BigEndian.{big_endian}
use Rattle.big_endian.proofs.Laws.{length-big}
use Rattle.cable_crc.specs.Crc.{mask, byte_divided, divided, finished, crc32}
use Rattle.std.proofs.lemmas.List.Sums.{fold-append}
use Rattle.text.specs.Decimal.{width, decimal}
use Rattle.text_hex.specs.Hex.{hex_word, hex_pairs}
use Rattle.text.proofs.Written.{length_digits}
use Rattle.text_hex.proofs.Pairs.{length_pairs}
use Rattle.cable_frame.specs.Frame.{frame_key, of_key, data_key, check_key, line_of, numbered, checked, frame, frame_length}
use Rattle.cable_frame.proofs.LinesPut.{length-line, four-put}

-- ---- the check
pub front_bytes : (n m : ℕ) (x y : List ℕ) → x ≡ over 0 (big_endian 4 n) (replicate 8 0) → y ≡ over 4 (big_endian 4 m) x → y ≡ numbered n m
front_bytes n m x y e f =
    let a : List ℕ = big_endian 4 n in
    let b : List ℕ = big_endian 4 m in
    let z : List ℕ = replicate 8 0 in
    let k : length a ≡ 4 = length-big 4 n in
    let l : 0 + length a ≤ length z = rw k (omega arith) in
    let g : 0 + length a ≡ 4 = rw k in
    f ∙ ap (over 4 b) e ∙ rw g at (over-then 0 a z l b) ∙ over-whole (a ++ b) z (length-append a b ∙ rw (k, length-big 4 m))

-- the data divided on from number and count
pub check-is : (n m : ℕ) (d : List ℕ) → finished (divided (divided mask (numbered n m)) d) ≡ crc32 (checked n m d)
unfolding crc32 divided
check-is n m d = ap finished (sym (fold-append byte_divided mask (numbered n m) d))

-- ---- a frame
module _ (at n m : ℕ) (d l : List ℕ) (h : at + frame_length n m (length d) ≤ length l) where
  pub frame-done : (k a b c : ℕ) (p q r s : List ℕ) → k ≡ crc32 (checked n m d)
      → a ≡ at + (6 + (width n + 1)) → p ≡ over at (line_of frame_key (decimal n)) l
      → b ≡ a + (3 + (width m + 1)) → q ≡ over a (line_of of_key (decimal m)) p
      → c ≡ b + (length d * 2 + 6) → r ≡ over b (line_of data_key (hex_pairs d)) q
      → s ≡ over c (line_of check_key (hex_word k)) r → s ≡ over at (frame n m d) l
  unfolding frame
  frame-done k a b c p q r s e ea ep eb eq ec er es =
      let w : List ℕ = line_of frame_key (decimal n) in
      let x : List ℕ = line_of of_key (decimal m) in
      let y : List ℕ = line_of data_key (hex_pairs d) in
      let z : List ℕ = line_of check_key (hex_word (crc32 (checked n m d))) in
      let lw : length w ≡ 6 + (width n + 1) = length-line frame_key (decimal n) ∙ rw (length_digits 10 (width n) n) in
      let lx : length x ≡ 3 + (width m + 1) = length-line of_key (decimal m) ∙ rw (length_digits 10 (width m) m) in
      let ly : length y ≡ length d * 2 + 6 = length-line data_key (hex_pairs d) ∙ rw (length_pairs d) (omega arith) in
      let lz : length z ≡ 15 = length-line check_key (hex_word (crc32 (checked n m d))) ∙ rw (length_digits 16 8 (crc32 (checked n m d))) in
      let a' : a ≡ at + length w = omega arith in
      let b' : b ≡ at + length w + length x = omega arith in
      let c' : c ≡ at + length w + length x + length y = omega arith in
      rw (es, er, eq, ep, e, a', b', c') (four-put at w x y z l (omega arith))
