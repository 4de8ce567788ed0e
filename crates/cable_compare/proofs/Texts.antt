-- A stretch compared with a frame in three pieces: what stands before the data, their digits, and what stands behind.
use mathlib.Core.Path.{◌≡◌, sym, ap, ◌∙◌}
use mathlib.Core.List.{List, ◌∷◌, ◌++◌, append_assoc}
use mathlib.Core.Bool.{Bool, true, false, ◌&&◌, false≢true}
use Prim.Native.Nat.{ℕ, ◌+◌, ◌*◌, ◌≤◌}
use native.Mathlib.Omega.{arith}
use lib.Dec.{eqb}
use lib.ListN.{length, take, drop, set, length-append, take-append-drop}
use lib.Seq.{length-take-le}
use Rattle.lists.specs.Lists.{part, over, same_list}
use Rattle.lists.proofs.Runs.{length_part, part-rest, part-drop, over_first}
use Rattle.lists.proofs.Overs.{over-then}
use Rattle.lists.proofs.Whole.{over-whole, over-front}
use Rattle.lists.proofs.Tests.{same-append}
use Rattle.cable_crc.specs.Crc.{mask, divided, finished}
use Rattle.text.specs.Digits.{all_digits}
use Rattle.text.specs.Decimal.{width, decimal}
use Rattle.text_hex.specs.Hex.{hex_word, hex_pairs}
use Rattle.text.proofs.Written.{length_digits}
use Rattle.text_hex.proofs.Pairs.{length_pairs, length-bytes, pairs-back}
use Rattle.cable_frame.specs.Frame.{frame_key, of_key, data_key, check_key, line_feed, line_of, numbered, frame, number_length}
use Rattle.cable_frame.proofs.FramesPut.{check-is}
use Rattle.cable_frame.proofs.LinesPut.{length-line}
use Rattle.cable_compare.specs.Compare.{behind_data, data_from, front_of, behind_with, behind_of, data_of, Compares}

-- ---- what stands before the data

module _ (n m : ℕ) where
  abbrev first : List ℕ
  first = line_of frame_key (decimal n)

  abbrev second : List ℕ
  second = line_of of_key (decimal m)

  length-first : length first ≡ number_length 6 n
  length-first = length-line frame_key (decimal n) ∙ rw (length_digits 10 (width n) n)

  length-second : length second ≡ number_length 3 m
  length-second = length-line of_key (decimal m) ∙ rw (length_digits 10 (width m) m)

  pub length_front : length (front_of n m) ≡ data_from n m
  unfolding front_of
  length_front = omega (arith, length-append first (second ++ data_key), length-append second data_key, length-first, length-second)

  -- the three written one behind the other
  pub front-done : (a b : ℕ) (l p q r : List ℕ) → data_from n m ≤ length l → a ≡ 0 + number_length 6 n → p ≡ over 0 first l
      → b ≡ a + number_length 3 m → q ≡ over a second p → r ≡ over b data_key q → take (b + 5) r ≡ front_of n m
  unfolding front_of
  front-done a b l p q r h ea ep eb eq er =
      let n₁ : a ≡ 0 + length first = omega (arith, length-first) in
      let n₂ : b ≡ 0 + length (first ++ second) = omega (arith, length-first, length-second, length-append first second) in
      let f : q ≡ over 0 (first ++ second) l = eq ∙ rw (ep, n₁) (over-then 0 first l (omega (arith, length-first)) second) in
      let g : r ≡ over 0 ((first ++ second) ++ data_key) l = er ∙ rw (f, n₂) (over-then 0 (first ++ second) l (omega (arith, length-first, length-second, length-append first second)) data_key) in
      let k : b + 5 ≡ length ((first ++ second) ++ data_key) = omega (arith, length-append (first ++ second) data_key) in
      rw (g, k) (over-front ((first ++ second) ++ data_key) l) ∙ append_assoc first second data_key

-- ---- what stands behind them

pub behind-done : (k : ℕ) (l x : List ℕ) → length l ≡ behind_data → x ≡ over 1 (line_of check_key (hex_word k)) (set l 0 line_feed) → x ≡ behind_with k
unfolding behind_with
behind-done k l x h f =
    let v : List ℕ = line_of check_key (hex_word k) in
    let w : length v ≡ 15 = length-line check_key (hex_word k) ∙ rw (length_digits 16 8 k) in
    f ∙ over_first 0 line_feed v l (omega arith) ∙ over-whole (line_feed ∷ v) l (omega arith)

-- ---- the three pieces

module _ (n m : ℕ) (d : List ℕ) where
  frame-split : frame n m d ≡ front_of n m ++ (hex_pairs d ++ behind_of n m d)
  unfolding frame front_of behind_with
  frame-split = simp append_assoc

module _ (n m k : ℕ) (s : List ℕ) (inside : data_from n m + k * 2 + behind_data ≤ length s) where
  abbrev at : ℕ
  at = data_from n m

  abbrev end : ℕ
  end = at + k * 2

  abbrev pairs : List ℕ
  pairs = part at end s

  abbrev d : List ℕ
  d = data_of n m k s

  length-digits-of : length pairs ≡ k * 2
  length-digits-of = length_part at end s (omega arith) ∙ omega arith

  pub length-data : length d ≡ k
  length-data = length-bytes pairs ∙ omega (arith, length-digits-of)

  compared : same_list eqb s (frame n m d) ≡ (same_list eqb (take at s) (front_of n m) && (all_digits 16 pairs && same_list eqb (drop end s) (behind_of n m d)))
  compared =
      let e : s ≡ take at s ++ (pairs ++ drop end s) = sym (take-append-drop at s) ∙ ap (λ (x : List ℕ). take at s ++ x) (sym (part-drop at end s (omega arith))) in
      ap (λ (x : List ℕ). same_list eqb x (frame n m d)) e
      ∙ ap (same_list eqb (take at s ++ (pairs ++ drop end s))) (frame-split n m d)
      ∙ same-append eqb (take at s) (pairs ++ drop end s) (front_of n m) (hex_pairs d ++ behind_of n m d) (length-take-le at s (omega arith) ∙ sym (length_front n m))
      ∙ ap (λ (b : Bool). same_list eqb (take at s) (front_of n m) && b)
      (same-append eqb pairs (drop end s) (hex_pairs d) (behind_of n m d) (omega (arith, length-digits-of, length_pairs d, length-data))
      ∙ ap (λ (b : Bool). b && same_list eqb (drop end s) (behind_of n m d)) (pairs-back pairs (omega (arith, length-digits-of))))

  differ : (x : List ℕ) → same_list eqb s (frame n m d) ≡ false → Compares n m k s false x
  differ x e = record { same = sym e; bytes = λ h. absurd (false≢true h) }

  -- each way through comparing
  module _ (a : Bool) (ea : a ≡ same_list eqb (take at s) (front_of n m)) where
    pub other-front : (x : List ℕ) → a ≡ false → Compares n m k s false x
    other-front x e = differ x (compared ∙ rw (sym ea ∙ e))

    module _ (ta : a ≡ true) (b : Bool) (eb : b ≡ all_digits 16 pairs) where
      pub other-digits : (x : List ℕ) → b ≡ false → Compares n m k s false x
      other-digits x e = differ x (compared ∙ rw (sym ea ∙ ta, sym eb ∙ e))

      module _ (tb : b ≡ true) (x l : List ℕ) (ex : x ≡ over 0 d l) where
        data-front : take k x ≡ d
        data-front = rw ex (rw length-data at (over-front d l))

        pub same-behind : (r : Bool) (f : ℕ) → f ≡ finished (divided (divided mask (numbered n m)) d) → r ≡ same_list eqb (part end (length s) s) (behind_with f) → Compares n m k s r x
        same-behind r f g e =
            record {
              same = e ∙ rw (g, check-is n m d, part-rest end s) (sym (compared ∙ rw (sym ea ∙ ta, sym eb ∙ tb)));
              bytes = λ h. data-front;
            }
