-- A frame as sending writes it tells its count and its data, and is judged right.
use Rattle.std.specs.Prelude.{Ok, Err}
use mathlib.Core.Path.{◌≡◌, refl, ap, ◌∙◌}
use mathlib.Core.List.{List, ◌∷◌, ◌++◌, append_assoc}
use mathlib.Core.Bool.{true}
use Prim.Native.Nat.{ℕ, ◌+◌, ◌-◌, ◌*◌, ◌^◌, ◌≤◌, ◌<◌}
use native.Mathlib.Omega.{arith}
use lib.Dec.{eqb}
use lib.ListN.{length, drop, length-append}
use lib.Seq.{take_at, drop_at}
use lib.Pow.{are_bytes}
use borrow.Author.Tests.{lt-ltb, le-leb, eq-eqb}
use Rattle.lists.specs.Lists.{pick, over, holds, same_list}
use Rattle.lists.proofs.Same.{same_self}
use Rattle.cable_crc.specs.Crc.{crc32}
use Rattle.text.specs.Digits.{span}
use Rattle.text.specs.Decimal.{width, decimal}
use Rattle.text_hex.specs.Hex.{hex_word, hex_pairs}
use Rattle.text.proofs.Written.{length_digits, digits-all}
use Rattle.text.proofs.DigitTurns.{span-digits}
use Rattle.text.proofs.Decimals.{decimal-read}
use Rattle.text_hex.proofs.Pairs.{length_pairs, pairs-read}
use Rattle.cable_frame.specs.Frame.{frame_key, of_key, data_key, check_key, line_feed, line_of, checked, frame, frame_size, most_frames}
use Rattle.cable_frame.proofs.LinesPut.{length-line, length-frame}
use Rattle.cable_judge.specs.declared.answers.NoFrame.TheVariants as NoFrame
use Rattle.cable_compare.specs.Compare.{count_from, data_from}
use Rattle.cable_judge.specs.Judge.{told_count, told_size, told_data, agrees, right_size, is_frame, fits_out, outcome, verdict}

module _ (n m : ℕ) (d : List ℕ) where
  check : List ℕ
  check = line_of check_key (hex_word (crc32 (checked n m d)))

  -- what stands before the count
  front : List ℕ
  front = line_of frame_key (decimal n) ++ of_key

  length_front : length front ≡ count_from n
  unfolding front
  length_front =
      length-append (line_of frame_key (decimal n)) of_key
      ∙ omega (arith, length-line frame_key (decimal n), length_digits 10 (width n) n)

  split-count : frame n m d ≡ front ++ (decimal m ++ (line_feed ∷ (line_of data_key (hex_pairs d) ++ check)))
  unfolding frame front check
  split-count = simp append_assoc

  pub count-told : m < 10 ^ 9 → told_count n (frame n m d) ≡ m
  unfolding told_count span
  count-told h =
      let rest : List ℕ = line_feed ∷ (line_of data_key (hex_pairs d) ++ check) in
      let a : drop (count_from n) (frame n m d) ≡ decimal m ++ rest = ap (drop (count_from n)) split-count ∙ drop_at front (decimal m ++ rest) (count_from n) length_front in
      let w : length (decimal m) ≡ width m = length_digits 10 (width m) m in
      let b : span 10 (decimal m ++ rest) ≡ length (decimal m) = span-digits 10 (decimal m) rest (digits-all 10 (omega arith) (omega arith) (width m) m) refl in
      rw (a, b, take_at (decimal m) rest (length (decimal m)) refl, decimal-read m h)

  pub size-told : told_size n m (frame n m d) ≡ length d
  unfolding told_size
  size-told = rw (length-frame n m d) (omega arith)

  -- what stands before the data
  head : List ℕ
  head = front ++ (decimal m ++ (line_feed ∷ data_key))

  length-head : length head ≡ data_from n m
  unfolding head
  length-head =
      length-append front (decimal m ++ (line_feed ∷ data_key))
      ∙ omega (arith, length_front, length-append (decimal m) (line_feed ∷ data_key), length_digits 10 (width m) m)

  split-data : frame n m d ≡ head ++ (hex_pairs d ++ (line_feed ∷ check))
  unfolding frame front check head
  split-data = simp append_assoc

  pub data-told : are_bytes d ≡ true → told_data n m (frame n m d) ≡ d
  unfolding told_data
  data-told h =
      let rest : List ℕ = line_feed ∷ check in
      let z : data_from n m + length d * 2 - data_from n m ≡ length (hex_pairs d) = omega (arith, length_pairs d) in
      let a : drop (data_from n m) (frame n m d) ≡ hex_pairs d ++ rest = ap (drop (data_from n m)) split-data ∙ drop_at head (hex_pairs d ++ rest) (data_from n m) length-head in
      rw (size-told, a, z, take_at (hex_pairs d) rest (length (hex_pairs d)) refl) (pairs-read d h)

  -- while it is awaited, it is answered 0 with its data in the output, or 10 where they find no room
  pub answers : (c : ℕ) (out : List ℕ) → n < m → m ≤ most_frames → agrees c m ≡ true → right_size n m (length d) ≡ true → are_bytes d ≡ true
      → verdict n c out (frame n m d) ≡ pick (fits_out n (length d) (length out)) (outcome (Ok (length d)) (n + 1) m (over (n * frame_size) d out)) (outcome (Err NoFrame.OutputShort) n c out)
  unfolding verdict is_frame holds
  answers c out a b e f g =
      let k : told_count n (frame n m d) ≡ m = count-told (omega arith) in
      let s : same_list eqb (frame n m d) (frame n m d) ≡ true = same_self eqb (λ x. eq-eqb x x refl) (frame n m d) in
      rw (k, size-told, data-told g, s, lt-ltb n m a, le-leb m most_frames b, e, f)

  pub accepts : (c : ℕ) (out : List ℕ) → n < m → m ≤ most_frames → agrees c m ≡ true → right_size n m (length d) ≡ true → are_bytes d ≡ true
      → n * frame_size + length d ≤ length out → verdict n c out (frame n m d) ≡ outcome (Ok (length d)) (n + 1) m (over (n * frame_size) d out)
  accepts c out a b e f g h = answers c out a b e f g ∙ rw (le-leb (n * frame_size + length d) (length out) h)
