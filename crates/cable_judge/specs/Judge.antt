-- docs/RULES.md, 13.5: a stretch's answer, from its bytes and what is awaited alone. It is accepted if it is just the awaited frame as sending
-- writes it and its bytes find room.
use Rattle.std.specs.Prelude.{ℕ, ◌+◌, ◌-◌, ◌*◌, ◌/◌, List, [], ◌∷◌, Bool, ◌&&◌, ◌||◌, eqb, leb, ltb, length, take, drop, unwrap_or, Result, Ok, Err}
use Rattle.lists.specs.Lists.{pick, part, over, holds, same_list}
use Rattle.text.specs.Digits.{span}
use Rattle.text.specs.Decimal.{read_number}
use Rattle.text_hex.specs.Hex.{bytes_of}
use Rattle.cable_frame.specs.Frame.{frame, frame_size, most_frames}
use Rattle.cable_compare.specs.Compare.{behind_data, count_from, data_from}
use Rattle.cable_judge.specs.declared.answers.NoFrame.{NoFrame}

-- what a stretch tells if it is frame n: the count (0 where there is none), how many bytes of data, and the data
unfoldable pub told_count : ℕ → List ℕ → ℕ
told_count n s = unwrap_or (read_number (take (span 10 (drop (count_from n) s)) (drop (count_from n) s))) 0

unfoldable pub told_size : ℕ → ℕ → List ℕ → ℕ
told_size n m s = (length s - (data_from n m + behind_data)) / 2

unfoldable pub told_data : ℕ → ℕ → List ℕ → List ℕ
told_data n m s = bytes_of (part (data_from n m) (data_from n m + told_size n m s * 2) s)

-- the first accepted one's count; 0 before there is one
abbrev pub agrees : ℕ → ℕ → Bool
agrees count m = eqb count 0 || eqb count m

-- 512 bytes, or the last frame and 1 to 512
abbrev pub right_size : ℕ → ℕ → ℕ → Bool
right_size n m k = leb 1 k && (leb k frame_size && (eqb k frame_size || eqb (n + 1) m))

-- just frame n of m, as sending writes it
unfoldable pub is_frame : ℕ → ℕ → ℕ → List ℕ → Bool
is_frame n m count s =
    holds (ltb n m ∷ (leb m most_frames ∷ (agrees count m ∷ (right_size n m (told_size n m s) ∷ (same_list eqb s (frame n m (told_data n m s)) ∷ [])))))

abbrev pub is_awaited : ℕ → ℕ → List ℕ → Bool
is_awaited n count s = is_frame n (told_count n s) count s

-- the bytes find room in the output
abbrev pub fits_out : ℕ → ℕ → ℕ → Bool
fits_out n k room = leb (n * frame_size + k) room

-- the answer; what is awaited next, and of how many; the output
pub record Outcome : Type 0 where
  pub answer : Result ℕ NoFrame
  pub awaited : ℕ
  pub count : ℕ
  pub out : List ℕ

abbrev pub outcome : Result ℕ NoFrame → ℕ → ℕ → List ℕ → Outcome
outcome a n c o = record { answer = a; awaited = n; count = c; out = o }

abbrev pub accepted : ℕ → ℕ → List ℕ → List ℕ → Outcome
accepted n m s out = outcome (Ok (told_size n m s)) (n + 1) m (over (n * frame_size) (told_data n m s) out)

unfoldable pub verdict : ℕ → ℕ → List ℕ → List ℕ → Outcome
verdict n count out s =
    pick (is_awaited n count s)
    (pick (fits_out n (told_size n (told_count n s) s) (length out)) (accepted n (told_count n s) s out) (outcome (Err NoFrame.OutputShort) n count out))
    (outcome (Err NoFrame.NotAwaited) n count out)
