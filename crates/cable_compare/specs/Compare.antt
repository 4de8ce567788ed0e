-- docs/RULES.md, 13.5: what stands before and behind the data of a frame as sending writes it, and a stretch compared with it.
use Rattle.std.specs.Prelude.{ℕ, ◌+◌, ◌*◌, ◌≡◌, List, ◌∷◌, ◌++◌, Bool, true, eqb, take}
use Rattle.lists.specs.Lists.{part, same_list}
use Rattle.cable_crc.specs.Crc.{crc32}
use Rattle.text.specs.Decimal.{width, decimal}
use Rattle.text_hex.specs.Hex.{bytes_of, hex_word}
use Rattle.cable_frame.specs.Frame.{frame, frame_key, of_key, data_key, check_key, line_feed, line_of, checked}

-- how many characters stand before the count besides the number, between the count and the data, and behind the data
abbrev pub before_count : ℕ
before_count = 10

abbrev pub before_data : ℕ
before_data = 6

abbrev pub behind_data : ℕ
behind_data = 16

-- where the count stands in frame n, and where the data stand in frame n of m
abbrev pub count_from : ℕ → ℕ
count_from n = width n + before_count

abbrev pub data_from : ℕ → ℕ → ℕ
data_from n m = count_from n + width m + before_data

-- what stands before the data in frame n of m, and what stands behind the data d
unfoldable pub front_of : ℕ → ℕ → List ℕ
front_of n m = line_of frame_key (decimal n) ++ (line_of of_key (decimal m) ++ data_key)

unfoldable pub behind_with : ℕ → List ℕ
behind_with check = line_feed ∷ line_of check_key (hex_word check)

abbrev pub behind_of : ℕ → ℕ → List ℕ → List ℕ
behind_of n m d = behind_with (crc32 (checked n m d))

-- the k bytes of data that stand in s if it is frame n of m
abbrev pub data_of : ℕ → ℕ → ℕ → List ℕ → List ℕ
data_of n m k s = bytes_of (part (data_from n m) (data_from n m + k * 2) s)

-- r says whether s is frame n of m with k bytes of data; if so they stand at the front of body
pub record Compares (n m k : ℕ) (s : List ℕ) (r : Bool) (body : List ℕ) : Type 0 where
  pub same : r ≡ same_list eqb s (frame n m (data_of n m k s))
  pub bytes : r ≡ true → take k body ≡ data_of n m k s
