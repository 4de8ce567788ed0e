-- Numbers and bytes in lowercase hex.
use Rattle.std.specs.Prelude.{ℕ, ◌+◌, ◌*◌, ◌%◌, ◌<◌, ◌≡◌, List, [], ◌∷◌, ◌++◌, get_or}
use Rattle.text.specs.Digits.{digits, value_of}

-- a number of 32 bits as eight digits
abbrev pub hex_word : ℕ → List ℕ
hex_word n = digits 16 8 n

-- bytes as pairs of digits
unfoldable pub hex_pairs : List ℕ → List ℕ
hex_pairs [] = []
hex_pairs (b ∷ l) = digits 16 2 b ++ hex_pairs l

-- the byte of a pair; what is no digit counts as 0
abbrev pub pair_value : ℕ → ℕ → ℕ
pair_value c d = value_of c % 16 * 16 + value_of d % 16

-- the bytes of pairs; a last character alone is left out
unfoldable pub bytes_of : List ℕ → List ℕ
bytes_of [] = []
bytes_of (c ∷ []) = []
bytes_of (c ∷ (d ∷ l)) = pair_value c d ∷ bytes_of l

-- a table of values: entry c is the value of character c
pub record RightValues (table : List ℕ) : Type 0 where
  pub entry : (c : ℕ) → c < 256 → get_or table c 0 ≡ value_of c
