-- Numbers in decimal, without leading zeros: written, and read where they have 1 to 9 digits.
use Rattle.std.specs.Prelude.{ℕ, zero, suc, ◌/◌, List, [], ◌∷◌, Bool, false, not, eqb, leb, ltb, length, Option, Some, None}
use Rattle.lists.specs.Lists.{pick, holds}
use Rattle.text.specs.Digits.{char0, digits, all_digits, read_on}

-- how many digits n has, of at most k
unfoldable pub width_of : ℕ → ℕ → ℕ
width_of zero n = 0
width_of (suc k) n = pick (ltb n 10) 1 (suc (width_of k (n / 10)))

-- how many digits a number of 32 bits has
abbrev pub width : ℕ → ℕ
width n = width_of 10 n

abbrev pub decimal : ℕ → List ℕ
decimal n = digits 10 (width n) n

-- the longest text that is read
abbrev pub most_digits : ℕ
most_digits = 9

-- two characters or more, of which the first is 0
unfoldable pub padded : List ℕ → Bool
padded [] = false
padded (c ∷ []) = false
padded (c ∷ (d ∷ l)) = eqb c char0

abbrev pub is_number : List ℕ → Bool
is_number l = holds (not (eqb (length l) 0) ∷ (leb (length l) most_digits ∷ (all_digits 10 l ∷ (not (padded l) ∷ []))))

abbrev pub read_number : List ℕ → Option ℕ
read_number l = pick (is_number l) (Some (read_on 10 0 l)) None
