-- Digits of a base up to 16 as text: lowercase, the highest first; written and read.
use Rattle.std.specs.Prelude.{ℕ, zero, suc, ◌+◌, ◌-◌, ◌*◌, ◌/◌, ◌%◌, List, [], ◌∷◌, ◌++◌, Bool, true, ◌&&◌, leb, ltb}
use Rattle.lists.specs.Lists.{pick}

-- the characters 0, 9, a and f
abbrev pub char0 : ℕ
char0 = 48

abbrev pub char9 : ℕ
char9 = 57

abbrev pub char_a : ℕ
char_a = 97

abbrev pub char_f : ℕ
char_f = 102

-- the character of a digit
abbrev pub digit : ℕ → ℕ
digit d = pick (ltb d 10) (d + char0) (d - 10 + char_a)

-- n in w digits of base b
unfoldable pub digits : ℕ → ℕ → ℕ → List ℕ
digits b zero n = []
digits b (suc w) n = digits b w (n / b) ++ (digit (n % b) ∷ [])

-- the value of what is no digit: too great for every base
abbrev pub no_digit : ℕ
no_digit = 16

-- the value of a digit's character
abbrev pub value_of : ℕ → ℕ
value_of c = pick (ltb c char0) no_digit (pick (leb c char9) (c - char0) (pick (ltb c char_a) no_digit (pick (leb c char_f) (c - char_a + 10) no_digit)))

-- every character is a digit of base b
unfoldable pub all_digits : ℕ → List ℕ → Bool
all_digits b [] = true
all_digits b (c ∷ l) = ltb (value_of c) b && all_digits b l

-- digits of base b read on from what was read before them
unfoldable pub read_on : ℕ → ℕ → List ℕ → ℕ
read_on b v [] = v
read_on b v (c ∷ l) = read_on b (v * b + value_of c) l

-- how many digits of base b stand in front
unfoldable pub span : ℕ → List ℕ → ℕ
span b [] = 0
span b (c ∷ l) = pick (ltb (value_of c) b) (suc (span b l)) 0
