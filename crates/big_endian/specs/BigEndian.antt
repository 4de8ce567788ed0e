-- docs/RULES.md, 2.7 and 7.7: offset fields are numbers in a width of bytes, the highest byte first. Every width is one definition.
use Rattle.std.specs.Prelude.{ℕ, zero, suc, ◌+◌, ◌*◌, ◌/◌, ◌%◌, ◌^◌, List, [], ◌∷◌, ◌++◌, Bool, ltb}

-- how many numbers a width holds: 65,536 for width 2
abbrev pub capacity : ℕ → ℕ
capacity w = 256 ^ w

abbrev pub fits : ℕ → ℕ → Bool
fits w n = ltb n (capacity w)

-- n in w bytes
unfoldable pub big_endian : ℕ → ℕ → List ℕ
big_endian zero n = []
big_endian (suc w) n = big_endian w (n / 256) ++ (n % 256 ∷ [])

-- bytes read on from what was read before them
unfoldable pub read_from : ℕ → List ℕ → ℕ
read_from n [] = n
read_from n (b ∷ bs) = read_from (n * 256 + b) bs

abbrev pub read_big : List ℕ → ℕ
read_big bs = read_from 0 bs
