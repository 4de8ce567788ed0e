-- docs/RULES.md, 12.1: a text cut into lines, each of which ends in one line feed.
use Rattle.std.specs.Prelude.{ℕ, suc, ◌+◌, List, [], ◌∷◌, eqb, ltb, length, take, drop}
use Rattle.lists.specs.Lists.{pick, part}

abbrev pub line_feed : ℕ
line_feed = 10

-- a character in front of the first line
unfoldable pub in_front : ℕ → List (List ℕ) → List (List ℕ)
in_front c [] = (c ∷ []) ∷ []
in_front c (l ∷ ls) = (c ∷ l) ∷ ls

-- the lines, each with its line feed; what stands behind the last line feed is a line without one
unfoldable pub cut : List ℕ → List (List ℕ)
cut [] = []
cut (c ∷ t) = pick (eqb c line_feed) ((c ∷ []) ∷ cut t) (in_front c (cut t))

-- how long the first line is, with its line feed
unfoldable pub line_length : List ℕ → ℕ
line_length [] = 0
line_length (c ∷ t) = pick (eqb c line_feed) 1 (suc (line_length t))

-- the first line, nothing where there is none
abbrev pub first_line : List ℕ → List ℕ
first_line t = take (line_length t) t

-- the place past the first line from `at` on
abbrev pub past_line : List ℕ → ℕ → ℕ
past_line t at = at + line_length (drop at t)

-- from `at` up to `end`; nothing where that is not inside
abbrev pub between : ℕ → ℕ → List ℕ → List ℕ
between at end t = pick (ltb (length t) end) [] (pick (ltb end at) [] (part at end t))
