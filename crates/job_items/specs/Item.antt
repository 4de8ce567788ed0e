-- docs/RULES.md, 12.1 to 12.3: what a line says by itself.
use Rattle.std.specs.Prelude.{ℕ, suc, ◌-◌, ◌%◌, List, [], ◌∷◌, Bool, true, false, ◌&&◌, eqb, length, take, drop, get_or, Option, Some, None}
use Prim.Native.String.{String, [] as none, ◌∷◌ as first}
use Prim.Native.Char.{code}
use Rattle.lists.specs.Lists.{pick, first_that}
use Rattle.job_lines.specs.Lines.{line_feed}
use Rattle.text.specs.Digits.{all_digits}
use Rattle.text.specs.Decimal.{read_number}
use Rattle.job_items.specs.declared.Item.{Item}

-- the characters of a text
unfoldable pub codes : String → List ℕ
codes none = []
codes (first c s) = code c ∷ codes s

-- ---- a line is a key and a value, and ends in a line feed

abbrev pub is_line : List ℕ → Bool
is_line l = eqb (get_or l (length l - 1) 0) line_feed

unfoldable pub starts_with : List ℕ → List ℕ → Bool
starts_with [] l = true
starts_with (k ∷ ks) [] = false
starts_with (k ∷ ks) (c ∷ l) = eqb k c && starts_with ks l

-- what stands between a key and the line feed
abbrev pub value : List ℕ → List ℕ → List ℕ
value key l = take (length l - 1 - length key) (drop (length key) l)

-- ---- the three limits: the number behind its key

unfoldable pub limit : List ℕ → List ℕ → Option ℕ
limit key l = pick (is_line l && starts_with key l) (read_number (value key l)) None

-- ---- the lines behind the limits

abbrev pub piece_key : List ℕ
piece_key = codes "piece="

abbrev pub link_key : List ℕ
link_key = codes "link="

abbrev pub end_key : List ℕ
end_key = codes "end="

-- how long a piece line is at the least
abbrev pub piece_least : ℕ
piece_least = 6

-- the hex pairs of a piece line
abbrev pub pairs : List ℕ → List ℕ
pairs l = value piece_key l

-- digits in pairs
abbrev pub is_hex : List ℕ → Bool
is_hex v = eqb (length v % 2) 0 && all_digits 16 v

unfoldable pub piece_item : List ℕ → Option Item
piece_item v = pick (is_hex v) (Some Item.Piece) None

abbrev pub comma : ℕ
comma = 44

abbrev pub link_of : Option ℕ → Option ℕ → Option Item
link_of (Some w) (Some i) = Some (Item.Link w i)
link_of (Some w) None = None
link_of None i = None

-- the numbers before and behind the first comma
unfoldable pub link_item : List ℕ → Option Item
link_item v = let k = first_that (eqb comma) v in link_of (read_number (take k v)) (read_number (drop (suc k) v))

abbrev pub end_of : Option ℕ → Option Item
end_of (Some n) = Some (Item.End n)
end_of None = None

unfoldable pub end_item : List ℕ → Option Item
end_item v = end_of (read_number v)

abbrev pub keyed : List ℕ → Option Item
keyed l =
    pick (starts_with piece_key l) (piece_item (pairs l))
    (pick (starts_with link_key l) (link_item (value link_key l))
    (pick (starts_with end_key l) (end_item (value end_key l)) None))

unfoldable pub item : List ℕ → Option Item
item l = pick (is_line l) (keyed l) None
