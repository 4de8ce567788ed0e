-- docs/RULES.md, section 4, clause by clause.
use Rattle.std.specs.Prelude.{ℕ, List, [], ◌∷◌, Bool, length, get_or, leb, eqb}
use Rattle.lists.specs.Lists.{part, holds, zeros}
use Rattle.model.specs.Judge.{in_range, most_open}
use Rattle.layout.specs.Tables.{rises, falls, for_all}
use Rattle.layout.specs.Words.{object_limit, closed_count, open_depth, ends_at, link_ends_at, need, store_length, link_limit, limits_in, ends, link_ends, begins, link_begins, top, link_top, low, link_low}
use Rattle.layout.specs.Fields.{object_ok, closed_ok}
use Rattle.layout.specs.Decode.{open_at, closed_at}

-- limits in range; the record store no shorter than its need; the byte store, of n bytes, as long as at the start; counts within limits; the tables' first entries
unfoldable pub head_tests : ℕ → List ℕ → List Bool
head_tests n w =
    holds (in_range (limits_in w))
    ∷ leb (need (object_limit w) (link_limit w)) (length w)
    ∷ eqb (store_length w) n
    ∷ leb (closed_count w) (object_limit w)
    ∷ leb (open_depth w) most_open
    ∷ eqb (get_or w ends_at 0) 0
    ∷ eqb (get_or w link_ends_at 0) 0
    ∷ []

unfoldable pub head_ok : ℕ → List ℕ → Bool
head_ok n w = holds (head_tests n w)

-- open objects lie one behind the other from the front, closed ones from the back, each of 1 byte or more, and the two do not meet
unfoldable pub table_tests : List ℕ → List Bool
table_tests w =
    rises (ends w) ∷ rises (link_ends w) ∷ falls 1 (begins w) ∷ falls 0 (link_begins w) ∷ leb (top w) (low w) ∷ leb (link_top w) (link_low w) ∷ []

-- the bytes between are zero; fields are right, every child closed, and below a closed parent; every closed object's fields can be filled
unfoldable pub sound_tests : List ℕ → List ℕ → List Bool
sound_tests b w =
    head_ok (length b) w
    ∷ holds (table_tests w)
    ∷ zeros (part (top w) (low w) b)
    ∷ for_all (λ d. object_ok (closed_count w) (open_at b w d)) (open_depth w)
    ∷ for_all (λ i. closed_ok i (closed_at b w i)) (closed_count w)
    ∷ []

unfoldable pub sound : List ℕ → List ℕ → Bool
sound b w = holds (sound_tests b w)
