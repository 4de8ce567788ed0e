-- docs/RULES.md, 13.4: where stretches end, at the line feed that ends a line starting `check=`.
use Rattle.std.specs.Prelude.{ℕ, ◌+◌, List, [], ◌∷◌, ◌++◌, Bool, ◌&&◌, eqb, leb, get_or, Option, Some, None}
use Rattle.lists.specs.Lists.{pick}
use Rattle.cable_frame.specs.Frame.{check_key, line_feed}
use Rattle.cable_scan.specs.declared.Scanned.{Scanned}

-- how far a line agrees with `check=`: as many characters as came, all of them, or that it differs
abbrev pub agreed : ℕ
agreed = 6

abbrev pub differs : ℕ
differs = 7

-- the same after one character more
abbrev pub line_next : ℕ → ℕ → ℕ
line_next line b = pick (eqb b line_feed) 0 (pick (leb agreed line) line (pick (eqb b (get_or check_key line 0)) (line + 1) differs))

-- the same after more characters
unfoldable pub line_on : ℕ → List ℕ → ℕ
line_on line [] = line
line_on line (b ∷ l) = line_on (line_next line b) l

-- the character ends a stretch
abbrev pub ends : ℕ → ℕ → Bool
ends line b = eqb b line_feed && eqb line agreed

abbrev pub scanned : ℕ → Option ℕ → Scanned
scanned taken line = record { taken = taken; line = line }

-- up to the first stretch's end or the text's, with so many characters passed before
unfoldable pub scan_on : ℕ → ℕ → List ℕ → Scanned
scan_on k line [] = scanned k (Some line)
scan_on k line (b ∷ l) = pick (ends line b) (scanned (k + 1) None) (scan_on (k + 1) (line_next line b) l)

-- the stretches of a text of which the stretch that is under way began with p; what comes after the last one's end is none
unfoldable pub stretches_on : ℕ → List ℕ → List ℕ → List (List ℕ)
stretches_on line p [] = []
stretches_on line p (b ∷ l) = pick (ends line b) ((p ++ (b ∷ [])) ∷ stretches_on 0 [] l) (stretches_on (line_next line b) (p ++ (b ∷ [])) l)

abbrev pub stretches : List ℕ → List (List ℕ)
stretches t = stretches_on 0 [] t
