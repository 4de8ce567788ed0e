-- docs/RULES.md, 13.4: a text line by line.
use Rattle.std.specs.Prelude.{ℕ, List, [], ◌∷◌, Bool, true, ◌&&◌, not, eqb}
use Rattle.cable_frame.specs.Frame.{line_feed}

-- no line feed
unfoldable pub quiet : List ℕ → Bool
quiet [] = true
quiet (b ∷ l) = not (eqb b line_feed) && quiet l
