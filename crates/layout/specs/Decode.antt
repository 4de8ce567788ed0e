-- docs/RULES.md, 3.4: what the two stores hold, read off their words: total, and meant where they are sound.
use Rattle.std.specs.Prelude.{ℕ, zero, suc, ◌*◌, List, [], ◌∷◌, ◌++◌}
use Rattle.lists.specs.Lists.{part}
use Rattle.model_orders.specs.Object.{Link, Object}
use Rattle.model.specs.Session.{Session}
use Rattle.layout.specs.Words.{open_depth, closed_count, link_words, link_area, links_of, limits_in}
use Rattle.layout.specs.Spans.{open_span, closed_span}
use Rattle.layout.specs.declared.span.Span.{Span}

-- the links from number a up to number e
abbrev pub links_from : List ℕ → ℕ → ℕ → List Link
links_from w a e = links_of (part (a * link_words) (e * link_words) (link_area w))

-- the object that lies there
abbrev pub object_in : List ℕ → List ℕ → Span → Object
object_in b w s = record { bytes = part s.from s.to b; links = links_from w s.first s.last }

-- open object d, the oldest being 0
abbrev pub open_at : List ℕ → List ℕ → ℕ → Object
open_at b w d = object_in b w (open_span w d)

-- closed object i
abbrev pub closed_at : List ℕ → List ℕ → ℕ → Object
closed_at b w i = object_in b w (closed_span w i)

-- the first d open objects, the innermost first
unfoldable pub opens_to : List ℕ → List ℕ → ℕ → List Object
opens_to b w zero = []
opens_to b w (suc d) = open_at b w d ∷ opens_to b w d

-- the first n closed objects, by id
unfoldable pub closed_to : List ℕ → List ℕ → ℕ → List Object
closed_to b w zero = []
closed_to b w (suc n) = closed_to b w n ++ (closed_at b w n ∷ [])

unfoldable pub decode : List ℕ → List ℕ → Session
decode b w = record { limits = limits_in w; opens = opens_to b w (open_depth w); closed = closed_to b w (closed_count w) }
