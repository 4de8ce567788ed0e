-- docs/RULES.md, 2.5: objects as runs of the two stores, and what the look for an equal one leans on.
use Rattle.std.specs.Prelude.{◌≡◌, ℕ, ◌+◌, ◌-◌, ◌*◌, ◌≤◌, List, length}
use Rattle.lists.specs.Lists.{part}
use Rattle.model_orders.specs.Object.{Object}
use Rattle.layout.specs.Words.{object_limit, closed_count, store_length, links_base, link_words, links_of}
use Rattle.layout.specs.Known.{Tested}
use Rattle.layout.specs.declared.span.Span.{Span}
use Rattle.steps.specs.Steps.{innermost_in}
use Rattle.session_find.specs.declared.Runs.{Runs}

-- of an object that lies there
abbrev pub runs_of : ℕ → Span → Runs
runs_of objects s = record { from = s.from; size = s.to - s.from; at = links_base + objects * 2 + s.first * link_words; words = (s.last - s.first) * link_words }

-- object o has these bytes and these words of links
pub record HasRuns (b w : List ℕ) (o : Object) (s : Runs) : Type 0 where
  pub bytes_in : s.from + s.size ≤ length b
  pub words_in : s.at + s.words ≤ length w
  pub count : ℕ
  pub words_is : s.words ≡ count * link_words
  pub object_is : o ≡ record { bytes = part s.from (s.from + s.size) b; links = links_of (part s.at (s.at + s.words) w) }

-- words that pass their tests, for a byte store of that length, in which so many are closed of so many at most, and the innermost open one has these runs
pub record Ground (b w : List ℕ) (objects closed : ℕ) (own : Runs) : Type 0 where
  pub tested : Tested w
  pub size : store_length w ≡ length b
  pub objects_is : objects ≡ object_limit w
  pub closed_is : closed ≡ closed_count w
  pub inner_runs : HasRuns b w (innermost_in b w) own
