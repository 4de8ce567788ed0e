-- docs/RULES.md, 4.1 to 4.4: the counts in a header that passes its tests, and what they bound.
use Rattle.std.specs.Prelude.{◌≡◌, ℕ, ◌+◌, ◌*◌, ◌≤◌, List, length}
use Rattle.model.specs.Judge.{most_objects, most_open}
use Rattle.layout.specs.Words.{object_limit, closed_count, open_depth, links_base}
use Rattle.layout.specs.declared.counts.Counts.{Counts}

pub record Counted (w : List ℕ) (k : Counts) : Type 0 where
  pub objects_is : k.objects ≡ object_limit w
  pub closed_is : k.closed ≡ closed_count w
  pub depth_is : k.depth ≡ open_depth w
  pub few : k.objects ≤ most_objects
  pub within : k.closed ≤ k.objects
  pub shallow : k.depth ≤ most_open
  pub room : links_base + k.objects * 2 ≤ length w
