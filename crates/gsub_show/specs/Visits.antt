-- What is counted of a walk.
use Rattle.std.specs.Prelude.{Option, Some, None}
use Rattle.gsub_walk.specs.declared.walk.Move.{Move}
use Rattle.gsub_show.specs.declared.visits.Visited.{Visited}

-- a walk goes on from a move that is counted
unfoldable pub GoesOn : Move → Option Visited → Type 0
GoesOn m None = Unit {0}
GoesOn Move.Begin (Some v) = Unit {0}
GoesOn (Move.Put at width) (Some v) = Unit {0}
GoesOn (Move.New at width) (Some v) = Unit {0}
GoesOn (Move.Link width) (Some v) = Unit {0}
GoesOn Move.End (Some v) = Unit {0}
GoesOn (Move.Stop p) (Some v) = ⊥
GoesOn Move.Done (Some v) = ⊥
