-- docs/RULES.md, 11.3: what ops do to the session in the two stores, and what they come to.
use Rattle.std.specs.Prelude.{◌≡◌, ℕ, ◌+◌, ◌≤◌, List, [], ◌∷◌, ◌++◌, true, length, Ok, Err}
use Rattle.lists.specs.Lists.{part}
use Rattle.layout.specs.Sound.{sound}
use Rattle.steps.specs.Runs.{Stores}
use Rattle.steps.specs.Mirrored.{by_stores}
use Rattle.gsub.specs.Ops.{Op, begin, put, link, end, stop, Outcome, outcome, perform}
use Rattle.gsub.specs.Promote.{new_bytes}
use Rattle.gsub_walk.specs.declared.walk.Move.{Move}
use Rattle.gsub_rows.specs.Fields.{most_width}
use Rattle.gsub_read.specs.Answers.{Performed, unread_number, unread_place}

-- the number, the id and the place that it tells
abbrev pub outcome_of : Performed → Stores → Outcome Stores
outcome_of (Ok i) s = outcome 0 i.0 0 s
outcome_of (Err u) s = outcome (unread_number u) 0 (unread_place u) s

-- with the ops that follow
abbrev pub continued : Performed → List Op → Stores → Outcome Stores
continued (Ok i) ops s = perform by_stores ops i.0 s
continued (Err u) ops s = outcome_of (Err u) s

-- some ops, after a close that told i, come to r and leave t of s, whatever follows
pub record PerformedBy (some : List Op) (i : ℕ) (s : Stores) (r : Performed) (t : Stores) : Type 0 where
  pub made : (ops : List Op) → perform by_stores (some ++ ops) i s ≡ continued r ops t
  pub stays : sound t.bytes t.words ≡ true

-- ---- the moves of a walk through b

abbrev pub ops_of : List ℕ → Move → List Op
ops_of b Move.Begin = begin ∷ []
ops_of b (Move.Put at width) = put (part at (at + width) b) ∷ []
ops_of b (Move.New at width) = put (part at (at + width) new_bytes) ∷ []
ops_of b (Move.Link width) = link width ∷ []
ops_of b Move.End = end ∷ []
ops_of b (Move.Stop p) = stop p ∷ []
ops_of b Move.Done = []

-- what the code of a move leans on
unfoldable pub MoveOk : List ℕ → Move → Type 0
MoveOk b Move.Begin = Unit {0}
MoveOk b (Move.Put at width) = at + width ≤ length b
MoveOk b (Move.New at width) = at + width ≤ length new_bytes
MoveOk b (Move.Link width) = width ≤ most_width
MoveOk b Move.End = Unit {0}
MoveOk b (Move.Stop p) = Unit {0}
MoveOk b Move.Done = Unit {0}

-- ops that are made to their end, or to the first refusal
pub record RanBy (ops : List Op) (i : ℕ) (s : Stores) (r : Performed) (t : Stores) : Type 0 where
  pub ran : perform by_stores ops i s ≡ outcome_of r t
  pub stays : sound t.bytes t.words ≡ true
