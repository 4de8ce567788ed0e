-- docs/RULES.md, 2.5: what the look along a chain of the index asks.
use Rattle.std.specs.Prelude.{◌≡◌, ℕ, ◌<◌, List, length}
use Rattle.layout.specs.Words.{object_limit, closed_count, store_length}
use Rattle.layout.specs.Decode.{closed_at, closed_to}
use Rattle.layout.specs.Known.{Read, Tested, Innermost}
use Rattle.layout.specs.Spans.{Within}
use Rattle.layout.specs.declared.state.State.{State}
use Rattle.layout.specs.declared.span.Span.{Span}
use Rattle.session_find.specs.declared.Runs.{Runs}
use Rattle.session_find.specs.Runs.{Ground}
use Rattle.steps.specs.Steps.{innermost_in}
use Rattle.session_hash.specs.Hash.{hash_of}
use Rattle.session_chains.specs.Index.{Indexed}

-- an object that lies at s
pub record Laid (b w : List ℕ) (objects : ℕ) (s : Span) : Type 0 where
  pub tested : Tested w
  pub size : store_length w ≡ length b
  pub objects_is : objects ≡ object_limit w
  pub within : Within w s

-- the innermost open object, which lies at `own` and has hash h, and an index of the closed ones
pub record Asked (b w : List ℕ) (s : State) (own : Span) (m : List ℕ) (buckets h : ℕ) : Type 0 where
  pub read : Read b w s
  pub lies : Innermost w s own
  pub indexed : Indexed (closed_to b w (closed_count w)) buckets m
  pub hash_is : h ≡ hash_of (innermost_in b w)

-- the innermost open object, of these runs and of hash h, and a closed one of hash g
pub record Compared (b w : List ℕ) (s : State) (own : Runs) (id g h : ℕ) : Type 0 where
  pub ground : Ground b w s.objects s.closed own
  pub inside : id < closed_count w
  pub closed_hash : g ≡ hash_of (closed_at b w id)
  pub hash_is : h ≡ hash_of (innermost_in b w)
