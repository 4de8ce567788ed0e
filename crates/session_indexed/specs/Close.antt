-- docs/RULES.md, 2.5: the index of a session's closed objects, before and after a close.
use Rattle.std.specs.Prelude.{◌≡◌, true, ℕ, ◌≤◌, ◌<◌, List, length}
use Rattle.answer.specs.Answers.{Closing}
use Rattle.layout.specs.Words.{closed_count_at, object_limit, closed_count}
use Rattle.layout.specs.Decode.{closed_to}
use Rattle.layout.specs.Sound.{sound}
use Rattle.steps.specs.Steps.{closing, close_step}
use Rattle.session_chains.specs.Index.{index_need, Indexed, Room}

-- sound stores, and an index of their closed objects with room for all there may be
pub record Keeping (b w : List ℕ) (m : List ℕ) (buckets : ℕ) : Type 0 where
  pub is_sound : sound b w ≡ true
  pub indexed : Indexed (closed_to b w (closed_count w)) buckets m
  pub room : index_need buckets (object_limit w) ≤ length m

-- a close that told r
pub record Kept (b w b' w' m' : List ℕ) (buckets : ℕ) (r : Closing) : Type 0 where
  pub step : closing r b' w' ≡ close_step b w
  pub indexed : Indexed (closed_to b' w' (closed_count w')) buckets m'

-- an id of hash h may be added, if the count has passed c
pub record More (w m : List ℕ) (buckets h c : ℕ) : Type 0 where
  pub counted : closed_count_at < length w
  pub asked : c < closed_count w → Room buckets h c m
