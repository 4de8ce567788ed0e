-- docs/RULES.md, 2.5: the slots of a session's closed objects, before and after a close.
use Rattle.std.specs.Prelude.{◌≡◌, true, ℕ, ◌+◌, ◌≤◌, ◌<◌, List, length}
use Rattle.answer.specs.Answers.{Closing}
use Rattle.model.specs.Judge.{most_objects}
use Rattle.layout.specs.Words.{closed_count_at, closed_count}
use Rattle.layout.specs.Decode.{closed_to}
use Rattle.layout.specs.Sound.{sound}
use Rattle.layout.specs.Known.{Read, Innermost}
use Rattle.layout.specs.declared.state.State.{State}
use Rattle.layout.specs.declared.span.Span.{Span}
use Rattle.steps.specs.Steps.{closing, close_step, innermost_in}
use Rattle.session_hash.specs.Hash.{hash_of}
use Rattle.session_slots.specs.Slots.{slots, probes, Slotted}

-- sound stores, and the slots of their closed objects
pub record Slotting (b w m : List ℕ) : Type 0 where
  pub is_sound : sound b w ≡ true
  pub slotted : Slotted (closed_to b w (closed_count w)) m

-- a close that told r
pub record SlottedBy (b w b' w' m' : List ℕ) (r : Closing) : Type 0 where
  pub step : closing r b' w' ≡ close_step b w
  pub slotting : Slotting b' w' m'

-- the innermost open object, which lies at `own` and has hash h, and the slots of the closed ones
pub record Asked (b w : List ℕ) (s : State) (own : Span) (m : List ℕ) (h : ℕ) : Type 0 where
  pub read : Read b w s
  pub lies : Innermost w s own
  pub slotted : Slotted (closed_to b w (closed_count w)) m
  pub hash_is : h ≡ hash_of (innermost_in b w)

-- id c may be added, if the count has passed it
pub record More (w m : List ℕ) (c : ℕ) : Type 0 where
  pub counted : closed_count_at < length w
  pub long : length m ≡ slots + probes
  pub few : c ≤ most_objects
