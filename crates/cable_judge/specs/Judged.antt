-- docs/RULES.md, 13.5: a stretch judged in steps: what it tells, then whether it is that frame's text.
use Rattle.std.specs.Prelude.{ℕ, ◌≡◌, List, [], ◌∷◌, Bool, true, leb, ltb, take, Option, Some, None, Err}
use Rattle.lists.specs.Lists.{pick, holds}
use Rattle.cable_frame.specs.Frame.{most_frames}
use Rattle.cable_judge.specs.Judge.{Outcome, told_count, told_size, told_data, agrees, right_size, is_awaited}
use Rattle.cable_judge.specs.declared.answers.NoFrame.{NoFrame}
use Rattle.cable_judge.specs.declared.judging.Judged.{Judged}
use Rattle.cable_judge.specs.declared.settling.Awaiting.{Awaiting}
use Rattle.cable_judge.specs.declared.settling.Settled.{Settled}

-- count and size are right
abbrev pub tells : ℕ → ℕ → ℕ → ℕ → Bool
tells n m count k = holds (ltb n m ∷ (leb m most_frames ∷ (agrees count m ∷ (right_size n m k ∷ []))))

abbrev pub told : ℕ → List ℕ → Judged
told n s = record { count = told_count n s; size = told_size n (told_count n s) s }

unfoldable pub weighed : ℕ → ℕ → List ℕ → Option Judged
weighed n count s = pick (tells n (told_count n s) count (told_size n (told_count n s) s)) (Some (told n s)) None

-- r says whether s is the awaited frame, and then what it tells; if so its data stand at the front of body
pub record Judges (n count : ℕ) (s : List ℕ) (r : Option Judged) (body : List ℕ) : Type 0 where
  pub answer : r ≡ pick (is_awaited n count s) (Some (told n s)) None
  pub bytes : is_awaited n count s ≡ true → take (told_size n (told_count n s) s) body ≡ told_data n (told_count n s) s

-- an outcome but for the output, and one after which the same is awaited still
abbrev pub settled_of : Outcome → Settled
settled_of o = record { answer = o.answer; awaiting = record { number = o.awaited; count = o.count } }

abbrev pub still : Awaiting → NoFrame → Settled
still a why = record { answer = Err why; awaiting = a }
