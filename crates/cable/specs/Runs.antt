-- docs/RULES.md, 13.8: a whole text, fed in cuts to a head that is handed on, and judged stretch by stretch.
use Rattle.std.specs.Prelude.{ℕ, zero, suc, ◌≤◌, ◌≡◌, List, [], ◌∷◌, Bool, true, ◌&&◌, leb, length, take, drop, replicate, Result, Ok, Err}
use Rattle.cable_frame.specs.Frame.{frame_size}
use Rattle.cable_judge.specs.Judge.{verdict}
use Rattle.cable_judge.specs.declared.answers.NoFrame.{NoFrame}
use Rattle.cable_head.specs.Feed.{held_at, head_need, feed_step}

-- a head before the first feed: long enough, and its numbers are 0
pub record Fresh (h : List ℕ) : Type 0 where
  pub long : head_need ≤ length h
  pub null : take held_at h ≡ replicate held_at 0

-- the answers that stretches got, the output, and what is left of the text
pub record Run : Type 0 where
  pub answers : List (Result ℕ NoFrame)
  pub out : List ℕ
  pub left : List ℕ

abbrev pub run_of : List (Result ℕ NoFrame) → List ℕ → List ℕ → Run
run_of a o l = record { answers = a; out = o; left = l }

-- one more answer in front, where a stretch ended
abbrev pub more : Result ℕ NoFrame → List (Result ℕ NoFrame) → List (Result ℕ NoFrame)
more (Ok size) l = Ok size ∷ l
more (Err NoFrame.OutputShort) l = Err NoFrame.OutputShort ∷ l
more (Err NoFrame.NotAwaited) l = Err NoFrame.NotAwaited ∷ l
more (Err NoFrame.Unended) l = l
more (Err NoFrame.HeadShort) l = l

abbrev pub answered : Result ℕ NoFrame → Run → Run
answered a r = run_of (more a r.answers) r.out r.left

-- a text in cuts: each feed is offered so many bytes of what is left of it
unfoldable pub feeds : List ℕ → List ℕ → List ℕ → List ℕ → Run
feeds h out t [] = run_of [] out t
feeds h out t (n ∷ ns) =
    answered (feed_step h (take n t) out).answer
    (feeds (feed_step h (take n t) out).head (feed_step h (take n t) out).out (drop (feed_step h (take n t) out).taken t) ns)

-- the stretches' answers and the output, from the stretches alone
unfoldable pub told : ℕ → ℕ → List ℕ → List (List ℕ) → Run
told n count out [] = run_of [] out []
told n count out (s ∷ ss) =
    answered (verdict n count out s).answer
    (told (verdict n count out s).awaited (verdict n count out s).count (verdict n count out s).out ss)

-- the answers to k frames of a table, all accepted, each with its size
unfoldable pub all_accepted : ℕ → List ℕ → List (Result ℕ NoFrame)
all_accepted zero t = []
all_accepted (suc k) t = Ok (length (take frame_size t)) ∷ all_accepted k (drop frame_size t)

-- every feed is offered a byte or more
unfoldable pub offers : List ℕ → Bool
offers [] = true
offers (n ∷ ns) = leb 1 n && offers ns
