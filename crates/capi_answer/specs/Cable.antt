-- docs/RULES.md, 13.3 and 13.6: what send and feed tell, as numbers.
use Rattle.std.specs.Prelude.{ℕ, Bool, true, false, List, Result, Ok, Err}
use Rattle.answer.specs.Number.{number}
use Rattle.answer.specs.declared.Refusal.{Refusal}
use Rattle.cable_judge.specs.declared.answers.NoFrame.{NoFrame}
use Rattle.cable_head.specs.Feed.{Left, feed_number, is_whole}
use Rattle.capi_answer.specs.declared.cable.SentNumbers.{SentNumbers}
use Rattle.capi_answer.specs.declared.cable.FedNumbers.{FedNumbers}

abbrev pub sent_numbers : Result ℕ Refusal → SentNumbers
sent_numbers (Ok n) = record { number = 0; length = n }
sent_numbers (Err why) = record { number = number why; length = 0 }

-- how many bytes reached the output
abbrev pub written : Result ℕ NoFrame → ℕ
written (Ok size) = size
written (Err why) = 0

abbrev pub as_number : Bool → ℕ
as_number true = 1
as_number false = 0

-- what a feed told, and the head and the output after it
pub record FedLeft : Type 0 where
  pub told : FedNumbers
  pub head : List ℕ
  pub out : List ℕ

abbrev pub fed_left : FedNumbers → List ℕ → List ℕ → FedLeft
fed_left n h o = record { told = n; head = h; out = o }

-- the answer's number, the bytes taken and written, and whether all frames are in then
abbrev pub fed_numbers : Result ℕ NoFrame → ℕ → List ℕ → FedNumbers
fed_numbers a taken h = record { number = feed_number a; taken = taken; written = written a; whole = as_number (is_whole h) }

abbrev pub in_numbers : Left → FedLeft
in_numbers l = fed_left (fed_numbers l.answer l.taken l.head) l.head l.out
