-- docs/RULES.md, 14.1: the call that the words of a batch name, as a call on the two stores.
use Rattle.std.specs.Prelude.{◌≡◌, ℕ, ◌≤◌, List, length, take, Option, Some, None, Result, Ok, Err}
use Rattle.answer.specs.Answers.{Answer}
use Rattle.steps.specs.Steps.{outcome}
use Rattle.steps.specs.Runs.{StoreCall, open', put, link, drop, tally, stores, left_by, step_on}
use Rattle.session_batch_words.specs.declared.Call.{Call}
use Rattle.session_batch_words.specs.declared.NoCall.{NoCall}

-- a close is not among them, nor what is no call
unfoldable pub call_by : List ℕ → Result (Option Call) NoCall → StoreCall
call_by bytes (Ok None) = tally
call_by bytes (Ok (Some Call.Open)) = open'
call_by bytes (Ok (Some (Call.Put n))) = put (take n bytes)
call_by bytes (Ok (Some (Call.Link width id inner))) = link width id inner
call_by bytes (Ok (Some Call.Close)) = tally
call_by bytes (Ok (Some Call.Drop)) = drop
call_by bytes (Err e) = tally

-- a put has its bytes
unfoldable pub CallOk : List ℕ → Result (Option Call) NoCall → Type 0
CallOk bytes (Ok None) = Unit {0}
CallOk bytes (Ok (Some Call.Open)) = Unit {0}
CallOk bytes (Ok (Some (Call.Put n))) = n ≤ length bytes
CallOk bytes (Ok (Some (Call.Link width id inner))) = Unit {0}
CallOk bytes (Ok (Some Call.Close)) = Unit {0}
CallOk bytes (Ok (Some Call.Drop)) = Unit {0}
CallOk bytes (Err e) = Unit {0}

-- it answered r, and left these stores
pub record CarriedBy (c : StoreCall) (b w : List ℕ) (r : Answer) (b' w' : List ℕ) : Type 0 where
  pub is : left_by (outcome r b' w') ≡ step_on c (stores b w)
