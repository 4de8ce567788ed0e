-- docs/RULES.md, section 14: one turn of a batch, on the memory that it is lent.
use Rattle.std.specs.Prelude.{◌≡◌, true, ℕ, ◌+◌, ◌-◌, ◌^◌, ◌≤◌, ◌<◌, List, length, take, drop, set, Option, Result, Ok, Err}
use Rattle.answer.specs.Number.{number}
use Rattle.answer.specs.Answers.{Answer, Closing}
use Rattle.layout.specs.Sound.{sound}
use Rattle.steps.specs.Runs.{Stores, stores}
use Rattle.steps.specs.Mirrored.{by_stores}
use Rattle.session_batch.specs.Calls.{Said, said}
use Rattle.session_batch.specs.Batch.{no_call_number, Underway, Ended, ended, turn}
use Rattle.session_batch_words.specs.Next.{said_by, words_taken, bytes_taken, Within}
use Rattle.session_batch_words.specs.declared.Call.{Call}
use Rattle.session_batch_words.specs.declared.NoCall.{NoCall}
use Rattle.session_batch_calls.specs.Carried.{call_by, CarriedBy}
use Rattle.session_indexed.specs.Close.{Keeping, Kept}
use Rattle.session_batch_turn.specs.declared.Progress.{Progress}
use Rattle.session_batch_turn.specs.declared.Ending.{Ending}
use Rattle.session_batch_turn.specs.declared.Turn.{Turn}
use Rattle.session_batch_turn.specs.declared.Turn.TheVariants.{On, Over}

-- ---- the memory that a batch is lent: the two stores, the ids, and the index of the closed objects

pub record Lent : Type 0 where
  pub stores : Stores
  pub ids : List ℕ
  pub index : List ℕ

abbrev pub lent : List ℕ → List ℕ → List ℕ → List ℕ → Lent
lent b w ids m = record { stores = stores b w; ids = ids; index = m }

-- a batch with these calls and bytes that is at p
abbrev pub underway : List ℕ → List ℕ → Lent → Progress → Underway Stores
underway calls bytes l p =
    record { state = l.stores; words = drop p.words calls; bytes = drop p.bytes bytes; ids = take p.told l.ids; calls = p.calls }

-- p is inside what it is given and lent
pub record Inside (calls bytes ids : List ℕ) (p : Progress) : Type 0 where
  pub in_words : p.words ≤ length calls
  pub in_bytes : p.bytes ≤ length bytes
  pub in_ids : p.told ≤ length ids

pub record Ready (calls bytes : List ℕ) (buckets : ℕ) (l : Lent) (p : Progress) : Type 0 where
  pub inside : Inside calls bytes l.ids p
  pub keeping : Keeping l.stores.bytes l.stores.words l.index buckets
  pub counted : p.calls ≤ p.words

-- ---- the next call

-- what the words say that are left, where `ids` are what the batch is lent
abbrev pub next_said : List ℕ → List ℕ → List ℕ → Progress → Said
next_said calls bytes ids p = said (length ids) (take p.told ids) (drop p.bytes bytes) (drop p.words calls)

-- they say n, and it takes no more than is left
pub record NextSays (calls bytes ids : List ℕ) (p : Progress) (n : Result (Option Call) NoCall) : Type 0 where
  pub is : next_said calls bytes ids p ≡ said_by (drop p.bytes bytes) (drop p.words calls) n
  pub within : Within (length calls - p.words) (length bytes - p.bytes) (length ids - p.told) n

-- ---- a turn

abbrev pub end_number : Ending → ℕ
end_number Ending.Done = 0
end_number Ending.NoCall = no_call_number
end_number (Ending.Refused why) = number why

-- how far it is behind a turn from p
abbrev pub reached : Progress → Turn → Progress
reached p (On q) = q
reached p (Over e) = p

-- it goes on, or ends
abbrev pub came_to : (Underway Stores → Ended Stores) → Turn → Underway Stores → Ended Stores
came_to rest (On q) u = rest u
came_to rest (Over e) u = ended (end_number e) u.state u

-- the turn is the next call, whatever is done with the rest; the ids behind those told stand
pub record Turned (calls bytes : List ℕ) (buckets : ℕ) (l : Lent) (p : Progress) (r : Turn) (l' : Lent) : Type 0 where
  pub is : (rest : Underway Stores → Ended Stores) → turn by_stores rest (underway calls bytes l p) (next_said calls bytes l.ids p) ≡ came_to rest r (underway calls bytes l' (reached p r))
  pub ready : Ready calls bytes buckets l' (reached p r)
  pub more : p.told ≤ (reached p r).told
  pub stands : drop (reached p r).told l'.ids ≡ drop (reached p r).told l.ids
  pub further : (q : Progress) → r ≡ On q → p.words < q.words

-- ---- by a call's answer

abbrev pub after_call : Answer → Result (Option Call) NoCall → Progress → Turn
after_call (Ok t) n p = On (record { words = p.words + words_taken n; bytes = p.bytes + bytes_taken n; told = p.told; calls = p.calls + 1 })
after_call (Err r) n p = Over (Ending.Refused r.why)

pub record CallReady (b w bytes : List ℕ) (n : Result (Option Call) NoCall) (p : Progress) : Type 0 where
  pub is_sound : sound b w ≡ true
  pub in_bytes : p.bytes + bytes_taken n ≤ length bytes
  pub small : p.words + words_taken n < 2 ^ 64
  pub counted : p.calls < p.words + words_taken n

pub record CallTurned (b w bytes : List ℕ) (n : Result (Option Call) NoCall) (p : Progress) (r : Turn) (b' w' : List ℕ) : Type 0 where
  pub answer : Answer
  pub carried : CarriedBy (call_by (drop p.bytes bytes) n) b w answer b' w'
  pub is : r ≡ after_call answer n p

abbrev pub after_close : Closing → Progress → Turn
after_close (Ok c) p = On (record { words = p.words + 1; bytes = p.bytes; told = p.told + 1; calls = p.calls + 1 })
after_close (Err r) p = Over (Ending.Refused r.why)

-- its id behind those told
abbrev pub ids_with : Closing → ℕ → List ℕ → List ℕ
ids_with (Ok c) told ids = set ids told c.id.0
ids_with (Err r) told ids = ids

pub record CloseReady (buckets : ℕ) (l : Lent) (p : Progress) : Type 0 where
  pub keeping : Keeping l.stores.bytes l.stores.words l.index buckets
  pub room : p.told < length l.ids
  pub small : p.words + 1 < 2 ^ 64
  pub counted : p.calls ≤ p.words

pub record CloseTurned (buckets : ℕ) (l : Lent) (p : Progress) (r : Turn) (l' : Lent) : Type 0 where
  pub closing : Closing
  pub kept : Kept l.stores.bytes l.stores.words l'.stores.bytes l'.stores.words l'.index buckets closing
  pub is : r ≡ after_close closing p
  pub ids : l'.ids ≡ ids_with closing p.told l.ids
