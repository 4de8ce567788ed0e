-- docs/RULES.md, 14.2 and 14.3: the next call as the code tells it, and that it is what the words say, whatever the bytes are.
use Rattle.std.specs.Prelude.{◌≡◌, ℕ, ◌-◌, ◌≤◌, List, length, take, drop as past, Option, Some, None, Result, Ok, Err}
use Rattle.steps.specs.Runs.{open', put, link, close, drop}
use Rattle.session_batch.specs.Calls.{Said, nothing, no_call, says, said_put, said_link, said_own_link, said_close, said}
use Rattle.session_batch_words.specs.declared.Call.{Call}
use Rattle.session_batch_words.specs.declared.NoCall.{NoCall}

-- how many words a put has, and a link
abbrev pub put_length : ℕ
put_length = 2

abbrev pub link_length : ℕ
link_length = 4

-- ---- what it says

-- of these words and bytes
abbrev pub says_call : List ℕ → List ℕ → Call → Said
says_call bytes ws Call.Open = says open' (past 1 ws) bytes
says_call bytes ws (Call.Put n) = says (put (take n bytes)) (past put_length ws) (past n bytes)
says_call bytes ws (Call.Link width id inner) = says (link width id inner) (past link_length ws) bytes
says_call bytes ws Call.Close = says close (past 1 ws) bytes
says_call bytes ws Call.Drop = says drop (past 1 ws) bytes

-- none where there are no words
abbrev pub said_by : List ℕ → List ℕ → Result (Option Call) NoCall → Said
said_by bytes ws (Ok None) = nothing
said_by bytes ws (Ok (Some c)) = says_call bytes ws c
said_by bytes ws (Err e) = no_call

-- a call among the next words, or none
abbrev pub next : Result Call NoCall → Result (Option Call) NoCall
next (Ok c) = Ok (Some c)
next (Err e) = Err e

-- ---- what it takes

abbrev pub words_taken : Result (Option Call) NoCall → ℕ
words_taken (Ok None) = 0
words_taken (Ok (Some Call.Open)) = 1
words_taken (Ok (Some (Call.Put n))) = put_length
words_taken (Ok (Some (Call.Link width id inner))) = link_length
words_taken (Ok (Some Call.Close)) = 1
words_taken (Ok (Some Call.Drop)) = 1
words_taken (Err e) = 0

abbrev pub bytes_taken : Result (Option Call) NoCall → ℕ
bytes_taken (Ok None) = 0
bytes_taken (Ok (Some Call.Open)) = 0
bytes_taken (Ok (Some (Call.Put n))) = n
bytes_taken (Ok (Some (Call.Link width id inner))) = 0
bytes_taken (Ok (Some Call.Close)) = 0
bytes_taken (Ok (Some Call.Drop)) = 0
bytes_taken (Err e) = 0

abbrev pub ids_taken : Result (Option Call) NoCall → ℕ
ids_taken (Ok None) = 0
ids_taken (Ok (Some Call.Open)) = 0
ids_taken (Ok (Some (Call.Put n))) = 0
ids_taken (Ok (Some (Call.Link width id inner))) = 0
ids_taken (Ok (Some Call.Close)) = 1
ids_taken (Ok (Some Call.Drop)) = 0
ids_taken (Err e) = 0

-- no more than so many
pub record Within (words bytes ids : ℕ) (n : Result (Option Call) NoCall) : Type 0 where
  pub in_words : words_taken n ≤ words
  pub in_bytes : bytes_taken n ≤ bytes
  pub in_ids : ids_taken n ≤ ids

-- ---- the words say it, and it takes no more than is left

pub record Says (room : ℕ) (ids : List ℕ) (left : ℕ) (words : List ℕ) (n : Result (Option Call) NoCall) : Type 0 where
  pub is : (bytes : List ℕ) → length bytes ≡ left → said room ids bytes words ≡ said_by bytes words n
  pub within : Within (length words) left (room - length ids) n

-- the first word being a put's, a link's, a close's
pub record PutSays (left : ℕ) (words : List ℕ) (n : Result Call NoCall) : Type 0 where
  pub is : (bytes : List ℕ) → length bytes ≡ left → said_put bytes (past 1 words) ≡ said_by bytes words (next n)
  pub within : Within (length words) left 0 (next n)

pub record LinkSays (words : List ℕ) (n : Result Call NoCall) : Type 0 where
  pub is : (bytes : List ℕ) → said_link bytes (past 1 words) ≡ said_by bytes words (next n)
  pub within : Within (length words) 0 0 (next n)

pub record OwnLinkSays (ids words : List ℕ) (n : Result Call NoCall) : Type 0 where
  pub is : (bytes : List ℕ) → said_own_link ids bytes (past 1 words) ≡ said_by bytes words (next n)
  pub within : Within (length words) 0 0 (next n)

-- whatever the words behind it are
pub record CloseSays (room : ℕ) (ids : List ℕ) (n : Result Call NoCall) : Type 0 where
  pub is : (bytes words : List ℕ) → said_close room ids bytes (past 1 words) ≡ said_by bytes words (next n)
  pub within : Within 1 0 (room - length ids) (next n)
