-- docs/RULES.md, 13.6 and 13.7: the head's bytes, what a feed does to them, and what it answers.
use Rattle.std.specs.Prelude.{ℕ, ◌+◌, min, ◌≡◌, List, [], ◌++◌, Bool, false, eqb, ltb, length, take, Option, Some, None, Result, Ok, Err}
use Rattle.lists.specs.Lists.{pick, part, over}
use Rattle.big_endian.specs.BigEndian.{big_endian, read_big}
use Rattle.cable_scan.specs.Scan.{scan_on}
use Rattle.cable_scan.specs.declared.Scanned.{Scanned}
use Rattle.cable_judge.specs.Judge.{Outcome, verdict}
use Rattle.cable_judge.specs.Number.{no_frame_number}
use Rattle.cable_judge.specs.declared.answers.NoFrame.{NoFrame}
use Rattle.cable_judge.specs.declared.settling.Awaiting.{Awaiting}
use Rattle.cable_head.specs.declared.answers.Fed.{Fed}

-- ---- the head's bytes: four numbers, then the held text

-- how wide a number is, and where each stands
abbrev pub number_size : ℕ
number_size = 4

abbrev pub len_at : ℕ
len_at = 0

abbrev pub line_at : ℕ
line_at = 4

abbrev pub awaited_at : ℕ
awaited_at = 8

abbrev pub count_at : ℕ
count_at = 12

-- where the held text stands, and how many bytes of a stretch are held: more than any frame has
abbrev pub held_at : ℕ
held_at = 16

abbrev pub held_size : ℕ
held_size = 1077

-- how long a head is at least
abbrev pub head_need : ℕ
head_need = held_at + held_size

abbrev pub number_at : ℕ → List ℕ → ℕ
number_at at h = read_big (part at (at + number_size) h)

-- how many bytes are held, whatever the number says, and which
abbrev pub len_of : List ℕ → ℕ
len_of h = min (number_at len_at h) held_size

abbrev pub held_of : List ℕ → List ℕ
held_of h = part held_at (held_at + len_of h) h

-- what is awaited
abbrev pub awaiting_in : List ℕ → Awaiting
awaiting_in h = record { number = number_at awaited_at h; count = number_at count_at h }

-- the four numbers' bytes
abbrev pub numbers : ℕ → ℕ → ℕ → ℕ → List ℕ
numbers len line awaited count = big_endian number_size len ++ (big_endian number_size line ++ (big_endian number_size awaited ++ big_endian number_size count))

-- the head h with the text s held; no other byte moves
unfoldable pub head_with : List ℕ → ℕ → ℕ → ℕ → List ℕ → List ℕ
head_with s line awaited count h = over 0 (numbers (length s) line awaited count ++ s) h

-- ---- a feed

-- what a feed of t passes, and the bytes it takes
abbrev pub scan_of : List ℕ → List ℕ → Scanned
scan_of h t = scan_on 0 (number_at line_at h) t

abbrev pub taken_of : List ℕ → List ℕ → List ℕ
taken_of h t = take (scan_of h t).taken t

-- the stretch so far: what is held and then u, as much of it as a head holds
abbrev pub stretch_with : List ℕ → List ℕ → List ℕ
stretch_with h u = take held_size (held_of h ++ u)

abbrev pub verdict_with : List ℕ → List ℕ → List ℕ → Outcome
verdict_with h u out = verdict (number_at awaited_at h) (number_at count_at h) out (stretch_with h u)

-- the head once a stretch ended, when no byte of the held text counts, and while one goes on
abbrev pub head_ended : Outcome → List ℕ → List ℕ
head_ended v h = head_with [] 0 v.awaited v.count h

abbrev pub head_on : ℕ → List ℕ → List ℕ → List ℕ
head_on line u h = head_with (stretch_with h u) line (number_at awaited_at h) (number_at count_at h) h

-- the answer, how many bytes were taken, and the head and the output after it
pub record Left : Type 0 where
  pub answer : Result ℕ NoFrame
  pub taken : ℕ
  pub head : List ℕ
  pub out : List ℕ

abbrev pub left_of : Result ℕ NoFrame → ℕ → List ℕ → List ℕ → Left
left_of a k h o = record { answer = a; taken = k; head = h; out = o }

abbrev pub fed_end : List ℕ → List ℕ → List ℕ → Left
fed_end h t out =
    left_of (verdict_with h (taken_of h t) out).answer (scan_of h t).taken (head_ended (verdict_with h (taken_of h t) out) h) (verdict_with h (taken_of h t) out).out

abbrev pub fed_on : ℕ → List ℕ → List ℕ → List ℕ → Left
fed_on line h t out = left_of (Err NoFrame.Unended) (scan_of h t).taken (head_on line (taken_of h t) h) out

-- by the line under way, which there is none of where a stretch ended
abbrev pub fed_by : Option ℕ → List ℕ → List ℕ → List ℕ → Left
fed_by None h t out = fed_end h t out
fed_by (Some line) h t out = fed_on line h t out

-- a feed of t: a short head takes nothing; else it stops at the first stretch's end with that stretch's answer, or takes all
unfoldable pub feed_step : List ℕ → List ℕ → List ℕ → Left
feed_step h t out = pick (ltb (length h) head_need) (left_of (Err NoFrame.HeadShort) 0 h out) (fed_by (scan_of h t).line h t out)

-- what a call left behind
abbrev pub fed_left : Fed → List ℕ → List ℕ → Left
fed_left f h out = left_of f.answer f.taken h out

-- all frames are in: how many there are is known, and as many were accepted
unfoldable pub is_whole : List ℕ → Bool
is_whole h = pick (ltb (length h) head_need) false (pick (eqb (number_at count_at h) 0) false (eqb (number_at awaited_at h) (number_at count_at h)))

-- the answers' numbers
abbrev pub feed_number : Result ℕ NoFrame → ℕ
feed_number (Ok size) = 0
feed_number (Err why) = no_frame_number why

-- the end of a stretch with u left this answer, head and output
pub record Concludes (h u o : List ℕ) (a : Result ℕ NoFrame) (h' o' : List ℕ) : Type 0 where
  pub answer : a ≡ (verdict_with h u o).answer
  pub head : h' ≡ head_ended (verdict_with h u o) h
  pub out : o' ≡ (verdict_with h u o).out
