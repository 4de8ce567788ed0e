-- docs/RULES.md, section 12: what a job comes to, by its text and the room of the output alone. What a line says by itself (12.3) is job_items' Item.
use Rattle.std.specs.Prelude.{ℕ, suc, ◌+◌, List, [], ◌∷◌, ◌++◌, Bool, eqb, leb, ltb, length, get_or, Option, Some, None, Result, Ok, Err}
use Rattle.lists.specs.Lists.{pick, holds}
use Rattle.job_lines.specs.Lines.{cut}
use Rattle.text_hex.specs.Hex.{bytes_of}
use Rattle.answer.specs.Number.{number}
use Rattle.answer.specs.declared.Refusal.TheVariants.{OutOfRange}
use Rattle.model.specs.Judge.{Limits}
use Rattle.model.specs.Told.{Told}
use Rattle.model.specs.Session.{Needs, Session, started, SessionCall, start_call, open_call, put_call, link_call, close_call, Left, step, PackLeft, pack}
use Rattle.job_items.specs.Item.{codes, limit, pairs, item}
use Rattle.job_items.specs.declared.Item.{Item}
use Rattle.job_items.specs.declared.Item.TheVariants as Item
use Rattle.job_rules.specs.declared.Packed.{Packed}
use Rattle.job_rules.specs.declared.Refused.{Refused}

-- ---- 12.1: the text

abbrev pub most_text : ℕ
most_text = 65536

-- ---- 12.2: the lines in order

-- which line is due: a limit, with those before it; the first piece line, in a session just started; or any other, with the ids of the
-- piece lines whose objects are closed, and the last piece line's object open
pub data Stage : Type 0 where
  bytes_due : Stage
  objects_due : ℕ → Stage
  links_due : ℕ → ℕ → Stage
  piece_due : Session → Stage
  writing : Session → List ℕ → Stage

-- what a line leads to: the next stage; a refusal; or the packing of a root
pub data Turn : Type 0 where
  on : Stage → Turn
  stop : ℕ → Turn
  packs : Session → ℕ → Turn

-- the calls of a line, each made where those before it are accepted; what is lent to them is enough for any job
abbrev pub no_needs : Needs
no_needs = record { records = λ m. 0; work = λ m copies. 0 }

abbrev pub accepted : Left → (Left → Turn) → Turn
accepted l next = pick (eqb l.told.number 0) (next l) (stop l.told.number)

abbrev pub call : SessionCall → Session → (Left → Turn) → Turn
call c s next = accepted (step no_needs c s) next

-- ---- 12.4: the limits, and the start

abbrev pub most_bytes : ℕ
most_bytes = 16384

abbrev pub most_objects : ℕ
most_objects = 256

abbrev pub most_links : ℕ
most_links = 1024

abbrev pub out_of_range : ℕ
out_of_range = number OutOfRange

abbrev pub in_job : Limits → List Bool
in_job m = leb m.bytes most_bytes ∷ leb m.objects most_objects ∷ leb m.links most_links ∷ []

abbrev pub starts : Limits → Turn
starts m = pick (holds (in_job m)) (call (start_call m 0) (started m) (λ l. on (piece_due l.after))) (stop out_of_range)

-- ---- 12.5: breaches

abbrev pub breach : ℕ
breach = 14

abbrev pub given : Option ℕ → (ℕ → Turn) → Turn
given (Some n) next = next n
given None next = stop breach

-- ---- 12.6: the calls of a line, once its layout is judged

abbrev pub inner_start : ℕ
inner_start = 0

abbrev pub copies_allowed : ℕ
copies_allowed = 0

-- an object opened, and its first bytes put
abbrev pub writes : List ℕ → List ℕ → Session → Turn
writes vs ids s = call open_call s (λ o. call (put_call vs) o.after (λ l. on (writing l.after ids)))

-- a piece line closes the object of the one before it
abbrev pub piece_turn : List ℕ → Session → List ℕ → Turn
piece_turn vs s ids = call close_call s (λ c. writes vs (ids ++ (c.told.id ∷ [])) c.after)

-- the id of an earlier piece line's object; else one that no object of a job has
abbrev pub child_at : List ℕ → ℕ → ℕ
child_at ids i = get_or ids i most_objects

abbrev pub link_turn : ℕ → ℕ → Session → List ℕ → Turn
link_turn w i s ids = call (link_call w (child_at ids i) inner_start) s (λ k. on (writing k.after ids))

-- `end` counts the piece lines, and closes the last one's object, which is the root
abbrev pub end_turn : ℕ → Session → List ℕ → Turn
end_turn n s ids = pick (eqb n (suc (length ids))) (call close_call s (λ c. packs c.after c.told.id)) (stop breach)

abbrev pub first_item : Option Item → List ℕ → Session → Turn
first_item (Some Item.Piece) l s = writes (bytes_of (pairs l)) [] s
first_item (Some (Item.Link w i)) l s = stop breach
first_item (Some (Item.End n)) l s = stop breach
first_item None l s = stop breach

abbrev pub next_item : Option Item → List ℕ → Session → List ℕ → Turn
next_item (Some Item.Piece) l s ids = piece_turn (bytes_of (pairs l)) s ids
next_item (Some (Item.Link w i)) l s ids = link_turn w i s ids
next_item (Some (Item.End n)) l s ids = end_turn n s ids
next_item None l s ids = stop breach

unfoldable pub turn : List ℕ → Stage → Turn
turn l bytes_due = given (limit (codes "bytes=") l) (λ b. on (objects_due b))
turn l (objects_due b) = given (limit (codes "objects=") l) (λ o. on (links_due b o))
turn l (links_due b o) = given (limit (codes "links=") l) (λ k. starts (record { objects = o; links = k; bytes = b }))
turn l (piece_due s) = first_item (item l) l s
turn l (writing s ids) = next_item (item l) l s ids

-- ---- 12.7: what is told, and of which line

-- the table's length and how many objects are in it; or a refusal's number, and the line that it is told of
abbrev pub Ending : Type 0
Ending = Result Packed Refused

abbrev pub packed : ℕ → ℕ → Ending
packed n k = Ok (record { length = n; placed = k })

abbrev pub refusal : ℕ → ℕ → Refused
refusal why n = record { number = why; line = n }

abbrev pub refused : ℕ → ℕ → Ending
refused why n = Err (refusal why n)

-- the answer, and the table that the output has in front; none where there is no packing
pub record Ended : Type 0 where
  pub ending : Ending
  pub table : List ℕ

abbrev pub refused_at : ℕ → ℕ → Ended
refused_at why line = record { ending = refused why line; table = [] }

-- line n had an accepted packing, and these lines are left
abbrev pub behind_end : ℕ → List (List ℕ) → Told → Ending
behind_end n [] t = packed t.length t.placed
behind_end n (l ∷ ls) t = refused breach (n + 1)

abbrev pub finished : ℕ → List (List ℕ) → PackLeft → Ended
finished n ls p = record { ending = pick (eqb p.told.number 0) (behind_end n ls p.told) (refused p.told.number n); table = p.table }

-- line n led to a turn, and these lines are left; the output has room for so many bytes
abbrev pub after : ℕ → ℕ → List (List ℕ) → Turn → (Stage → Ended) → Ended
after room n ls (on s) next = next s
after room n ls (stop why) next = refused_at why n
after room n ls (packs s root) next = finished n ls (pack no_needs root copies_allowed room 0 s)

unfoldable pub run : ℕ → ℕ → List (List ℕ) → Turn → Ended
run room n [] t = after room n [] t (λ s. refused_at breach (n + 1))
run room n (l ∷ ls) t = after room n (l ∷ ls) t (λ s. run room (n + 1) ls (turn l s))

unfoldable pub job : ℕ → List ℕ → Ended
job room text = pick (ltb most_text (length text)) (refused_at breach 1) (run room 0 (cut text) (on bytes_due))
