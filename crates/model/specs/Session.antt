-- docs/RULES.md, sections 3 and 5, on lists: the abstract session and each call on it.
use Rattle.std.specs.Prelude.{ℕ, ◌+◌, List, [], ◌∷◌, ◌++◌, true, length, ltb}
use Rattle.lists.specs.Lists.{pick, total, first_that}
use Rattle.answer.specs.declared.tally.Tally.{Tally}
use Rattle.model_orders.specs.Object.{Object, no_object, object_at, size_of, link_count, with_bytes, new_slot, with_link, hopeless_object, same_object}
use Rattle.model_orders.specs.Graph.{graph_of}
use Rattle.model_orders.specs.Copies.{Arrangement, arranged, length_of, placed_of, table_by}
use Rattle.model.specs.Judge.{Limits, Verdict, accepted, refused, judge_start, judge_open, judge_put, judge_link, judge_close, judge_drop, judge_tally, judge_pack}
use Rattle.model.specs.Told.{Told, done, done_close, done_pack, refusal}

-- how many words the record store needs for given limits, and with so many copies allowed the work memory
pub record Needs : Type 0 where
  pub records : Limits → ℕ
  pub work : Limits → ℕ → ℕ

-- the open objects, the innermost first; the closed ones by id
pub record Session : Type 0 where
  pub limits : Limits
  pub opens : List Object
  pub closed : List Object

abbrev pub tally_of : Session → Tally
tally_of s =
    record {
      bytes = total size_of s.opens + total size_of s.closed;
      links = total link_count s.opens + total link_count s.closed;
      objects = length s.closed;
      depth = length s.opens;
    }

-- ---- what the accepted calls change

abbrev pub started : Limits → Session
started m = record { limits = m; opens = []; closed = [] }

abbrev pub with_opens : List Object → Session → Session
with_opens os s = record { limits = s.limits; opens = os; closed = s.closed }

abbrev pub innermost : List Object → Object
innermost [] = no_object
innermost (o ∷ os) = o

abbrev pub outer : List Object → List Object
outer [] = []
outer (o ∷ os) = os

-- the innermost open object changed
abbrev pub on_innermost : (Object → Object) → Session → Session
on_innermost f s = with_opens (f (innermost s.opens) ∷ outer s.opens) s

-- the lowest id of a closed object equal to the innermost open one; the count of closed ones, which is the next id, where none is
abbrev pub twin : Session → ℕ
twin s = first_that (same_object (innermost s.opens)) s.closed

-- a duplicate is discarded
abbrev pub sealed : Session → Session
sealed s =
    record {
      limits = s.limits;
      opens = outer s.opens;
      closed = pick (ltb (twin s) (length s.closed)) s.closed (s.closed ++ (innermost s.opens ∷ []));
    }

-- ---- the seven calls on a session, with their arguments: of lent memory its length, of what a put lends its bytes

pub data SessionCall : Type 0 where
  start_call : Limits → ℕ → SessionCall
  open_call : SessionCall
  put_call : List ℕ → SessionCall
  link_call : ℕ → ℕ → ℕ → SessionCall
  close_call : SessionCall
  drop_call : SessionCall
  tally_call : SessionCall

-- what a call tells, and the session after it
pub record Left : Type 0 where
  pub told : Told
  pub after : Session

-- by a verdict: a refused call changes nothing
abbrev pub settle_call : Verdict → Session → Left → Left
settle_call accepted s l = l
settle_call (refused why) s l = record { told = refusal why (tally_of s); after = s }

-- an accepted call that leaves s
abbrev pub leaves : Session → Left
leaves s = record { told = done (tally_of s); after = s }

unfoldable pub step : Needs → SessionCall → Session → Left
step n (start_call m records) s = settle_call (judge_start m (n.records m) records) s (leaves (started m))
step n open_call s = settle_call (judge_open true (tally_of s)) s (leaves (with_opens (no_object ∷ s.opens) s))
step n (put_call vs) s = settle_call (judge_put true s.limits (tally_of s) (length vs)) s (leaves (on_innermost (with_bytes vs) s))
step n (link_call w id i) s =
    settle_call (judge_link true s.limits (tally_of s) (new_slot (size_of (innermost s.opens)) w i) id) s (leaves (on_innermost (with_link w id i) s))
step n close_call s =
    settle_call (judge_close true s.limits (tally_of s) (size_of (innermost s.opens)) (hopeless_object (innermost s.opens)) (twin s)) s
    (record { told = done_close (twin s) (tally_of (sealed s)); after = sealed s })
step n drop_call s = settle_call (judge_drop true (tally_of s)) s (leaves (with_opens (outer s.opens) s))
step n tally_call s = settle_call (judge_tally true) s (leaves s)

-- ---- pack changes no session: what it tells, and the table that it writes

pub record PackLeft : Type 0 where
  pub told : Told
  pub table : List ℕ

abbrev pub content : Session → ℕ → List ℕ
content s i = (object_at s.closed i).bytes

-- how the look for an order ends
abbrev pub arranged_in : Session → ℕ → ℕ → Arrangement
arranged_in s id copies = arranged copies (graph_of s.closed) (length s.closed) id

abbrev pub table_in : Session → Arrangement → List ℕ
table_in s c = table_by (content s) c.grown c.outcome

abbrev pub settle_pack : Verdict → Session → PackLeft → PackLeft
settle_pack accepted s p = p
settle_pack (refused why) s p = record { told = refusal why (tally_of s); table = [] }

-- the root's id, how many copies are allowed, and how much output and work memory is lent
unfoldable pub pack : Needs → ℕ → ℕ → ℕ → ℕ → Session → PackLeft
pack n id copies out work s =
    let c = arranged_in s id copies in
    settle_pack (judge_pack true (tally_of s) id copies work (n.work s.limits copies) out (length_of c) c.outcome) s
    (record { told = done_pack (length_of c) (length c.grown.copies) (placed_of c) (tally_of s); table = table_in s c })

-- ---- the eight calls

pub data Call : Type 0 where
  session_call : SessionCall → Call
  pack_call : ℕ → ℕ → ℕ → ℕ → Call

unfoldable pub after_call : Needs → Call → Session → Session
after_call n (session_call c) s = (step n c s).after
after_call n (pack_call id copies out work) s = s
