-- docs/RULES.md, section 8: what the arguments of the calls alone say the session holds. It is told no memory and no answer.
use Rattle.std.specs.Prelude.{ℕ, ◌+◌, ◌<◌, ◌≡◌, List, [], ◌∷◌, ◌++◌, map, true, length, replicate, ltb}
use Rattle.lists.specs.Lists.{pick, total, first_that}
use Rattle.answer.specs.Number.{no_tally}
use Rattle.answer.specs.declared.tally.Tally.{Tally}
use Rattle.model_orders.specs.Object.{Slot, new_slot}
use Rattle.model_orders.specs.Reading.{Reading, bytes, field, reading_size, field_count, hopeless_reading, reading_at, read_object, readings, same_reading, Shows, Lengthened}
use Rattle.model.specs.Judge.{Limits, Verdict, accepted, refused, no_tally_beside, judge_start, judge_open, judge_put, judge_link, judge_close, judge_drop, judge_tally}
use Rattle.model.specs.Told.{Told, done_close, refusal}
use Rattle.model.specs.Session.{Needs, Session, SessionCall, start_call, open_call, put_call, link_call, close_call, drop_call, tally_call, Call, session_call, pack_call, step, PackLeft, pack, after_call}

-- objects as their readings so far: the open ones, the innermost first, and the closed ones numbered from 0
pub record History : Type 0 where
  pub limits : Limits
  pub opens : List Reading
  pub closed : List Reading

-- what the objects of a session read as
abbrev pub history_of : Session → History
history_of s = record { limits = s.limits; opens = map (read_object (readings s.closed)) s.opens; closed = readings s.closed }

-- the sizes of all objects, open and closed
abbrev pub sum : History → ℕ
sum h = total reading_size h.opens + total reading_size h.closed

-- the sum, and the other counts
abbrev pub counts : History → Tally
counts h =
    record {
      bytes = sum h;
      links = total field_count h.opens + total field_count h.closed;
      objects = length h.closed;
      depth = length h.opens;
    }

-- ---- readings that grow

unfoldable pub put_on : List ℕ → Reading → Reading
put_on vs (bytes b) = bytes (b ++ vs)
put_on vs (field s c r) = field s c (put_on vs r)

-- a last field, with its child's reading
unfoldable pub field_on : Slot → Reading → Reading → Reading
field_on s child (bytes b) = field s child (bytes b)
field_on s child (field u c r) = field u c (field_on s child r)

-- a field appended, zero bytes of its width
abbrev pub link_on : ℕ → ℕ → Reading → Reading → Reading
link_on w i child r = put_on (replicate w 0) (field_on (new_slot (reading_size r) w i) child r)

-- ---- what the accepted calls change

abbrev pub begun : Limits → History
begun m = record { limits = m; opens = []; closed = [] }

abbrev pub keep_opens : List Reading → History → History
keep_opens rs h = record { limits = h.limits; opens = rs; closed = h.closed }

abbrev pub innermost_reading : List Reading → Reading
innermost_reading [] = bytes []
innermost_reading (r ∷ rs) = r

abbrev pub others : List Reading → List Reading
others [] = []
others (r ∷ rs) = rs

abbrev pub on_inner : (Reading → Reading) → History → History
on_inner f h = keep_opens (f (innermost_reading h.opens) ∷ others h.opens) h

-- the id of the closed reading equal to the innermost open one; the next id where none is
abbrev pub id_of : History → ℕ
id_of h = first_that (same_reading (innermost_reading h.opens)) h.closed

abbrev pub closes : History → History
closes h =
    record {
      limits = h.limits;
      opens = others h.opens;
      closed = pick (ltb (id_of h) (length h.closed)) h.closed (h.closed ++ (innermost_reading h.opens ∷ []));
    }

-- ---- each call but pack: judged by the table, with the history's own counts; 12 never applies

unfoldable pub judged : Needs → SessionCall → History → Verdict
judged n (start_call m records) h = judge_start m (n.records m) records
judged n open_call h = judge_open true (counts h)
judged n (put_call vs) h = judge_put true h.limits (counts h) (length vs)
judged n (link_call w id i) h = judge_link true h.limits (counts h) (new_slot (reading_size (innermost_reading h.opens)) w i) id
judged n close_call h =
    judge_close true h.limits (counts h) (reading_size (innermost_reading h.opens)) (hopeless_reading (innermost_reading h.opens)) (id_of h)
judged n drop_call h = judge_drop true (counts h)
judged n tally_call h = judge_tally true

unfoldable pub accept : SessionCall → History → History
accept (start_call m records) h = begun m
accept open_call h = keep_opens (bytes [] ∷ h.opens) h
accept (put_call vs) h = on_inner (put_on vs) h
accept (link_call w id i) h = on_inner (link_on w i (reading_at h.closed id)) h
accept close_call h = closes h
accept drop_call h = keep_opens (others h.opens) h
accept tally_call h = h

-- a refused call changes nothing
abbrev pub next : Verdict → History → History → History
next accepted new old = new
next (refused why) new old = old

-- nor does a pack
unfoldable pub after : Needs → Call → History → History
after n (session_call c) h = next (judged n c h) (accept c h) h
after n (pack_call id copies out work) h = h

-- several calls, one after the other
unfoldable pub after_all : Needs → List Call → History → History
after_all n [] h = h
after_all n (c ∷ cs) h = after_all n cs (after n c h)

-- an accepted start
unfoldable pub Starts : Needs → Call → History → Type 0
Starts n (session_call (start_call m records)) h = judged n (start_call m records) h ≡ accepted
Starts n (session_call open_call) h = ⊥
Starts n (session_call (put_call vs)) h = ⊥
Starts n (session_call (link_call w id i)) h = ⊥
Starts n (session_call close_call) h = ⊥
Starts n (session_call drop_call) h = ⊥
Starts n (session_call tally_call) h = ⊥
Starts n (pack_call id copies out work) h = ⊥

-- no call of a list is one
unfoldable pub NoStart : Needs → List Call → History → Type 0
NoStart n [] h = Unit {0}
NoStart n (c ∷ cs) h = (Starts n c h → ⊥) × NoStart n cs (after n c h)

-- ---- what the calls must tell

-- only a close tells an id
unfoldable pub id_told : SessionCall → History → ℕ
id_told (start_call m records) h = 0
id_told open_call h = 0
id_told (put_call vs) h = 0
id_told (link_call w id i) h = 0
id_told close_call h = id_of h
id_told drop_call h = 0
id_told tally_call h = 0

abbrev pub tell : Verdict → Tally → Told → Told
tell accepted t when_done = when_done
tell (refused why) t when_done = refusal why t

unfoldable pub expected : Needs → SessionCall → History → Told
expected n c h = tell (judged n c h) (counts h) (done_close (id_told c h) (counts (accept c h)))

-- an accepted pack leaves a table that shows the root's reading from its first byte, as long as that
pub record Packed (h : History) (root : ℕ) (p : PackLeft) : Type 0 where
  pub shown : Shows p.table 0 (reading_at h.closed root)
  pub long : length p.table ≡ p.told.length
  pub sum : Lengthened (reading_at h.closed root) p.told.length p.told.copies p.told.placed

-- the tally beside a pack's number is the history's, but zero beside 12 and 13
pub record PackAgrees (h : History) (root : ℕ) (p : PackLeft) : Type 0 where
  pub counted : p.told.tally ≡ pick (no_tally_beside p.told.number) no_tally (counts h)
  pub packed : p.told.number ≡ 0 → Packed h root p

-- no two readings are the same
unfoldable pub AllDifferent : List Reading → Type 0
AllDifferent rs = (i j : ℕ) → i < length rs → j < length rs → reading_at rs i ≡ reading_at rs j → i ≡ j

-- two ids are the same exactly when the objects that they were told for read the same
pub record Alike (q r : Reading) (j i : ℕ) : Type 0 where
  pub read : j ≡ i → q ≡ r
  pub same : q ≡ r → j ≡ i

-- ---- one claim about a whole list of calls

unfoldable pub Agrees : Needs → Call → Session → History → Type 0
Agrees n (session_call c) s h = (step n c s).told ≡ expected n c h
Agrees n (pack_call id copies out work) s h = PackAgrees h id (pack n id copies out work s)

-- each call gets the session and the history as the one before left them
unfoldable pub AllAgree : Needs → List Call → Session → History → Type 0
AllAgree n [] s h = Unit {0}
AllAgree n (c ∷ cs) s h = Agrees n c s h × AllAgree n cs (after_call n c s) (after n c h)
