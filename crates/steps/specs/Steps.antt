-- docs/RULES.md, sections 5 and 6: each call as a function of the two stores, b (bytes) and w (record words): the answer, and both stores after it.
use Rattle.std.specs.Prelude.{ℕ, ◌+◌, ◌-◌, ◌*◌, List, length, set, replicate, ltb, Ok, Err}
use Rattle.lists.specs.Lists.{pick, part, over, first_that}
use Rattle.answer.specs.Number.{no_tally, beside}
use Rattle.answer.specs.Tally.{opened, grown, added, released}
use Rattle.answer.specs.declared.tally.Tally.{Tally}
use Rattle.answer.specs.Answers.{Answer, Closing}
use Rattle.model_orders.specs.Object.{Link, Object, new_slot, hopeless_object, same_object}
use Rattle.model.specs.Judge.{Limits, Verdict, accepted, refused, judge_start, judge_open, judge_put, judge_link, judge_close, judge_drop, judge_tally}
use Rattle.layout.specs.declared.state.State.{State}
use Rattle.layout.specs.Words.{object_limit_at, closed_count_at, open_depth_at, closed_count, open_depth, ends_at, link_ends_at, begins_at, link_begins_base, link_begins_at, links_at, link_words, need, limits_in, link_limit, top, link_top, low, link_low, words_of}
use Rattle.layout.specs.Spans.{inner_span}
use Rattle.layout.specs.Decode.{open_at, closed_to}
use Rattle.layout.specs.Sound.{sound}

-- what a call answers, and what it leaves in the stores
pub record Out : Type 0 where
  pub answer : Answer
  pub bytes : List ℕ
  pub words : List ℕ

abbrev pub outcome : Answer → List ℕ → List ℕ → Out
outcome a b w = record { answer = a; bytes = b; words = w }

-- what the stores hold
abbrev pub tally_in : List ℕ → List ℕ → Tally
tally_in b w =
    record {
      bytes = top w + (length b - low w);
      links = link_top w + (link_limit w - link_low w);
      objects = closed_count w;
      depth = open_depth w;
    }

-- the same by the counts and edges read of them, for a byte store of length n
abbrev pub tally_by : ℕ → State → Tally
tally_by n s =
    record {
      bytes = s.top + (n - s.low);
      links = s.link_top + (s.links - s.link_low);
      objects = s.closed;
      depth = s.depth;
    }

-- by a verdict: a refused call leaves both stores as they were
abbrev pub settle_step : Verdict → List ℕ → List ℕ → Out → Out
settle_step accepted b w out = out
settle_step (refused why) b w out = outcome (Err (record { why = why; tally = beside why (tally_in b w) })) b w

-- ---- start: the whole byte store and the needed words cleared, the limits and the length noted; what stood there plays no part

abbrev pub limits_of : ℕ → ℕ → List ℕ → Limits
limits_of objects links b = record { objects = objects; links = links; bytes = length b }

abbrev pub start_words : Limits → List ℕ → List ℕ
start_words m w =
    set (set (set (over 0 (replicate (need m.objects m.links) 0) w) object_limit_at m.objects) begins_at m.bytes) (link_begins_base + m.objects) m.links

unfoldable pub start_step : ℕ → ℕ → List ℕ → List ℕ → Out
start_step objects links b w =
    settle_step (judge_start (limits_of objects links b) (need objects links) (length w)) b w
    (outcome (Ok no_tally) (replicate (length b) 0) (start_words (limits_of objects links b) w))

-- ---- open: one more entry in the tables of ends, the same as the last

unfoldable pub open_step : List ℕ → List ℕ → Out
open_step b w =
    let d = open_depth w in
    settle_step (judge_open (sound b w) (tally_in b w)) b w
    (outcome (Ok (opened (tally_in b w))) b (set (set (set w (ends_at + d + 1) (top w)) (link_ends_at + d + 1) (link_top w)) open_depth_at (d + 1)))

-- ---- put: the bytes behind the open ones

unfoldable pub put_step : List ℕ → List ℕ → List ℕ → Out
put_step vs b w =
    settle_step (judge_put (sound b w) (limits_in w) (tally_in b w) (length vs)) b w
    (outcome (Ok (grown (length vs) 0 (tally_in b w))) (over (top w) vs b) (set w (ends_at + open_depth w) (top w + length vs)))

-- ---- the innermost open object: where it begins, and what it is

abbrev pub under : List ℕ → ℕ
under w = (inner_span w).from

abbrev pub link_under : List ℕ → ℕ
link_under w = (inner_span w).first

abbrev pub innermost_in : List ℕ → List ℕ → Object
innermost_in b w = open_at b w (open_depth w - 1)

-- ---- link: its field is zero bytes, which stand there already; its record behind the open ones

-- its field begins where the innermost open object ended
abbrev pub made_link : ℕ → ℕ → ℕ → List ℕ → Link
made_link width id inner w = record { slot = new_slot (top w - under w) width inner; child = id }

abbrev pub link_words_of : Link → List ℕ → List ℕ
link_words_of l w =
    set (set (over (links_at w + link_top w * link_words) (words_of l) w) (ends_at + open_depth w) (top w + l.slot.width))
    (link_ends_at + open_depth w) (link_top w + 1)

unfoldable pub link_step : ℕ → ℕ → ℕ → List ℕ → List ℕ → Out
link_step width id inner b w =
    let l = made_link width id inner w in
    settle_step (judge_link (sound b w) (limits_in w) (tally_in b w) l.slot id) b w (outcome (Ok (grown width 1 (tally_in b w))) b (link_words_of l w))

-- ---- drop: the innermost open object's bytes cleared

abbrev pub dropped_bytes : List ℕ → List ℕ → List ℕ
dropped_bytes b w = over (under w) (replicate (top w - under w) 0) b

abbrev pub dropped_words : List ℕ → List ℕ
dropped_words w = set w open_depth_at (open_depth w - 1)

-- less its bytes and links
abbrev pub less_inner : List ℕ → List ℕ → Tally
less_inner b w = released (top w - under w) (link_top w - link_under w) (tally_in b w)

unfoldable pub drop_step : List ℕ → List ℕ → Out
drop_step b w =
    settle_step (judge_drop (sound b w) (tally_in b w)) b w (outcome (Ok (less_inner b w)) (dropped_bytes b w) (dropped_words w))

-- ---- tally

unfoldable pub tally_step : List ℕ → List ℕ → Out
tally_step b w = settle_step (judge_tally (sound b w)) b w (outcome (Ok (tally_in b w)) b w)

-- ---- close

pub record CloseOut : Type 0 where
  pub answer : Closing
  pub bytes : List ℕ
  pub words : List ℕ

abbrev pub closing : Closing → List ℕ → List ℕ → CloseOut
closing a b w = record { answer = a; bytes = b; words = w }

abbrev pub settle_close : Verdict → List ℕ → List ℕ → CloseOut → CloseOut
settle_close accepted b w out = out
settle_close (refused why) b w out = closing (Err (record { why = why; tally = beside why (tally_in b w) })) b w

-- the lowest id of an equal closed object; the count of closed ones where none is
unfoldable pub twin_in : List ℕ → List ℕ → ℕ
twin_in b w = first_that (same_object (innermost_in b w)) (closed_to b w (closed_count w))

-- a duplicate is dropped
abbrev pub close_twin : List ℕ → List ℕ → CloseOut
close_twin b w = closing (Ok (record { id = record { 0 = twin_in b w }; tally = less_inner b w })) (dropped_bytes b w) (dropped_words w)

-- where its bytes and its links come to begin, in front of the closed ones
abbrev pub new_low : List ℕ → ℕ
new_low w = low w - (top w - under w)

abbrev pub new_link_low : List ℕ → ℕ
new_link_low w = link_low w - (link_top w - link_under w)

-- its bytes moved up, and zeros where it was and where it was not yet
abbrev pub sealed_bytes : List ℕ → List ℕ → List ℕ
sealed_bytes b w = over (under w) (replicate (new_low w - under w) 0) (over (new_low w) (part (under w) (top w) b) b)

-- its records moved up, both tables one entry longer, the counts
abbrev pub sealed_words : List ℕ → List ℕ
sealed_words w =
    let c = closed_count w in
    set (set (set (set (over (links_at w + new_link_low w * link_words) (part (links_at w + link_under w * link_words) (links_at w + link_top w * link_words) w) w)
    (begins_at + c + 1) (new_low w)) (link_begins_at w + c + 1) (new_link_low w)) closed_count_at (c + 1)) open_depth_at (open_depth w - 1)

abbrev pub close_new : List ℕ → List ℕ → CloseOut
close_new b w = closing (Ok (record { id = record { 0 = closed_count w }; tally = added (tally_in b w) })) (sealed_bytes b w) (sealed_words w)

unfoldable pub close_step : List ℕ → List ℕ → CloseOut
close_step b w =
    settle_close (judge_close (sound b w) (limits_in w) (tally_in b w) (top w - under w) (hopeless_object (innermost_in b w)) (twin_in b w)) b w
    (pick (ltb (twin_in b w) (closed_count w)) (close_twin b w) (close_new b w))
