-- docs/RULES.md, section 4: what sound stores are known to have, by name: numbers that the code of the calls leans on.
use Rattle.std.specs.Prelude.{◌≡◌, true, ℕ, ◌≤◌, ◌<◌, List, length, get_or}
use Rattle.lists.specs.Lists.{part, zeros, holds}
use Rattle.model.specs.Judge.{most_objects, most_links, most_bytes, most_open}
use Rattle.layout.specs.Tables.{rises, falls, for_all}
use Rattle.layout.specs.Words.{object_limit, closed_count, open_depth, ends_at, link_ends_at, need, store_length, link_limit, ends, link_ends, begins, link_begins, top, link_top, low, link_low}
use Rattle.layout.specs.Fields.{object_ok, closed_ok}
use Rattle.layout.specs.Decode.{open_at, closed_at}
use Rattle.layout.specs.Sound.{table_tests, sound}
use Rattle.layout.specs.Spans.{inner_span, Within}
use Rattle.layout.specs.declared.state.State.{State}
use Rattle.layout.specs.declared.span.Span.{Span}

pub record Head (n : ℕ) (w : List ℕ) : Type 0 where
  pub some : 1 ≤ object_limit w
  pub few : object_limit w ≤ most_objects
  pub few_links : link_limit w ≤ most_links
  pub full : 1 ≤ n
  pub most : n ≤ most_bytes
  pub room : need (object_limit w) (link_limit w) ≤ length w
  pub size : store_length w ≡ n
  pub closed : closed_count w ≤ object_limit w
  pub depth : open_depth w ≤ most_open
  pub base : get_or w ends_at 0 ≡ 0
  pub link_base : get_or w link_ends_at 0 ≡ 0

pub record Sound (b w : List ℕ) : Type 0 where
  pub head : Head (length b) w
  pub rise : rises (ends w) ≡ true
  pub link_rise : rises (link_ends w) ≡ true
  pub fall : falls 1 (begins w) ≡ true
  pub link_fall : falls 0 (link_begins w) ≡ true
  pub apart : top w ≤ low w
  pub inside : low w ≤ length b
  pub link_apart : link_top w ≤ link_low w
  pub link_inside : link_low w ≤ link_limit w
  pub gap : zeros (part (top w) (low w) b) ≡ true
  pub opens : for_all (λ d. object_ok (closed_count w) (open_at b w d)) (open_depth w) ≡ true
  pub closed : for_all (λ i. closed_ok i (closed_at b w i)) (closed_count w) ≡ true

-- what is known of the counts and the edges of sound stores, for stores of n bytes and r words
pub record Bounds (n r : ℕ) (s : State) : Type 0 where
  pub some : 1 ≤ s.objects
  pub few : s.objects ≤ most_objects
  pub few_links : s.links ≤ most_links
  pub full : 1 ≤ n
  pub most : n ≤ most_bytes
  pub room : need s.objects s.links ≤ r
  pub closed : s.closed ≤ s.objects
  pub depth : s.depth ≤ most_open
  pub apart : s.top ≤ s.low
  pub inside : s.low ≤ n
  pub link_apart : s.link_top ≤ s.link_low
  pub link_inside : s.link_low ≤ s.links

-- the counts and the edges, as read from sound stores; that these are sound is one equation, which no arithmetic goes into
pub record Read (b w : List ℕ) (s : State) : Type 0 where
  pub objects_is : s.objects ≡ object_limit w
  pub links_is : s.links ≡ link_limit w
  pub closed_is : s.closed ≡ closed_count w
  pub depth_is : s.depth ≡ open_depth w
  pub top_is : s.top ≡ top w
  pub low_is : s.low ≡ low w
  pub link_top_is : s.link_top ≡ link_top w
  pub link_low_is : s.link_low ≡ link_low w
  pub bounds : Bounds (length b) (length w) s
  pub is_sound : sound b w ≡ true

-- ---- what the words alone give, where header and tables pass their tests

pub record Tested (w : List ℕ) : Type 0 where
  pub head : Head (store_length w) w
  pub tables : holds (table_tests w) ≡ true

-- the counts and the edges
abbrev pub state_in : List ℕ → State
state_in w =
    record {
      objects = object_limit w;
      links = link_limit w;
      closed = closed_count w;
      depth = open_depth w;
      top = top w;
      low = low w;
      link_top = link_top w;
      link_low = link_low w;
    }

pub record WordsRead (w : List ℕ) (s : State) : Type 0 where
  pub is : s ≡ state_in w
  pub bounds : Bounds (store_length w) (length w) s
  pub tested : Tested w

-- and where the innermost open object lies
pub record Innermost (w : List ℕ) (s : State) (own : Span) : Type 0 where
  pub words : WordsRead w s
  pub some : 0 < s.depth
  pub is : own ≡ inner_span w
  pub to_is : own.to ≡ s.top
  pub last_is : own.last ≡ s.link_top
  pub within : Within w own
