-- docs/RULES.md, 3.4: where objects lie in the two stores: each between two neighbours of the tables.
use Rattle.std.specs.Prelude.{◌≡◌, ℕ, ◌+◌, ◌-◌, ◌≤◌, List, get_or}
use Rattle.layout.specs.Words.{open_depth, ends_at, link_ends_at, begins_at, link_begins_at, store_length, link_limit, top, link_top}
use Rattle.layout.specs.declared.span.Span.{Span}

-- open object d, the oldest being 0
abbrev pub open_span : List ℕ → ℕ → Span
open_span w d =
    record {
      from = get_or w (ends_at + d) 0;
      to = get_or w (ends_at + d + 1) 0;
      first = get_or w (link_ends_at + d) 0;
      last = get_or w (link_ends_at + d + 1) 0;
    }

-- the innermost open object, which ends where the open ones end
abbrev pub inner_span : List ℕ → Span
inner_span w =
    record {
      from = get_or w (ends_at + (open_depth w - 1)) 0;
      to = top w;
      first = get_or w (link_ends_at + (open_depth w - 1)) 0;
      last = link_top w;
    }

-- closed object i
abbrev pub closed_span : List ℕ → ℕ → Span
closed_span w i =
    record {
      from = get_or w (begins_at + i + 1) 0;
      to = get_or w (begins_at + i) 0;
      first = get_or w (link_begins_at w + i + 1) 0;
      last = get_or w (link_begins_at w + i) 0;
    }

-- inside both stores
pub record Within (w : List ℕ) (s : Span) : Type 0 where
  pub order : s.from ≤ s.to
  pub inside : s.to ≤ store_length w
  pub link_order : s.first ≤ s.last
  pub link_inside : s.last ≤ link_limit w

-- r is span s, and inside both stores
pub record Lies (w : List ℕ) (s r : Span) : Type 0 where
  pub is : r ≡ s
  pub within : Within w r
