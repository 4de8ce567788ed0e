-- docs/RULES.md, 3.3 and 3.4: the words of the record store, as docs/LAYOUT.md draws them. Byte store and links are stacked alike: open objects from the front, closed ones from the back.
-- A table has a first entry that is a constant, so that every object lies between two neighbours.
use Rattle.std.specs.Prelude.{ℕ, ◌+◌, ◌*◌, ◌≤◌, List, get_or}
use Rattle.std.proofs.Common.{arith}
use Rattle.lists.specs.Lists.{part}
unfoldable pub use Rattle.model_orders.specs.Words.{links_of}
pub use Rattle.model_orders.specs.Words.{link_words, words_of, link_of_words, link_at}
use Rattle.model.specs.Judge.{most_open, most_need, Limits}

-- ---- the header

abbrev pub object_limit_at : ℕ
object_limit_at = 0

abbrev pub closed_count_at : ℕ
closed_count_at = 1

abbrev pub open_depth_at : ℕ
open_depth_at = 2

abbrev pub object_limit : List ℕ → ℕ
object_limit w = get_or w object_limit_at 0

abbrev pub closed_count : List ℕ → ℕ
closed_count w = get_or w closed_count_at 0

abbrev pub open_depth : List ℕ → ℕ
open_depth w = get_or w open_depth_at 0

-- ---- where the tables begin

-- entry 0 is 0, entry d where open object d ends (counted from 1, the oldest first): in bytes, and in links
abbrev pub ends_at : ℕ
ends_at = open_depth_at + 1

abbrev pub link_ends_at : ℕ
link_ends_at = ends_at + most_open + 1

-- entry 0 is the store's length, entry i + 1 where closed object i begins
abbrev pub begins_at : ℕ
begins_at = link_ends_at + most_open + 1

-- the same in links, as many words further on as the object limit: entry 0 is the link limit
abbrev pub link_begins_base : ℕ
link_begins_base = begins_at + 1

abbrev pub link_begins_at : List ℕ → ℕ
link_begins_at w = link_begins_base + object_limit w

-- the links' records, twice the object limit further on
abbrev pub links_base : ℕ
links_base = link_begins_base + 1

abbrev pub links_at : List ℕ → ℕ
links_at w = links_base + object_limit w * 2

-- how many words the record store needs
abbrev pub need : ℕ → ℕ → ℕ
need objects links = links_base + objects * 2 + links * link_words

pub need-bound : (objects links : ℕ) → need objects links ≤ most_need objects links
need-bound objects links = omega arith

-- ---- the limits

abbrev pub store_length : List ℕ → ℕ
store_length w = get_or w begins_at 0

abbrev pub link_limit : List ℕ → ℕ
link_limit w = get_or w (link_begins_at w) 0

abbrev pub limits_in : List ℕ → Limits
limits_in w = record { objects = object_limit w; links = link_limit w; bytes = store_length w }

-- ---- the tables in use

abbrev pub ends : List ℕ → List ℕ
ends w = part ends_at (ends_at + open_depth w + 1) w

abbrev pub link_ends : List ℕ → List ℕ
link_ends w = part link_ends_at (link_ends_at + open_depth w + 1) w

abbrev pub begins : List ℕ → List ℕ
begins w = part begins_at (begins_at + closed_count w + 1) w

abbrev pub link_begins : List ℕ → List ℕ
link_begins w = part (link_begins_at w) (link_begins_at w + closed_count w + 1) w

-- all links' records, open, free and closed
abbrev pub link_area : List ℕ → List ℕ
link_area w = part (links_at w) (links_at w + link_limit w * link_words) w

-- where the open ones end, and where the closed ones begin
abbrev pub top : List ℕ → ℕ
top w = get_or w (ends_at + open_depth w) 0

abbrev pub link_top : List ℕ → ℕ
link_top w = get_or w (link_ends_at + open_depth w) 0

abbrev pub low : List ℕ → ℕ
low w = get_or w (begins_at + closed_count w) 0

abbrev pub link_low : List ℕ → ℕ
link_low w = get_or w (link_begins_at w + closed_count w) 0
