-- docs/RULES.md, 13.6: what holds of a feed from any state of the head, damaged ones included.
use Rattle.std.specs.Prelude.{ℕ, ◌≤◌, ◌≡◌, List, length, drop}
use Rattle.cable_head.specs.Feed.{head_need, Left}

-- a feed of t writes only inside its output and the head's own bytes, takes no more than t, and some of it if there is any and the head is long enough
pub record Inside (h t o : List ℕ) (f : Left) : Type 0 where
  pub most : f.taken ≤ length t
  pub some : head_need ≤ length h → 1 ≤ length t → 1 ≤ f.taken
  pub head : length f.head ≡ length h
  pub past : drop head_need f.head ≡ drop head_need h
  pub out : length f.out ≡ length o
