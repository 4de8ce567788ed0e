-- A link as code reads it from the record store.
use Rattle.std.specs.Prelude.{ℕ, ◌^◌, ◌<◌, ◌≡◌, List}
use Rattle.model_orders.specs.Object.{Link}
use Rattle.layout.specs.Words.{link_of_words, link_at}
use Rattle.layout.specs.declared.link.Link as read

abbrev pub link_in : read.Link → Link
link_in l = link_of_words l.at l.width l.inner l.child

-- a word holds each of its numbers
pub record InWords (l : read.Link) : Type 0 where
  pub at : l.at < 2 ^ 32
  pub width : l.width < 2 ^ 32
  pub inner : l.inner < 2 ^ 32
  pub child : l.child < 2 ^ 32

-- the link whose words begin at index i
pub record LinkRead (ws : List ℕ) (i : ℕ) (l : read.Link) : Type 0 where
  pub is : link_in l ≡ link_at ws i
  pub held : InWords l
