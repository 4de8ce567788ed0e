-- A link in the work memory: two words, each of which holds two words of its record.
use Rattle.std.specs.Prelude.{ℕ, ◌+◌, ◌/◌, ◌%◌, ◌≡◌, List, get_or}
use Rattle.model_orders.specs.Object.{Link}
use Rattle.model_orders.specs.Words.{link_of_words}

abbrev pub packed_words : ℕ
packed_words = 2

-- each half of a word is less than this: what a word of the record store can hold
abbrev pub most_half : ℕ
most_half = 4294967296

abbrev pub low : ℕ → ℕ
low v = v % most_half

abbrev pub high : ℕ → ℕ
high v = v / most_half

-- the two halves of v
pub record Halves (l h v : ℕ) : Type 0 where
  pub low-is : low v ≡ l
  pub high_is : high v ≡ h

-- the link whose words begin at index i: its field's place and width, its inner start and child
abbrev pub packed_at : List ℕ → ℕ → Link
packed_at ws i = link_of_words (low (get_or ws i 0)) (high (get_or ws i 0)) (low (get_or ws (i + 1) 0)) (high (get_or ws (i + 1) 0))
