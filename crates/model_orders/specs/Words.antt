-- A link as words of the record store.
use Rattle.std.specs.Prelude.{ℕ, ◌+◌, List, [], ◌∷◌, get_or}
use Rattle.model_orders.specs.Object.{Link}

abbrev pub link_words : ℕ
link_words = 4

abbrev pub words_of : Link → List ℕ
words_of l = l.slot.at ∷ l.slot.width ∷ l.slot.inner ∷ l.child ∷ []

-- a link by its words
abbrev pub link_of_words : ℕ → ℕ → ℕ → ℕ → Link
link_of_words a k i c = record { slot = record { at = a; width = k; inner = i }; child = c }

unfoldable pub links_of : List ℕ → List Link
links_of [] = []
links_of (a ∷ []) = []
links_of (a ∷ k ∷ []) = []
links_of (a ∷ k ∷ i ∷ []) = []
links_of (a ∷ k ∷ i ∷ c ∷ ws) = link_of_words a k i c ∷ links_of ws

-- the link whose words begin at index i
abbrev pub link_at : List ℕ → ℕ → Link
link_at ws i = link_of_words (get_or ws i 0) (get_or ws (i + 1) 0) (get_or ws (i + 2) 0) (get_or ws (i + 3) 0)
