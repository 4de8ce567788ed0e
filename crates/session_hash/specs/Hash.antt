-- docs/RULES.md, 2.5: a number for an object's contents, by which most objects that differ are told apart. Equal objects have equal numbers; that is all that is asked of it.
use Rattle.std.specs.Prelude.{ℕ, zero, suc, ◌+◌, ◌*◌, ◌/◌, ◌%◌, ◌^◌, List, [], ◌∷◌, ◌++◌, length, get_or, drop}
use Rattle.model_orders.specs.Object.{Link, Object}
use Rattle.model_orders.specs.Words.{words_of}

-- hashes are below this
abbrev pub hash_limit : ℕ
hash_limit = 2 ^ 40

abbrev pub hash_factor : ℕ
hash_factor = 10368889

-- one word more
abbrev pub mix : ℕ → ℕ → ℕ
mix h x = (h + x) * hash_factor % hash_limit

unfoldable pub mixed : ℕ → List ℕ → ℕ
mixed h [] = h
mixed h (x ∷ l) = mixed (mix h x) l

-- four bytes as one word
abbrev pub four : ℕ → ℕ → ℕ → ℕ → ℕ
four a b c d = a + 256 * (b + 256 * (c + 256 * d))

-- bytes by fours, those left over one by one
unfoldable pub gathered : List ℕ → List ℕ
gathered [] = []
gathered (a ∷ []) = a ∷ []
gathered (a ∷ b ∷ []) = a ∷ b ∷ []
gathered (a ∷ b ∷ c ∷ []) = a ∷ b ∷ c ∷ []
gathered (a ∷ b ∷ c ∷ d ∷ l) = four a b c d ∷ gathered l

-- those from i on
abbrev pub four_at : ℕ → List ℕ → ℕ
four_at i l = four (get_or l i 0) (get_or l (i + 1) 0) (get_or l (i + 2) 0) (get_or l (i + 3) 0)

-- two words at a time, each to a number of its own, so that neither waits for the other
abbrev pub two_words : ℕ
two_words = 8

-- n times; then both numbers as one, and the bytes left over
unfoldable pub twined : ℕ → ℕ → ℕ → List ℕ → ℕ
twined zero h g l = mixed (mix h (g % 2 ^ 32)) (gathered l)
twined (suc n) h g l = twined n (mix h (four_at 0 l)) (mix g (four_at 4 l)) (drop two_words l)

abbrev pub hash_bytes : List ℕ → ℕ
hash_bytes l = twined (length l / two_words) 1 1 l

-- the words of all links
unfoldable pub words_of_all : List Link → List ℕ
words_of_all [] = []
words_of_all (l ∷ ls) = words_of l ++ words_of_all ls

-- of bytes, and of the words of links
unfoldable pub hash_by : List ℕ → List ℕ → ℕ
hash_by bytes words = mixed (hash_bytes bytes) words

unfoldable pub hash_of : Object → ℕ
hash_of o = hash_by o.bytes (words_of_all o.links)

-- the bucket of a hash: by its high bits, which every byte moves
abbrev pub low_part : ℕ
low_part = 2 ^ 24

abbrev pub bucket_of : ℕ → ℕ → ℕ
bucket_of buckets h = h / low_part % buckets
