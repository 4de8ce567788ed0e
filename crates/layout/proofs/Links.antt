-- Links by their words: the laws that a change of the link's record touches.
use mathlib.Core.Path.{◌≡◌, refl, ap}
use Prim.Native.Nat.{ℕ, zero, suc, ◌+◌, ◌*◌, ◌≤◌, ◌<◌}
use mathlib.Core.List.{List, [], ◌∷◌, ◌++◌, append_assoc}
use native.Mathlib.Numerals.{add-one}
use native.Mathlib.Omega.{arith}
use lib.ListN.{length, set}
use lib.Seq.{sets-eq}
use Rattle.lists.specs.Lists.{part, over}
use Rattle.lists.proofs.Parts.{part-part}
use Rattle.model_orders.specs.Object.{Link}
use Rattle.layout.specs.Words.{link_words, links_at, link_limit, link_area, words_of, links_of, link_at}

-- the words of one link, and those that follow
pub links_of-next : (ws rest : List ℕ) → length ws ≡ link_words → links_of (ws ++ rest) ≡ link_at ws 0 ∷ links_of rest
unfolding links_of
links_of-next [] rest h = absurd (omega arith)
links_of-next (a ∷ []) rest h = absurd (omega arith)
links_of-next (a ∷ b ∷ []) rest h = absurd (omega arith)
links_of-next (a ∷ b ∷ c ∷ []) rest h = absurd (omega arith)
links_of-next (a ∷ b ∷ c ∷ d ∷ []) rest h = refl
links_of-next (a ∷ b ∷ c ∷ d ∷ e ∷ ws) rest h = absurd (omega arith)

-- fewer words than a link has
pub links_of-short : (ws : List ℕ) → length ws < link_words → links_of ws ≡ []
unfolding links_of
links_of-short [] h = refl
links_of-short (a ∷ []) h = refl
links_of-short (a ∷ b ∷ []) h = refl
links_of-short (a ∷ b ∷ c ∷ []) h = refl
links_of-short (a ∷ b ∷ c ∷ d ∷ ws) h = absurd (omega arith)

pub links_of-words : (l : Link) → links_of (words_of l) ≡ l ∷ []
unfolding links_of
links_of-words l = refl

pub links_of-length : (k : ℕ) (ws : List ℕ) → length ws ≡ k * link_words → length (links_of ws) ≡ k
unfolding links_of
links_of-length zero [] h = refl
links_of-length (suc k) [] h = absurd (omega arith)
links_of-length k (a ∷ []) h = absurd (omega arith)
links_of-length k (a ∷ b ∷ []) h = absurd (omega arith)
links_of-length k (a ∷ b ∷ c ∷ []) h = absurd (omega arith)
links_of-length zero (a ∷ b ∷ c ∷ d ∷ ws) h = absurd (omega arith)
links_of-length (suc k) (a ∷ b ∷ c ∷ d ∷ ws) h = ap suc (links_of-length k ws (omega arith))

pub links_of-append : (k : ℕ) (a b : List ℕ) → length a ≡ k * link_words → links_of (a ++ b) ≡ links_of a ++ links_of b
unfolding links_of
links_of-append k [] b h = refl
links_of-append k (x ∷ []) b h = absurd (omega arith)
links_of-append k (x ∷ y ∷ []) b h = absurd (omega arith)
links_of-append k (x ∷ y ∷ z ∷ []) b h = absurd (omega arith)
links_of-append zero (x ∷ y ∷ z ∷ u ∷ a) b h = absurd (omega arith)
links_of-append (suc k) (x ∷ y ∷ z ∷ u ∷ a) b h = rw (links_of-append k a b (omega arith))

-- the words of the links from number a up to number e
pub link-words : (w : List ℕ) (a e : ℕ) → e ≤ link_limit w
    → part (a * link_words) (e * link_words) (link_area w) ≡ part (links_at w + a * link_words) (links_at w + e * link_words) w
link-words w a e h = part-part (a * link_words) (e * link_words) (links_at w) (links_at w + link_limit w * link_words) w (omega arith)

-- a link's record, stored word by word
pub link-stored : (i : ℕ) (l : Link) (w : List ℕ) → i + link_words ≤ length w
    → set (set (set (set w i l.slot.at) (i + 1) l.slot.width) (i + 2) l.slot.inner) (i + 3) l.child ≡ over i (words_of l) w
unfolding over
link-stored i l w h =
    let e : i + 2 ≡ suc (suc i) = omega arith in
    let f : i + 3 ≡ suc (suc (suc i)) = omega arith in
    rw (add-one, e, f) (rw append_assoc at (sets-eq (words_of l) w i (omega arith)))
