-- A piece line is at least as long as its key.
use mathlib.Core.Path.{◌≡◌, refl, sym}
use Prim.Native.Nat.{ℕ, suc, ◌≤◌}
use mathlib.Core.List.{List, [], ◌∷◌}
use mathlib.Core.Bool.{Bool, true, false, true≢false}
use native.Mathlib.Omega.{arith}
use lib.Dec.{eqb}
use lib.ListN.{length, take, drop}
use Rattle.lists.specs.Lists.{pick, first_that}
use Rattle.lists.proofs.Same.{and_right}
use Rattle.text.specs.Decimal.{read_number}
use Rattle.std.specs.Prelude.{Option, Some, None}
use Rattle.job_items.specs.Item.{codes, is_line, starts_with, value, piece_key, piece_least, link_key, end_key, comma, link_of, link_item, end_of, end_item, item}
use Rattle.job_items.specs.declared.Item.{Item}

starts-long : (k l : List ℕ) → starts_with k l ≡ true → length k ≤ length l
unfolding starts_with
starts-long [] l e = omega arith
starts-long (k ∷ ks) [] e = absurd (true≢false (sym e))
starts-long (k ∷ ks) (c ∷ l) e = omega (arith, starts-long ks l (and_right (eqb k c) (starts_with ks l) e))

-- no other line is a piece
link-other : (w i : Option ℕ) → link_of w i ≡ Some Item.Piece → ⊥
link-other (Some w) (Some i) e = cc
link-other (Some w) None e = cc
link-other None i e = cc

end-other : (n : Option ℕ) → end_of n ≡ Some Item.Piece → ⊥
end-other (Some n) e = cc
end-other None e = cc

other : (l : List ℕ) → starts_with piece_key l ≡ false → item l ≡ Some Item.Piece → ⊥
unfolding item link_item end_item
other l f e = go (is_line l) (starts_with link_key l) (starts_with end_key l) (rw f at e)
  where
    go : (a b c : Bool) → pick a (pick b (link_item (value link_key l)) (pick c (end_item (value end_key l)) None)) None ≡ Some Item.Piece → ⊥
    go false b c e = cc
    go true true c e = let v : List ℕ = value link_key l in let k : ℕ = first_that (eqb comma) v in link-other (read_number (take k v)) (read_number (drop (suc k) v)) e
    go true false true e = end-other (read_number (value end_key l)) e
    go true false false e = cc

pub piece-long : (l : List ℕ) → item l ≡ Some Item.Piece → piece_least ≤ length l
unfolding codes
piece-long l e = go (starts_with piece_key l) refl
  where
    go : (t : Bool) → starts_with piece_key l ≡ t → piece_least ≤ length l
    go true f = starts-long piece_key l f
    go false f = absurd (other l f e)
