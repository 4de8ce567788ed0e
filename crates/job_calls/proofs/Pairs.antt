-- The bytes of hex pairs stand in front of the space that they were read into.
use mathlib.Core.Path.{◌≡◌}
use Prim.Native.Nat.{ℕ, ◌/◌}
use mathlib.Core.List.{List, [], ◌∷◌}
use native.Mathlib.Omega.{arith}
use lib.ListN.{length, take}
use Rattle.lists.specs.Lists.{over}
use Rattle.lists.proofs.Whole.{over-front}
use Rattle.text_hex.specs.Hex.{bytes_of}

pairs-long : (v : List ℕ) → length (bytes_of v) ≡ length v / 2
unfolding bytes_of
pairs-long [] = omega arith
pairs-long (c ∷ []) = omega arith
pairs-long (c ∷ (d ∷ v)) = omega (arith, pairs-long v)

pub pairs-front : (v l : List ℕ) → take (length v / 2) (over 0 (bytes_of v) l) ≡ bytes_of v
pairs-front v l = let f : length v / 2 ≡ length (bytes_of v) = omega (arith, pairs-long v) in rw f (over-front (bytes_of v) l)
