-- A number of bytes is below the capacity of its width.
use mathlib.Core.Path.{◌≡◌}
use Prim.Native.Nat.{ℕ, suc, ◌+◌, ◌*◌, ◌≤◌, ◌<◌}
use mathlib.Core.List.{List, [], ◌∷◌}
use native.Mathlib.Decide.{dec_le}
use native.Mathlib.Omega.{arith}
use native.Mathlib.Nat.{mul_assoc, mul-le-mul_right, pow-suc}
use lib.ListN.{length, get_or, get_or-eq_default}
use Rattle.lists.specs.Lists.{part}
use Rattle.lists.proofs.Alike.{length_run}
use Rattle.lists.proofs.Parts.{get_or-part}
use Rattle.big_endian.specs.BigEndian.{capacity, read_from}
use Rattle.gsub.specs.Ops.{value_at}

read_below : (l : List ℕ) (m : ℕ) → ((i : ℕ) → get_or l i 0 < 256) → read_from m l < (m + 1) * capacity (length l)
unfolding read_from
read_below [] m h = omega arith
read_below (x ∷ l) m h =
    let n = capacity (length l) in
    let e : (m + 1) * capacity (suc (length l)) ≡ (m + 1) * 256 * n = rw pow-suc (omega (arith, mul_assoc (m + 1) 256 n)) in
    let t = mul-le-mul_right {m = m * 256 + x + 1} {n = (m + 1) * 256} n (omega (arith, h 0)) in
    omega (arith, e, t, read_below l (m * 256 + x) (λ i. h (suc i)))

module _ (b : List ℕ) (bytes : (i : ℕ) → get_or b i 0 < 256) (at w : ℕ) (room : at + w ≤ length b) where
  part_bytes : (i : ℕ) → get_or (part at (at + w) b) i 0 < 256
  part_bytes i = go (dec_le w i)
    where
      go : Dec (w ≤ i) → get_or (part at (at + w) b) i 0 < 256
      go (yes l) = omega (arith, get_or-eq_default (part at (at + w) b) 0 {n = i} (omega (arith, length_run at w b room)))
      go (no l) = omega (arith, bytes (at + i), get_or-part at (at + w) i b (omega arith))

  pub value-below : value_at b at w < capacity w
  value-below = let h = read_below (part at (at + w) b) 0 part_bytes in omega (arith, rw (length_run at w b room) at h)
