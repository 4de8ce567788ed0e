-- Hex pairs divided as they are read, a pair at a time.
use mathlib.Core.Path.{◌≡◌}
use mathlib.Core.List.{List}
use Prim.Native.Nat.{ℕ, ◌+◌, ◌*◌, ◌≤◌, ◌<◌}
use native.Mathlib.Omega.{arith}
use lib.ListN.{length, drop, get_or, drop_of_length-le}
use Rattle.lists.proofs.Runs.{drop-first}
use Rattle.cable_crc.specs.Crc.{byte_divided, divided}
use Rattle.text_hex.specs.Hex.{pair_value, bytes_of}

module _ (r i : ℕ) (l : List ℕ) where
  pub divide-turn : i * 2 + 1 < length l
      → divided (byte_divided r (pair_value (get_or l (i * 2) 0) (get_or l (i * 2 + 1) 0))) (bytes_of (drop ((i + 1) * 2) l)) ≡ divided r (bytes_of (drop (i * 2) l))
  unfolding divided bytes_of
  divide-turn h =
      let e : (i + 1) * 2 ≡ i * 2 + 1 + 1 = omega arith in
      let a : i * 2 < length l = omega arith in
      rw (e, drop-first (i * 2) l a, drop-first (i * 2 + 1) l h)

  pub divide-end : length l ≤ i * 2 → divided r (bytes_of (drop (i * 2) l)) ≡ r
  unfolding divided bytes_of
  divide-end h = rw (drop_of_length-le l {i = i * 2} h)
