-- A region lent as a slice of its own, and back.
use mathlib.Core.Path.{◌≡◌}
use Prim.Native.Nat.{ℕ, ◌+◌, ◌≤◌}
use mathlib.Core.List.{List, ◌++◌}
use native.Mathlib.Omega.{arith}
use lib.ListN.{length, take, drop, length-append, length-drop}
use lib.Seq.{length-take-le, take_at, drop_at, drop-drop, take-append-le}
use Rattle.regions.specs.Region.{region, Kept}

-- w, once the n words from b on are v
abbrev pub back : ℕ → ℕ → List ℕ → List ℕ → List ℕ
back b n w v = take b w ++ (v ++ drop n (drop b w))

module _ (b n : ℕ) (w v : List ℕ) (h : b + n ≤ length w) (e : length v ≡ n) where
  front_long : length (take b w) ≡ b
  front_long = length-take-le b w (omega arith)

  behind : drop b (back b n w v) ≡ v ++ drop n (drop b w)
  behind = drop_at (take b w) (v ++ drop n (drop b w)) b front_long

  pub back-region : (k : ℕ) → k ≤ n → region b k (back b n w v) ≡ take k v
  back-region k m = rw behind (take-append-le k v (drop n (drop b w)) (omega (arith, e)))

  pub back-kept : Kept b (b + n) w (back b n w v)
  back-kept =
      record {
        long = simp (length-append, length-drop) (omega (arith, front_long, e));
        front = take_at (take b w) (v ++ drop n (drop b w)) b front_long;
        back = rw (← drop-drop n b (back b n w v), behind, drop_at v (drop n (drop b w)) n e, drop-drop n b w);
      }
