-- A part of a lent slice at a fixed offset, seen as a list of its own.
use Rattle.std.specs.Prelude.{ℕ, ◌+◌, ◌≤◌, max, List, [], ◌∷◌, ◌≡◌, length, take, drop, replicate}

abbrev pub region : ℕ → ℕ → List ℕ → List ℕ
region b n w = take n (drop b w)

-- one more than the greatest element: a bound of all elements as one number, which omega can carry
unfoldable pub ceiling : List ℕ → ℕ
ceiling [] = 0
ceiling (x ∷ l) = max (x + 1) (ceiling l)

-- nothing below `a` and nothing from `b` on has changed
pub record Kept (a b : ℕ) (w₀ w : List ℕ) : Type 0 where
  pub long : length w ≡ length w₀
  pub front : take a w ≡ take a w₀
  pub back : drop b w ≡ drop b w₀

-- `n` words from `a` on are being filled with `v`, `i` of them are
pub record Filling (a n v i : ℕ) (w₀ w : List ℕ) : Type 0 where
  pub some : i ≤ n
  pub kept : Kept a (a + n) w₀ w
  pub done : region a i w ≡ replicate i v

-- the `n` words from `from` on lie apart from those from `to` on
pub data Away (from to n : ℕ) : Type 0 where
  before : to + n ≤ from → Away from to n
  behind : from + n ≤ to → Away from to n

-- `n` words from `from` on are being copied to `to` and on, `i` of them are
pub record Copying (from to n i : ℕ) (w₀ w : List ℕ) : Type 0 where
  pub some : i ≤ n
  pub kept : Kept to (to + n) w₀ w
  pub done : region to i w ≡ region from i w₀
