-- Stores inside and outside a region, reads, and growth by one word.
use mathlib.Core.Path.{◌≡◌, sym, ◌∙◌}
use Prim.Native.Nat.{ℕ, ◌+◌, ◌-◌, ◌≤◌, ◌<◌}
use mathlib.Core.List.{List, [], ◌∷◌, ◌++◌}
use native.Mathlib.Omega.{arith}
use native.Mathlib.Numerals.{add-one}
use lib.ListN.{length, get_or, set, drop, length-take, length-drop}
use lib.Seq.{take-set-le, drop-set-lt, take-set-lt, drop-set-add, get_or-take, get_or-drop, take-suc-set, set-get_or}
use Rattle.regions.specs.Region.{region}

module _ (b n : ℕ) (w : List ℕ) where
  pub region-length : b + n ≤ length w → length (region b n w) ≡ n
  region-length h = simp (length-take, length-drop) (omega arith)

  pub region-at : (i : ℕ) → i < n → get_or w (b + i) 0 ≡ get_or (region b n w) i 0
  region-at i h = sym (get_or-take n (drop b w) i 0 h ∙ get_or-drop b w i 0)

  -- a store inside
  pub region-in : (i v : ℕ) → i < n → region b n (set w (b + i) v) ≡ set (region b n w) i v
  region-in i v h = rw (drop-set-add, take-set-lt n (drop b w) i v h)

  -- a store below, a store above
  pub region-under : (j v : ℕ) → j < b → region b n (set w j v) ≡ region b n w
  region-under j v h = rw (drop-set-lt b w j v h)

  pub region-over : (j v : ℕ) → b + n ≤ j → region b n (set w j v) ≡ region b n w
  region-over j v h =
      let e : j ≡ b + (j - b) = omega arith in
      rw (e, drop-set-add, take-set-le n (drop b w) (j - b) v (omega arith))

  -- one word more, stored behind it
  pub region-push : (v : ℕ) → b + n < length w → region b (n + 1) (set w (b + n) v) ≡ region b n w ++ (v ∷ [])
  region-push v h =
      let k : n < length (drop b w) = rw length-drop (omega arith) in
      rw (add-one, drop-set-add, take-suc-set (drop b w) n v k)

  -- one word more, as it stands there
  pub region-next : b + n < length w → region b (n + 1) w ≡ region b n w ++ (get_or w (b + n) 0 ∷ [])
  region-next h = rw (set-get_or w (b + n)) at (region-push (get_or w (b + n) 0) h)
