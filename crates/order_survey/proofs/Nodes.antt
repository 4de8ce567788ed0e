-- Reading along the line: it stands while only distances change, and its nodes one by one.
use mathlib.Core.Path.{◌≡◌}
use Prim.Native.Nat.{ℕ, ◌+◌, ◌≤◌, ◌<◌}
use mathlib.Core.List.{List, [], ◌∷◌}
use native.Mathlib.Omega.{arith}
use native.Mathlib.Numerals.{add-one}
use lib.ListN.{get_or, drop, length, drop_of_length-le}
use lib.Seq.{drop-cons}
use Rattle.regions.specs.Region.{region, Kept}
use Rattle.regions.proofs.Laws.{region-length, region-at}
use Rattle.regions.proofs.Bounds.{ceiling-at}
use Rattle.regions.proofs.Frame.{kept-below}
use Rattle.work.specs.Views.{line_in}
use Rattle.work.specs.declared.Areas.{Areas}
use Rattle.order_graph.specs.Graph.{AtNode}
use Rattle.order_graph.proofs.Links.{stands-kept}
use Rattle.order_survey.specs.Survey.{Along}

pub along-kept : {a : Areas} {n r y : ℕ} {w₀ w : List ℕ} → Along a n r w₀ → Kept a.distances y w₀ w → Along a n r w
along-kept {a} {n} {r} s k =
    record { graph = stands-kept s.graph k (omega arith); few = s.few; ids = rw (kept-below k a.line r (omega arith)) s.ids }

pub line-done : {a : Areas} {n r t : ℕ} {w : List ℕ} → Along a n r w → r ≤ t → drop t (line_in a r w) ≡ []
line-done {a} {n} {r} {t} {w} s h = drop_of_length-le (line_in a r w) {i = t} (rw (region-length a.line r w (omega arith)) h)

-- the node at place t of the line
module _ {a : Areas} {n r t : ℕ} {w : List ℕ} (s : Along a n r w) (h : t < r) where
  line-long : length (line_in a r w) ≡ r
  line-long = region-length a.line r w (omega arith)

  pub line_read : get_or w (a.line + t) 0 ≡ get_or (line_in a r w) t 0
  line_read = region-at a.line r w t h

  pub line-inside : get_or w (a.line + t) 0 < n
  line-inside = omega (arith, line_read, ceiling-at (line_in a r w) t (omega (arith, line-long)))

  pub line-node : AtNode a n (get_or w (a.line + t) 0) w
  line-node = record { graph = s.graph; inside = line-inside }

  pub line-left : drop t (line_in a r w) ≡ get_or w (a.line + t) 0 ∷ drop (t + 1) (line_in a r w)
  line-left = rw (line_read, add-one) (drop-cons (line_in a r w) t 0 (omega (arith, line-long)))

-- the same, read from the line's k words
pub line_long : {a : Areas} {n r : ℕ} {w : List ℕ} → Along a n r w → (k : ℕ) → k ≡ r → length (region a.line k w) ≡ r
line_long {a} {n} {r} {w} s k e = rw e (region-length a.line r w (omega arith))

pub line_item : {a : Areas} {n r : ℕ} {w : List ℕ} → Along a n r w → (k t : ℕ) → k ≡ r → t < length (region a.line k w) → get_or (region a.line k w) t 0 < n
line_item {a} {n} {r} {w} s k t e h = rw e (omega (arith, line_long s k e, ceiling-at (line_in a r w) t (rw e at h)))
