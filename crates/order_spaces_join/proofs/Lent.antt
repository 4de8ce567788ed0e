-- The bosses lent as a slice of their own, and back.
use mathlib.Core.Path.{◌≡◌, ◌∙◌}
use Prim.Native.Nat.{ℕ, ◌+◌, ◌-◌, ◌≤◌}
use mathlib.Core.List.{List, ◌++◌}
use native.Mathlib.Omega.{arith}
use lib.ListN.{length, take, drop}
use lib.Seq.{take_all}
use Rattle.regions.specs.Region.{region}
use Rattle.regions.proofs.Laws.{region-length}
use Rattle.regions.proofs.Lent.{back, back-region, back-kept}
use Rattle.order_merge.specs.Bosses.{Joins}
use Rattle.order_spaces_join.specs.Join.{JoinedAt}

whole : (b r : ℕ) → b + r - b ≡ r
whole b r = omega arith

pub lent-joined : {b r x y : ℕ} {w v : List ℕ} → b + r ≤ length w → Joins x y (region b (b + r - b) w) v
    → JoinedAt b r x y w (take b w ++ (v ++ drop (b + r - b) (drop b w)))
lent-joined {b} {r} {x} {y} {w} {v} h j =
    let i : Joins x y (region b r w) v = rw (whole b r) at j in
    let e : length v ≡ r = i.long ∙ region-length b r w h in
    let z : region b r (back b r w v) ≡ v = back-region b r w v h e r (omega arith) ∙ take_all r v (omega (arith, e)) in
    rw (whole b r) (record { kept = back-kept b r w v h e; falls = rw z i.falls; one = rw z i.one })
