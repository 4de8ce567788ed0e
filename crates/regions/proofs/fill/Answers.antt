-- `fill` meets its contract: the words lent are filled, and come back in their place.
use mathlib.Core.Path.{◌≡◌, ◌∙◌}
use Prim.Native.Nat.{ℕ, ◌+◌, ◌≤◌}
use mathlib.Core.List.{List}
use native.Mathlib.Omega.{arith}
use lib.ListN.{length, replicate, length-replicate}
use lib.Seq.{take-length}
use borrow.Author.Rules.{rules}
use Rattle.regions.specs.Region.{region, Filling}
use Rattle.regions.proofs.Laws.{region-length}
use Rattle.regions.proofs.Lent.{back, back-region, back-kept}
use Rattle.regions.proofs.fill.Goals as goal

filled : (a n k v : ℕ) (w l : List ℕ) → k ≡ n → a + n ≤ length w → l ≡ replicate (length (region a k w)) v → Filling a n v n w (back a k w l)
filled a n k v w l e h f =
    let g : l ≡ replicate n v = rw (e, region-length a n w h) at f in
    let long : length l ≡ n = rw g (length-replicate n v) in
    rw e (record {
      some = omega arith;
      kept = back-kept a n w l h long;
      done = back-region a n w l h long n (omega arith) ∙ search (rules, take-length);
    })

pub returns : goal.returns
returns c = filled _ _ _ _ _ _ (omega arith) (search rules) (c.fill.ensures.after (λ y e. e))
