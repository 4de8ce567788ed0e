-- The nodes to place from a root, by the counts in the work memory.
use mathlib.Core.Path.{◌≡◌, sym, ◌∙◌}
use Prim.Native.Nat.{ℕ, ◌≤◌, ◌<◌}
use mathlib.Core.List.{List}
use native.Mathlib.Omega.{arith}
use Rattle.regions.specs.Region.{ceiling, Kept}
use Rattle.regions.proofs.Bounds.{ceiling-at}
use Rattle.model_orders.specs.Bag.{count}
use Rattle.model_orders.specs.Space.{spot}
use Rattle.model_orders.proofs.Spots.{spot_in, spot-at}
use Rattle.model_orders.proofs.Waits.{waits-bag}
use Rattle.model_orders.proofs.SameNodes.{SameBag, rooted-same, rooted-bag}
use Rattle.work.specs.Views.{incoming_in}
use Rattle.work.specs.declared.Areas.{Areas}
use Rattle.order_graph.specs.Graph.{graph_on, Stands, Counted}
use Rattle.order_graph.proofs.Links.{front_kept}

pub ceiling-in : (l : List ℕ) (c : ℕ) → 0 < count c l → c < ceiling l
ceiling-in l c h = omega (arith, spot-at l c h, ceiling-at l (spot l c) (spot_in l c h))

module _ {a : Areas} {n root : ℕ} {l w : List ℕ} (s : Counted a n root l w) where
  -- the counts tell which they are
  pub counted-bag : {m : List ℕ} → Counted a n root m w → SameBag l m
  counted-bag t = rooted-bag s.rooted t.rooted (λ c. sym (s.incoming c) ∙ t.incoming c)

  pub counted_same : (m : List ℕ) → SameBag l m → Counted a n root m w
  counted_same m b = record { rooted = rooted-same s.rooted b; incoming = λ c. s.incoming c ∙ waits-bag (graph_on a n w) l m b c }

  -- as long as the graph and the counts stand
  pub counted-kept : {from to : ℕ} {w' : List ℕ} → Stands a n w → Kept from to w w' → a.keys ≤ from → incoming_in a w' ≡ incoming_in a w → Counted a n root l w'
  counted-kept g k h e =
      let front = front_kept g k h in
      record { rooted = rw front s.rooted; incoming = λ c. rw (front, e) (s.incoming c) }
