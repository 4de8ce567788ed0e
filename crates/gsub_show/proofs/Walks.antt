-- A walk after a move that is counted: it stands, and less is left of it.
use mathlib.Core.Path.{◌≡◌, ap}
use Prim.Native.Nat.{ℕ, ◌<◌}
use mathlib.Core.List.{List}
use native.Mathlib.Omega.{arith}
use lib.ListN.{length}
use Rattle.gsub.specs.Ops.{Op}
use Rattle.gsub_walk.specs.declared.walk.Walk.{Walk}
use Rattle.gsub_walk.specs.declared.walk.Move.{Move}
use Rattle.gsub_walk.specs.Rest.{rest_of, Standing, Goes, MovesBy}
use Rattle.gsub_show.specs.declared.visits.Visited.{Visited}
use Rattle.std.specs.Prelude.{Option, Some}
use Rattle.gsub_show.specs.Visits.{GoesOn}

module _ (b : List ℕ) (w next : Walk) where
  pub record Walked : Type 0 where
    pub stands : Standing next
    pub less : length (rest_of b next) < length (rest_of b w)

  gone : {o : Op} → Goes b w o next → Walked
  gone g = record { stands = g.stands; less = omega (arith, ap length g.made) }

  pub walked : (m : Move) {c : Option Visited} (v : Visited) → MovesBy b w m next → GoesOn m c → c ≡ Some v → Walked
  unfolding MovesBy GoesOn
  walked m {c} v h g e = go m h (rw e at g)
    where
      go : (m : Move) → MovesBy b w m next → GoesOn m (Some v) → Walked
      go Move.Begin h g = gone h
      go (Move.Put at width) h g = gone h.0
      go (Move.New at width) h g = gone h.0
      go (Move.Link width) h g = gone h.0
      go Move.End h g = gone h
      go (Move.Stop p) h g = absurd g
      go Move.Done h g = absurd g
