-- The four stores of the definition.
use mathlib.Core.Path.{refl}
use native.Mathlib.Omega.{arith}
use lib.ListN.{length-set}
use Rattle.session_chains.specs.Index.{added}
use Rattle.session_chains.proofs.Appended.{room-last}
use Rattle.session_chains.proofs.add.Goals as goal

pub leader_at-at-requires : goal.leader_at-at-requires
leader_at-at-requires c = (c.bucket_of-k.ensures.1, omega (arith, room-last c.requires c.bucket_of-k.ensures.0))

pub offset_bounds-index-at : goal.offset_bounds-index-at
offset_bounds-index-at c = omega (arith, room-last c.requires c.bucket_of-k.ensures.0)

pub bounds-index-at : goal.bounds-index-at
bounds-index-at c = omega (arith, room-last c.requires c.bucket_of-k.ensures.0)

pub bounds-index-k-2 : goal.bounds-index-k-2
bounds-index-k-2 c = simp length-set (omega arith)

pub bounds-index-buckets : goal.bounds-index-buckets
bounds-index-buckets c = simp length-set (omega arith)

pub bounds-index-buckets-2 : goal.bounds-index-buckets-2
bounds-index-buckets-2 c = simp length-set (omega arith)

pub returns : goal.returns
unfolding added
returns c = rw (c.leader_at-at.ensures.0, c.bucket_of-k.ensures.0) refl
