-- What is left to mix by fours.
use Rattle.std.proofs.Common.{◌≡◌, ◌<◌, length}
use Rattle.session_hash.specs.Hash.{hash_limit, mixed, gathered}
use Rattle.session_hash.proofs.mix_fours.Given as goal

abbrev pub invariant-loop-w : goal.invariant-loop-w
invariant-loop-w l = (l.h < hash_limit) × (mixed l.from (gathered l.s) ≡ mixed l.h (gathered l.left))

abbrev pub decreases-loop-w : goal.decreases-loop-w
decreases-loop-w l = length l.left
