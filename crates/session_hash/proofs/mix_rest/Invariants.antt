-- What is left to mix.
use Rattle.std.proofs.Common.{◌≡◌, ◌<◌, drop}
use Rattle.session_hash.specs.Hash.{hash_limit, mixed}
use Rattle.session_hash.proofs.mix_rest.Given as goal

abbrev pub invariant-loop-x : goal.invariant-loop-x
invariant-loop-x l = (l.h < hash_limit) × (mixed l.from l.s ≡ mixed l.h (drop l.x-index l.s))
