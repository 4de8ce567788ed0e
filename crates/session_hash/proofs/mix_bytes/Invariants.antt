-- What is left to mix, two words at a time.
use Rattle.std.proofs.Common.{◌≡◌, ◌<◌, ◌/◌, length}
use Rattle.session_hash.specs.Hash.{hash_limit, two_words, twined, hash_bytes}
use Rattle.session_hash.proofs.mix_bytes.Given as goal

abbrev pub invariant-loop-w : goal.invariant-loop-w
invariant-loop-w l = (l.h < hash_limit) × (l.g < hash_limit) × (hash_bytes l.s ≡ twined (length l.left / two_words) l.h l.g l.left)

abbrev pub decreases-loop-w : goal.decreases-loop-w
decreases-loop-w l = length l.left
