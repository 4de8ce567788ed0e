-- A remainder is below its divisor.
use mathlib.Core.Path.{refl}
use native.Mathlib.Nat.{mod-lt}
use Rattle.session_chains.proofs.bucket_of.Goals as goal

pub returns : goal.returns
returns c = (refl, mod-lt _ c.requires)
