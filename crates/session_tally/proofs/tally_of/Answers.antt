-- The four counts are those of the definition.
use mathlib.Core.Path.{refl}
use Rattle.session_tally.proofs.tally_of.Goals as goal

pub returns : goal.returns
returns c = refl
