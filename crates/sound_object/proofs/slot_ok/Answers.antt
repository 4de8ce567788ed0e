-- The three tests are those of the definition, in its order.
use mathlib.Core.Path.{refl}
use Rattle.sound_object.proofs.slot_ok.Goals as goal

pub returns : goal.returns
returns c = refl
