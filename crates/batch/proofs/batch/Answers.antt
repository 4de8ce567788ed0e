-- By whether the stores are sound.
use mathlib.Core.Path.{sym, ◌∙◌}
use Rattle.batch.proofs.Steps.{batch-unsound}
use Rattle.batch.proofs.batch.Goals as goal

pub batch_sound-requires : goal.batch_sound-requires
batch_sound-requires c = sym c.is_sound.ensures ∙ c.if-is_sound.true

pub returns : goal.returns
returns c = batch-unsound _ _ _ _ c.refused.ensures (sym c.is_sound.ensures ∙ c.if-is_sound.false)
