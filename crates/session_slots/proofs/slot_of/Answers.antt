-- The hash mixed, and its bucket.
use mathlib.Core.Path.{ap, ◌∙◌}
use Rattle.session_hash.specs.Hash.{bucket_of}
use Rattle.session_slots.specs.Slots.{slots, slot_from}
use Rattle.session_slots.proofs.slot_of.Goals as goal

pub returns : goal.returns
unfolding slot_from
returns c = (c.bucket_of.ensures.0 ∙ ap (bucket_of slots) c.mix.ensures.0, c.bucket_of.ensures.1)
