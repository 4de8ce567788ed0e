-- The four bytes that are looked at are all.
use Rattle.sound_object.proofs.Ends.{ends-zero}
use Rattle.sound_object.proofs.field_zero.Goals as goal

pub returns : goal.returns
returns c = let pre = c.requires in ends-zero _ _ _ pre.2 pre.0 pre.1
