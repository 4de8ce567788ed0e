-- The data divided on from number and count.
use Rattle.cable_frame.proofs.FramesPut.{check-is}
use mathlib.Core.Path.{◌∙◌}
use Rattle.cable_frame.proofs.framing.Place.check_of.Goals as goal

pub returns : goal.returns
returns c = c.finish.ensures ∙ rw (c.run.ensures, c.check_begun.ensures) (check-is c.args.self.number c.args.self.count c.args.body.now)
