-- Number and count in eight bytes.
use Rattle.cable_frame.proofs.FramesPut.{front_bytes}
use Rattle.cable_crc.specs.Crc.{divided}
use mathlib.Core.Path.{ap₂, ◌∙◌}
use Rattle.cable_frame.proofs.framing.Place.check_begun.Goals as goal

pub returns : goal.returns
returns c = c.run.ensures ∙ ap₂ divided c.begin.ensures (front_bytes c.args.self.number c.args.self.count _ _ c.write.ensures c.write-2.ensures)
