-- The object is tested where it lies.
use Rattle.layout.proofs.Links.{link-words}
use Rattle.sound_fields.proofs.span_ok.Goals as goal

pub returns : goal.returns
returns c =
    let pre = c.requires in
    rw (link-words _ _ _ pre.2.link_inside) (rw pre.0 at c.object_ok.ensures)
