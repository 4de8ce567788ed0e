-- The links are looked at where they lie.
use Rattle.layout.proofs.Links.{link-words}
use Rattle.sound_fields.proofs.hopeless.span_hopeless.Goals as goal

pub any_hopeless-requires : goal.any_hopeless-requires
any_hopeless-requires c =
    let pre = c.requires in
    rw (pre.0, ← link-words _ _ _ pre.2.link_inside) pre.3

pub returns : goal.returns
returns c =
    let pre = c.requires in
    rw (link-words _ _ _ pre.2.link_inside) (rw pre.0 at c.any_hopeless.ensures)
