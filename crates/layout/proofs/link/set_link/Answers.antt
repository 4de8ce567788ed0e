-- Four stores make the link's record.
use Rattle.layout.specs.Links.{link_in}
use Rattle.layout.proofs.Links.{link-stored}
use Rattle.layout.proofs.link.set_link.Goals as goal

pub returns : goal.returns
returns c =
    rw (c.set_word-4.ensures, c.set_word-3.ensures, c.set_word-2.ensures, c.set_word.ensures)
    (link-stored _ (link_in c.args.l) _ c.requires.0)
