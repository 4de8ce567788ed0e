-- The link's record, and behind it two ends.
use Rattle.layout.specs.Links.{link_in}
use Rattle.steps.proofs.Works.{append-done}
use Rattle.session_link.proofs.append_link.Goals as goal

pub returns : goal.returns
returns c =
    rw (c.set_word-2.ensures, c.set_word.ensures, c.set_link.ensures) (append-done (link_in c.args.l) c.requires.0)
