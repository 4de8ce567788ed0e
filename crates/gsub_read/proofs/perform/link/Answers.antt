-- `link` meets its contract: it is the op of `link_sound`, with inner start 0.
use Rattle.std.proofs.lemmas.Result.{err_from_is_err_and}
use Rattle.gsub_read.proofs.Performs.{link-performed}
use Rattle.gsub_read.proofs.perform.link.Goals as goal

pub returns-in_err-link_sound : goal.returns-in_err-link_sound
returns-in_err-link_sound c =
    let p = err_from_is_err_and c.from_residual.result c.from_residual.ensures.1 in
    rw (p.1, p.2) (link-performed c.requires c.args.last _ c.args.width c.in_err-link_sound.ensures)

pub returns : goal.returns
returns c = link-performed c.requires c.args.last _ c.args.width c.in_ok-link_sound.ensures
