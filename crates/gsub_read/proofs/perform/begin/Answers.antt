-- `begin` meets its contract: it is the op of `open_sound`.
use Rattle.std.proofs.lemmas.Result.{err_from_is_err_and}
use Rattle.gsub_read.proofs.Performs.{begin-performed}
use Rattle.gsub_read.proofs.perform.begin.Goals as goal

pub returns-in_err-open_sound : goal.returns-in_err-open_sound
returns-in_err-open_sound c =
    let p = err_from_is_err_and c.from_residual.result c.from_residual.ensures.1 in
    rw (p.1, p.2) (begin-performed c.requires c.args.last _ c.in_err-open_sound.ensures)

pub returns : goal.returns
returns c = begin-performed c.requires c.args.last _ c.in_ok-open_sound.ensures
