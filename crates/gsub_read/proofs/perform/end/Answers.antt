-- `end` meets its contract: it is the op of `close_sound`, whose id is the last one then.
use Rattle.std.proofs.lemmas.Result.{err_from_is_err_and}
use Rattle.gsub_read.proofs.Performs.{end-performed}
use Rattle.gsub_read.proofs.perform.end.Goals as goal

pub returns-in_err-closed : goal.returns-in_err-closed
returns-in_err-closed c =
    let p = err_from_is_err_and c.from_residual.result c.from_residual.ensures.1 in
    rw (p.1, p.2) (end-performed c.requires _ c.in_err-closed.ensures)

pub returns : goal.returns
returns c = end-performed c.requires _ c.in_ok-closed.ensures
