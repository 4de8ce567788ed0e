-- `read_in` meets its contract: a refused start, refused ops and a start anew, or accepted ops.
use Rattle.std.proofs.lemmas.Result.{err_from_is_err_and}
use Rattle.gsub_read.proofs.Restarts.{start-refused, start-sound, read_done, read-refused}
use Rattle.gsub_read.proofs.read_in.Goals as goal

pub returns-in_err-start : goal.returns-in_err-start
returns-in_err-start c =
    let p = err_from_is_err_and c.from_residual.result c.from_residual.ensures.1 in
    rw (p.1, p.2) (start-refused _ _ _ _ _ c.in_err-start.ensures)

pub read_begun-requires : goal.read_begun-requires
read_begun-requires c = (start-sound _ _ _ c.in_ok-start.ensures, c.requires)

pub returns-in-Ok : goal.returns-in-Ok
returns-in-Ok c = read_done _ _ _ _ c.in_ok-start.ensures c.in-Ok.ensures c.tally_sound.ensures

pub returns-in-Err : goal.returns-in-Err
returns-in-Err c = read-refused _ _ _ _ c.in_ok-start.ensures c.in-Err.ensures c.start-in-Err.ensures
