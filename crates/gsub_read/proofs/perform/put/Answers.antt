-- `put` meets its contract: it is the op of `put_sound`.
use Rattle.std.proofs.lemmas.Result.{err_from_is_err_and}
use Rattle.gsub_read.proofs.Performs.{put-performed}
use Rattle.gsub_read.proofs.perform.put.Goals as goal

pub returns-in_err-put_sound : goal.returns-in_err-put_sound
returns-in_err-put_sound c =
    let p = err_from_is_err_and c.from_residual.result c.from_residual.ensures.1 in
    rw (p.1, p.2) (put-performed c.requires c.args.last _ _ c.in_err-put_sound.ensures)

pub returns : goal.returns
returns c = put-performed c.requires c.args.last _ _ c.in_ok-put_sound.ensures
