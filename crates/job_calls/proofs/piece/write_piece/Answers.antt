-- An open, and where that is accepted a put.
use mathlib.Core.Path.{◌≡◌, refl}
use borrow.Author.Rules.{rules}
use Rattle.std.specs.Prelude.{Err}
use Rattle.job_calls.proofs.Turning.{not_done, writes-not, writes-put}
use Rattle.job_calls.proofs.Calls.{open_after, put-after}
use Rattle.job_calls.proofs.piece.write_piece.Goals as goal

pub returns-in_err-open_sound : goal.returns-in_err-open_sound
returns-in_err-open_sound c =
    let r = c.in_err-open_sound.field-0.0 in
    let e : c.from_residual.result ≡ Err r = search rules in
    rw e (writes-not _ (open_after _ _ c.requires.0 c.in_err-open_sound.ensures) (not_done r.why refl))

pub put_hex-requires : goal.put_hex-requires
put_hex-requires c = ((open_after _ _ c.requires.0 c.open_sound.ensures).is_sound, search rules)

pub returns : goal.returns
returns c =
    let a = open_after _ _ c.requires.0 c.in_ok-open_sound.ensures in
    writes-put _ a refl (put-after _ _ a.is_sound _ c.put_hex.ensures)
