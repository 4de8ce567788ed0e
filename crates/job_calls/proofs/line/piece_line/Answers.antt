-- A close, and where that is accepted the next object written, with one id more known.
use mathlib.Core.Path.{◌≡◌, refl}
use borrow.Author.Rules.{rules}
use Rattle.std.specs.Prelude.{Err}
use Rattle.job_calls.specs.declared.stop.Stop.TheVariants.{Call}
use Rattle.job_calls.proofs.Turning.{piece-not, piece-stops, piece-goes}
use Rattle.job_calls.proofs.Calls.{close-after}
use Rattle.job_calls.proofs.line.piece_line.Goals as goal

pub returns-in_err-closed : goal.returns-in_err-closed
returns-in_err-closed c =
    let r = c.in_err-closed.field-0.0 in
    let e : c.from_residual.result ≡ Err (Call r.why) = search rules in
    rw e (piece-not _ c.args.ids.now c.args.count (close-after _ _ c.requires.0 c.in_err-closed.ensures) _ r.why refl)

pub write_piece-requires : goal.write_piece-requires
write_piece-requires c = ((close-after _ _ c.requires.0 c.close_sound.ensures).is_sound, search rules)

pub returns-in_err-write_piece : goal.returns-in_err-write_piece
returns-in_err-write_piece c =
    let r = c.in_err-write_piece.field-0.0 in
    let e : c.from_residual-in_err-write_piece.result ≡ Err (Call r.why) = search rules in
    rw e (piece-stops _ c.args.ids.now c.args.count (close-after _ _ c.requires.0 c.in_ok-closed.ensures) refl c.in_err-write_piece.ensures _ r.why refl)

pub returns : goal.returns
returns c =
    piece-goes _ c.args.ids.now c.args.count (close-after _ _ c.requires.0 c.in_ok-closed.ensures) refl c.in_ok-write_piece.ensures refl (search rules) _ refl
