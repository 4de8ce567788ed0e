-- A breach unless it is a piece line, whose object is then written.
use mathlib.Core.Path.{◌≡◌, refl, sym, ◌∙◌}
use native.Mathlib.Omega.{arith}
use borrow.Author.Rules.{rules}
use Rattle.std.specs.Prelude.{Some, Err}
use Rattle.job_calls.proofs.Values.{pairs-most}
use Rattle.job_calls.proofs.Turning.{first-breach, first_stops, first_goes}
use Rattle.job_items.specs.declared.Item.TheVariants.{Piece}
use Rattle.job_calls.specs.declared.stop.Stop.TheVariants.{Call}
use Rattle.job_calls.proofs.line.first_line.Goals as goal

pub returns-then-ne : goal.returns-then-ne
returns-then-ne c =
    let e : c.item_of.result ≡ Some Piece → ⊥ = search rules in
    λ ids. first-breach _ _ _ ids c.requires.0 (λ f. e (c.item_of.ensures ∙ f))

pub write_piece-requires : goal.write_piece-requires
write_piece-requires c = (c.requires.0, rw c.pairs.ensures (omega (arith, pairs-most c.args.line.now)))

pub returns-in_err-write_piece : goal.returns-in_err-write_piece
returns-in_err-write_piece c =
    let r = c.in_err-write_piece.field-0.0 in
    let e : c.item_of.result ≡ Some Piece = search rules in
    let f : c.from_residual.result ≡ Err (Call r.why) = search rules in
    λ ids. rw f (first_stops _ _ _ ids (sym c.item_of.ensures ∙ e) (rw c.pairs.ensures at c.in_err-write_piece.ensures) r.why refl)

pub returns : goal.returns
returns c =
    let e : c.item_of.result ≡ Some Piece = search rules in
    λ ids. first_goes _ _ _ ids (sym c.item_of.ensures ∙ e) (rw c.pairs.ensures at c.in_ok-write_piece.ensures) refl
