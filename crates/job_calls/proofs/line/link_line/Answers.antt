-- A link to the id of an earlier piece line's object.
use mathlib.Core.Path.{◌≡◌, refl}
use borrow.Author.Rules.{rules}
use Rattle.std.specs.Prelude.{Err}
use Rattle.job_calls.specs.declared.stop.Stop.TheVariants.{Call}
use Rattle.job_calls.proofs.Turning.{link-stops, link-goes}
use Rattle.job_calls.proofs.Calls.{link-after}
use Rattle.job_calls.proofs.line.link_line.Goals as goal

pub returns-in_err-link_sound : goal.returns-in_err-link_sound
returns-in_err-link_sound c =
    let d = c.args in
    let r = c.in_err-link_sound.field-0.0 in
    let e : c.from_residual.result ≡ Err (Call r.why) = search rules in
    rw e (link-stops d.width d.i d.ids.now d.count (link-after _ _ c.requires.0 _ _ _ (rw c.child_at-child.ensures at c.in_err-link_sound.ensures)) r.why refl)

pub returns : goal.returns
returns c =
    let d = c.args in
    link-goes d.width d.i d.ids.now d.count (link-after _ _ c.requires.0 _ _ _ (rw c.child_at-child.ensures at c.in_ok-link_sound.ensures)) refl
