-- A breach where the count is another; else a close, whose id is the root.
use mathlib.Core.Path.{◌≡◌, refl}
use borrow.Author.Rules.{rules}
use Rattle.std.specs.Prelude.{Err}
use Rattle.job_calls.specs.declared.stop.Stop.TheVariants.{Call}
use Rattle.job_calls.proofs.Turning.{end-breach, end-stops, end-packs}
use Rattle.job_calls.proofs.Calls.{close-after}
use Rattle.job_calls.proofs.line.end_line.Goals as goal

pub returns-then-n-count : goal.returns-then-n-count
returns-then-n-count c = end-breach _ _ _ _ _ (search rules) c.requires.0 c.if-n-count.true

pub returns-in_err-closed : goal.returns-in_err-closed
returns-in_err-closed c =
    let r = c.in_err-closed.field-0.0 in
    let e : c.from_residual.result ≡ Err (Call r.why) = search rules in
    rw e (end-stops _ _ _ _ _ (search rules) c.if-n-count.false (close-after _ _ c.requires.0 c.in_err-closed.ensures) r.why refl)

pub returns : goal.returns
returns c = end-packs _ _ _ _ _ (search rules) c.if-n-count.false (close-after _ _ c.requires.0 c.in_ok-closed.ensures) refl _ refl
