-- By the search for a comma, and what is read before and behind it.
use mathlib.Core.Path.{refl, ap₂, ◌∙◌}
use Rattle.job_items.specs.Item.{link_of}
use Rattle.job_items.proofs.Keys.{no-comma, comma-parts}
use Rattle.job_items.proofs.link_item.Goals as goal

pub returns-in_err-k : goal.returns-in_err-k
returns-in_err-k c = c.from_residual.ensures ∙ no-comma c.args.v.now c.in_err-k.ensures

pub returns-in_err-width : goal.returns-in_err-width
returns-in_err-width c =
    c.from_residual-in_err-width.ensures ∙ ap₂ link_of c.in_err-width.ensures refl ∙ comma-parts c.args.v.now c.in_ok-k.k c.in_ok-k.ensures

pub returns-in_err-number : goal.returns-in_err-number
returns-in_err-number c =
    c.from_residual-in_err-number.ensures ∙ ap₂ link_of c.in_ok-width.ensures c.in_err-number.ensures ∙ comma-parts c.args.v.now c.in_ok-k.k c.in_ok-k.ensures

pub returns : goal.returns
returns c = ap₂ link_of c.in_ok-width.ensures c.in_ok-number.ensures ∙ comma-parts c.args.v.now c.in_ok-k.k c.in_ok-k.ensures
