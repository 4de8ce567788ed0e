-- By the rows of its kind.
use mathlib.Core.Path.{ap, ◌∙◌}
use Rattle.gsub.specs.Tables.{chosen}
use Rattle.gsub_rows.proofs.rows.row_of.Goals as goal

pub returns-in-Only : goal.returns-in-Only
returns-in-Only c =
    let rows = c.in-Only.ensures in
    record { same = ap (λ f. chosen f c.args.first c.args.second) rows.0; fits = rows.1 }

pub returns-in-ByFirst : goal.returns-in-ByFirst
returns-in-ByFirst c =
    let rows = c.in-ByFirst.ensures in
    let row = c.by_number.ensures in
    record { same = row.same ∙ ap (λ f. chosen f c.args.first c.args.second) rows.0; fits = row.fits }

pub returns-in-BySecond : goal.returns-in-BySecond
returns-in-BySecond c =
    let rows = c.in-BySecond.ensures in
    let row = c.by_number-in-BySecond.ensures in
    record { same = row.same ∙ ap (λ f. chosen f c.args.first c.args.second) rows.0; fits = row.fits }
