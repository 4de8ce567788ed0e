-- The row's fields are the table's.
use Rattle.gsub_rows.proofs.Looks.{row-found}
use Rattle.gsub_rows.proofs.fields.next_field.Goals as goal

pub returns : goal.returns
returns c =
    let a = c.args in
    row-found a.table.now a.kind a.place a.index _ c.word_at.ensures.0 c.word_at-2.ensures.0 c.row_of-row.ensures c.in_runs.ensures
