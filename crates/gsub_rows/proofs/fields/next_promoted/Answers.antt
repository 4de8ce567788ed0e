-- Its type is 7, and no other of its fields hangs on the bytes of its type.
use Rattle.gsub_rows.proofs.Modes.{found-promoted}
use Rattle.gsub_rows.proofs.fields.next_promoted.Goals as goal

pub returns : goal.returns
returns c =
    found-promoted c.args.table.now c.args.place c.args.index _ c.requires.1 c.promoted_type.ensures c.word_at.ensures.0 c.row_of-row.ensures c.in_runs.ensures
