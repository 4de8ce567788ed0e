-- As its index is found.
use mathlib.Core.Path.{refl}
use Rattle.gsub_rows.proofs.Numbered.{numbered}
use Rattle.gsub_rows.proofs.rows.by_number.Goals as goal

pub returns : goal.returns
returns c =
    numbered c.args.rows.now c.args.n c.args.from _ c.requires refl c.checked_sub.result c.checked_sub.ensures c.unwrap_or.ensures c.min.ensures
