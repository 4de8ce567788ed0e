-- The number that is read, as the end's.
use mathlib.Core.Path.{◌≡◌, ap, ◌∙◌}
use borrow.Author.Rules.{rules}
use Rattle.job_items.specs.Item.{end_of, end_item}
use Rattle.job_items.proofs.end_item.Goals as goal

pub returns : goal.returns
unfolding end_item
returns c = let e : c.map.result ≡ end_of c.read_number.result = search rules in e ∙ ap end_of c.read_number.ensures
