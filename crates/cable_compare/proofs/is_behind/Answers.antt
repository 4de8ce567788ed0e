-- A line feed and the check's line fill the array.
use Rattle.cable_compare.proofs.Texts.{behind-done}
use lib.ListN.{replicate}
use mathlib.Core.Path.{refl, ◌∙◌}
use Rattle.cable_compare.proofs.is_behind.Goals as goal

pub returns : goal.returns
returns c = c.equal.ensures ∙ rw (behind-done c.args.check (replicate 16 0) c.put_check.new.out refl c.put_check.ensures.1)
