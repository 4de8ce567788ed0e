-- A read of the table as it stands.
use mathlib.Core.Path.{◌∙◌}
use Rattle.gsub_rows.specs.Fields.{Fits}
use Rattle.gsub_read.proofs.Loops.{as-it-stands}
use Rattle.gsub_read.proofs.read_gsub.Goals as goal

pub read_in-requires : goal.read_in-requires
unfolding Fits
read_in-requires c = tt

pub returns : goal.returns
returns c = c.read_in.ensures ∙ as-it-stands _ _ _ _ _
