-- The flag holds exactly if no byte is a line feed.
use Rattle.std.proofs.Common.{rules, tests, eqb, ◌&&◌, ◌∙◌, true}
use mathlib.Core.Bool.{not}
use Rattle.std.proofs.lemmas.Iterator.{YieldsList-from_slice}
use Rattle.std.proofs.lemmas.Iterator.Consumers.{fold_from_yields_List}
use Rattle.cable_frame.specs.Frame.{line_feed}
use Rattle.cable_scan.proofs.Front.{none-quiet}
use Rattle.cable_scan.proofs.run_quiet.Goals as goal

pub returns : goal.returns
returns c =
    fold_from_yields_List _ (λ b x. b && not (eqb x line_feed)) _ c.fold.result c.fold.ensures.ran (YieldsList-from_slice c.args.run.now cc) (λ a x b q k. search (rules, tests))
    ∙ none-quiet true c.args.run.now
