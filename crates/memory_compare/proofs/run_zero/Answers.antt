-- The gathered bits are none exactly if every byte is zero.
use Rattle.std.proofs.Common.{rules, tests, bit_or, eqb, ℕ, ap, ◌∙◌}
use Rattle.std.proofs.lemmas.Iterator.{YieldsList-from_slice}
use Rattle.std.proofs.lemmas.Iterator.Consumers.{fold_from_yields_List}
use Rattle.memory_compare.proofs.Compares.{gathered-zeros}
use Rattle.memory_compare.proofs.run_zero.Goals as goal

pub returns : goal.returns
returns c =
    ap (λ (n : ℕ). eqb n 0) (fold_from_yields_List _ bit_or _ c.fold.result c.fold.ensures.ran (YieldsList-from_slice c.args.run.now cc) (λ a x b q k. search (rules, tests)))
    ∙ gathered-zeros 0 c.args.run.now
