-- By what the test tells.
use mathlib.Core.Path.{refl, ap}
use Rattle.std.proofs.lemmas.Result.{err_from_is_err_and}
use Rattle.soundness.proofs.Telling.{tested-err}
use Rattle.steps.specs.Runs.{left_by_pack, lent_step}
use Rattle.steps.proofs.Packs.{pack-unsound}
use Rattle.pack.proofs.pack.Goals as goal

pub returns-in_err-test : goal.returns-in_err-test
unfolding lent_step
returns-in_err-test c =
    let p = err_from_is_err_and c.from_residual.result c.from_residual.ensures.1 in
    let f = tested-err _ c.in_err-test.ensures in
    rw (p.1, p.2, f.1) (ap (left_by_pack _) (pack-unsound _ _ _ _ _ _ refl f.0))

pub returns : goal.returns
unfolding lent_step
returns c = ap (left_by_pack _) c.pack_sound.ensures
