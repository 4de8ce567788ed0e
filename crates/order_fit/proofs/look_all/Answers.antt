-- `look_all` meets its contract: the look through the nodes left gives the answer that is promised.
use mathlib.Core.Path.{sym}
use Rattle.std.proofs.lemmas.Result.{err_from_is_err_and}
use Rattle.order_fit.proofs.Looking.{seeking-next, seeking-stop, seeking-all}
use Rattle.order_fit.proofs.look_all.Goals as goal

pub returns-in_err-look_links : goal.returns-in_err-look_links
returns-in_err-look_links c =
    let told = err_from_is_err_and c.from_residual.result c.from_residual.ensures.1 in
    rw (told.1, told.2) (sym (seeking-stop c.requires c.loop-t.invariant c.loop-t-test.true c.node_at.ensures.1 c.look_links.ensures c.in_err-look_links.was))

pub loop-t-preserved : goal.loop-t-preserved
loop-t-preserved c =
    seeking-next c.requires c.loop-t.invariant c.loop-t-test.true c.node_at.ensures.1 c.look_links.ensures c.in_ok-look_links.was

pub returns : goal.returns
returns c = sym (seeking-all c.requires c.loop-t.invariant c.loop-t-test.false)
