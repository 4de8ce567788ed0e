-- `read_begun` meets its contract: the header's table is opened, and walked through.
use native.Mathlib.Omega.{arith}
use Rattle.std.proofs.lemmas.Result.{err_from_is_err_and}
use Rattle.gsub.specs.declared.Kind.TheVariants.{Header}
use Rattle.gsub_walk.proofs.Moving.{begun-stands}
use Rattle.gsub_read.proofs.Loops.{not-begun, begun-ran}
use Rattle.gsub_read.proofs.run.read_begun.Goals as goal

pub returns-in_err-id : goal.returns-in_err-id
returns-in_err-id c =
    let p = err_from_is_err_and c.from_residual.result c.from_residual.ensures.1 in
    rw (p.1, p.2) (not-begun _ _ _ _ c.in_err-id.ensures)

pub run-requires : goal.run-requires
run-requires c = (c.in_ok-id.ensures.stays, rw c.begun-w.ensures (begun-stands _ (Header _) 0 c.requires.1 (omega arith)))

pub returns : goal.returns
returns c = begun-ran _ _ _ _ c.in_ok-id.ensures c.begun-w.ensures c.run.ensures
