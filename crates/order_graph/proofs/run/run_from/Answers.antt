-- `run_from` meets its contract: link by link the run is one longer, until a child is another or there are no more.
use mathlib.Core.Path.{refl}
use native.Mathlib.Omega.{arith}
use Rattle.order_graph.specs.Graph.{one, more}
use Rattle.order_graph.proofs.run.run_from.Goals as goal

pub loop-end-init : goal.loop-end-init
loop-end-init c =
    let first = c.field_from-first.ensures in
    record { some = omega arith; most = omega arith; known = first.known; narrow = first.narrow; row = one first refl refl refl }

pub loop-end-preserved : goal.loop-end-preserved
loop-end-preserved c =
    let run = c.loop-end.invariant in
    let next = c.field_from-f.ensures in
    record { some = omega arith; most = omega arith; known = run.known; narrow = omega arith; row = more run.row next refl (omega arith) (omega arith) }
