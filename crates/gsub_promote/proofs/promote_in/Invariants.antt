-- `promote_in` meets its contract: a trial more leaves what the look comes to as it was.
use Prim.Native.Nat.{◌-◌}
use Rattle.steps.specs.Runs.{stores}
use Rattle.gsub_promote.specs.Search.{lent}
use Rattle.gsub_promote.proofs.Looking.{Looking}
use Rattle.gsub_promote.proofs.promote_in.Given as goal

abbrev pub invariant-loop-promoted : goal.invariant-loop-promoted
invariant-loop-promoted l = Looking l.scope l.table l.objects l.links (lent (stores l.initial.store l.initial.records) l.initial.out l.initial.work) l.most l.n (lent (stores l.store l.records) l.out l.work)

abbrev pub decreases-loop-promoted : goal.decreases-loop-promoted
decreases-loop-promoted l = l.most - l.n
