-- The job goes on from what is left of the text, with the objects and ids that the stores hold.
use Rattle.job_rest.specs.Halts.{Going}
use Rattle.job_rules.specs.Job.{on, writing}
use Rattle.layout.specs.Decode.{decode}
use lib.ListN.{length}
use mathlib.Core.List.{[]}
use Prim.Native.Nat.{◌-◌}
use Rattle.job_rest.proofs.run_rest.Given as goal

abbrev pub invariant-loop-at : goal.invariant-loop-at
invariant-loop-at l =
    Going l.text l.from (on (writing (decode l.initial.store l.initial.records) [])) l.initial.records l.at l.line l.count l.store l.records l.ids

abbrev pub decreases-loop-at : goal.decreases-loop-at
decreases-loop-at l =
    length l.text - l.at
