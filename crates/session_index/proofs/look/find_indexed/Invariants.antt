-- One chain: the ids passed, and those of other chains, are not the answer.
use Rattle.session_index.proofs.Walks.{left, Walk}
use Rattle.layout.specs.Words.{closed_count}
use Rattle.session_index.proofs.look.find_indexed.Given as goal

abbrev pub invariant-loop-x : goal.invariant-loop-x
invariant-loop-x l = Walk l.store l.records l.buckets l.x

abbrev pub decreases-loop-x : goal.decreases-loop-x
decreases-loop-x l = left (closed_count l.records) l.x
