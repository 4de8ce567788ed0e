-- Each id that is passed is not the answer.
use Rattle.session_find.proofs.Looks.{Look}
use Rattle.session_find.proofs.find.Given as goal

abbrev pub invariant-loop-id : goal.invariant-loop-id
invariant-loop-id l = Look l.store l.records l.s.closed l.id
