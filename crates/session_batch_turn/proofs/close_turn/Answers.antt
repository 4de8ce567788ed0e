-- By what the close answered.
use Rattle.session_batch_turn.proofs.Turns.{close-done, close-refused}
use Rattle.session_batch_turn.proofs.close_turn.Goals as goal

pub returns-in-Ok : goal.returns-in-Ok
returns-in-Ok c = close-done c.close_indexed-a.ensures c.in-Ok.is

pub returns-in-Err : goal.returns-in-Err
returns-in-Err c = close-refused c.close_indexed-a.ensures c.in-Err.is
