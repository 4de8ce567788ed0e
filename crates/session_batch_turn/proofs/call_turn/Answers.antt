-- By what the call answered.
use native.Mathlib.Omega.{arith}
use lib.ListN.{length}
use Rattle.lists.proofs.Runs.{length_part}
use Rattle.session_batch_turn.proofs.Turns.{call_ok, call-done, call-refused}
use Rattle.session_batch_turn.proofs.call_turn.Goals as goal

pub carry-requires : goal.carry-requires
carry-requires c =
    let a = c.args in
    (c.requires.is_sound, call_ok _ a.n (omega (arith, length_part a.p.bytes (length a.bytes.now) a.bytes.now (omega arith), c.requires.in_bytes)))

pub returns-in-Ok : goal.returns-in-Ok
returns-in-Ok c = call-done _ _ _ c.carry.ensures c.in-Ok.is c.words_taken.ensures c.bytes_taken.ensures

pub returns-in-Err : goal.returns-in-Err
returns-in-Err c = call-refused _ _ _ c.carry.ensures c.in-Err.is
