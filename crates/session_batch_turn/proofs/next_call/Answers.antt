-- The words that are left.
use native.Mathlib.Omega.{arith}
use lib.ListN.{length-take}
use Rattle.session_batch_turn.proofs.Turns.{next-says}
use Rattle.session_batch_turn.proofs.next_call.Goals as goal

pub slice_bounds-read_call-end-2 : goal.slice_bounds-read_call-end-2
slice_bounds-read_call-end-2 c = let a = c.args in omega (arith, length-take a.p.told a.ids.now, c.requires.in_ids)

pub returns : goal.returns
returns c = next-says c.requires c.read_call.ensures
