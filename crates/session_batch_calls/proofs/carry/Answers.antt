-- Each call is its step.
use native.Mathlib.Omega.{arith}
use lib.ListN.{length-take}
use Rattle.session_batch_calls.proofs.Calls.{read_as, put-ok, open-carried, put-carried, link-carried, drop-carried, close-carried, nothing-carried, none-carried}
use Rattle.session_batch_calls.proofs.carry.Goals as goal

pub slice_bounds-put_sound-end : goal.slice_bounds-put_sound-end
slice_bounds-put_sound-end c =
    omega (arith, length-take c.in-Put.k c.args.bytes.now, put-ok _ _ c.in-Put.k (read_as c.in-Ok-Some.is (rw c.in-Ok-Some.is at c.in-Ok-Some.field-0-is) c.in-Put.is) c.requires.1)

pub returns-in-Open : goal.returns-in-Open
returns-in-Open c = open-carried _ (read_as c.in-Ok-Some.is (rw c.in-Ok-Some.is at c.in-Ok-Some.field-0-is) c.in-Open.is) c.open_sound.ensures

pub returns-in-Put : goal.returns-in-Put
returns-in-Put c = put-carried _ _ (read_as c.in-Ok-Some.is (rw c.in-Ok-Some.is at c.in-Ok-Some.field-0-is) c.in-Put.is) c.put_sound.ensures

pub returns-in-Link : goal.returns-in-Link
returns-in-Link c = link-carried _ _ _ _ (read_as c.in-Ok-Some.is (rw c.in-Ok-Some.is at c.in-Ok-Some.field-0-is) c.in-Link.is) c.link_sound.ensures

pub returns-in-Drop : goal.returns-in-Drop
returns-in-Drop c = drop-carried _ (read_as c.in-Ok-Some.is (rw c.in-Ok-Some.is at c.in-Ok-Some.field-0-is) c.in-Drop.is) c.drop_sound.ensures

pub returns-in-Close : goal.returns-in-Close
returns-in-Close c = close-carried _ c.requires.0 c.tally_sound.ensures (read_as c.in-Ok-Some.is (rw c.in-Ok-Some.is at c.in-Ok-Some.field-0-is) c.in-Close.is)

pub returns-in-Ok-None : goal.returns-in-Ok-None
returns-in-Ok-None c =
    nothing-carried _ c.requires.0 c.tally_sound-in-Ok-None.ensures c.in-Ok-None.is (rw c.in-Ok-None.is at c.in-Ok-None.field-0-is)

pub returns-in-Err : goal.returns-in-Err
returns-in-Err c = none-carried _ c.requires.0 c.tally_sound-in-Err.ensures c.in-Err.is
