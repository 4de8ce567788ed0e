-- `perform` meets its contract: each move is its op.
use native.Mathlib.Omega.{arith}
use Rattle.gsub_read.proofs.Made.{by_move, stop-performed, done-performed, put-ok, new_ok, link-ok}
use Rattle.gsub_read.proofs.perform.perform.Goals as goal

pub overflow_add-to : goal.overflow_add-to
overflow_add-to c =
    omega (arith, put-ok _ c.in-Put.at c.in-Put.width c.in-Put.is c.requires.1)

pub slice_bounds-put-end : goal.slice_bounds-put-end
slice_bounds-put-end c =
    omega (arith, put-ok _ c.in-Put.at c.in-Put.width c.in-Put.is c.requires.1)

pub put_new-requires : goal.put_new-requires
put_new-requires c =
    (c.requires.0, new_ok _ c.in-New.at c.in-New.width c.in-New.is c.requires.1)

pub overflow_cast-width : goal.overflow_cast-width
overflow_cast-width c =
    omega (arith, link-ok _ c.in-Link.width c.in-Link.is c.requires.1)

pub returns-in-Begin : goal.returns-in-Begin
returns-in-Begin c = by_move _ c.in-Begin.is c.begin.ensures

pub returns-in-Put : goal.returns-in-Put
returns-in-Put c = by_move _ c.in-Put.is c.put.ensures

pub returns-in-New : goal.returns-in-New
returns-in-New c = by_move _ c.in-New.is c.put_new.ensures

pub returns-in-Link : goal.returns-in-Link
returns-in-Link c = by_move _ c.in-Link.is c.link.ensures

pub returns-in-End : goal.returns-in-End
returns-in-End c = by_move _ c.in-End.is (c.end.ensures _)

pub returns-in-Stop : goal.returns-in-Stop
returns-in-Stop c = stop-performed _ _ c.requires.0 _ c.in-Stop.is

pub returns-in-Done : goal.returns-in-Done
returns-in-Done c = done-performed _ _ c.requires.0 c.in-Done.is
