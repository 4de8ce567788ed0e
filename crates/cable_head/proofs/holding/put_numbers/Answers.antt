-- Four numbers, one behind the other.
use Rattle.cable_head.proofs.Heads.{numbers-done}
use Rattle.cable_head.proofs.holding.put_numbers.Goals as goal

pub returns : goal.returns
returns c = numbers-done c.args.len c.args.line c.args.awaiting.number c.args.awaiting.count c.args.head.now _ _ _ _ c.requires c.write.ensures c.write-2.ensures c.write-3.ensures c.write-4.ensures
