-- `capacity` meets its contract: 1 shifted left by eight bits for each byte.
use Rattle.big_endian.proofs.Laws.{capacity-shift}
use Rattle.big_endian.proofs.capacity.Goals as goal

pub returns : goal.returns
returns c = capacity-shift c.args.width c.requires
