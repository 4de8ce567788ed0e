-- `run` meets its contract.
use Rattle.std.proofs.Common.{rules}
use Rattle.cable_crc.specs.Crc.{divided}
use Rattle.cable_crc.proofs.run.Goals as goal

pub returns : goal.returns
unfolding divided
returns c = search rules
