-- The table's rule is tested once over all of its entries; the checker computes the test.
use mathlib.Core.Path.{refl}
use Rattle.lists.proofs.Tables.{everywhere}
use Rattle.cable_crc.proofs.Xor.{quick_xor}
use Rattle.cable_crc.proofs.Division.{quick_bits, right_remainder, right-table}
use Rattle.cable_crc.proofs.remainders.Goals as goal

pub returns : goal.returns
unfolding everywhere right_remainder quick_bits quick_xor
returns c = right-table _ refl refl
