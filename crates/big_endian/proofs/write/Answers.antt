-- `write` meets its contract: a field of no bytes changes nothing, any other is written short or long.
use mathlib.Core.Path.{sym}
use native.Mathlib.Omega.{arith}
use Rattle.big_endian.proofs.Turns.{write-end}
use Rattle.big_endian.proofs.write.Goals as goal

pub returns-in-0 : goal.returns-in-0
returns-in-0 c =
    let args = c.args in
    sym (write-end args.at args.width args.n args.out.now (omega arith))
