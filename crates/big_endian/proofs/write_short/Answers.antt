-- `write_short` meets its contract: its stores are `short-written`'s.
use Rattle.big_endian.proofs.Turns.{short-written}
use Rattle.big_endian.proofs.write_short.Goals as goal

pub returns : goal.returns
returns c =
    let pre = c.requires in
    rw (c.to_be_bytes.ensures, c.saturating_sub.ensures, c.saturating_sub-2.ensures) (short-written _ _ _ _ pre.1 pre.2 pre.0)
