-- The low byte picks an entry of the table.
use borrow.Author.Rules.{rules}
use Rattle.cable_crc.proofs.Division.{by-table}
use Rattle.cable_crc.proofs.next.Goals as goal

pub returns : goal.returns
returns c = by-table _ c.requires c.args.remainder c.args.byte (search rules)
