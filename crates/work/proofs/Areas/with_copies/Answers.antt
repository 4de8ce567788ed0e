-- Room for a graph and its copies.
use borrow.Author.Rules.{rules}
use native.Mathlib.Omega.{arith}
use Rattle.work.proofs.Room.{room_small}
use Rattle.work.proofs.Areas.with_copies.Goals as goal

pub overflow_mul-links : goal.overflow_mul-links
overflow_mul-links c = let room = room_small c.args.links c.args.copies (omega (arith, c.requires.1)) c.requires.2 in search rules

pub of-requires : goal.of-requires
of-requires c = let room = room_small c.args.links c.args.copies (omega (arith, c.requires.1)) c.requires.2 in search rules
