-- The words of the buckets cleared, then one closed object more at each turn.
use mathlib.Core.Path.{◌≡◌}
use lib.ListN.{length}
use Rattle.session_index.proofs.Making.{Making}
use Rattle.session_index.proofs.look.make.Given as goal

abbrev pub invariant-loop-i : goal.invariant-loop-i
invariant-loop-i l = (length l.index ≡ length l.initial.index) × Making l.store l.records l.s l.buckets l.i l.index
