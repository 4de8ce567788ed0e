-- What is left of the line, from how far it agrees now, gives how far all of it does.
use lib.ListN.{drop}
use mathlib.Core.Bool.{true}
use mathlib.Core.Path.{◌≡◌}
use Rattle.cable_scan.specs.Lines.{quiet}
use Rattle.cable_scan.specs.Scan.{line_on}
use Rattle.cable_scan.proofs.line_after.Given as goal

abbrev pub invariant-loop-b : goal.invariant-loop-b
invariant-loop-b l = (quiet (drop l.b-index l.bytes) ≡ true) × (line_on l.state (drop l.b-index l.bytes) ≡ line_on l.line l.bytes)
