-- What is left, scanned on from here, gives the scan of all.
use lib.ListN.{length, drop}
use Prim.Native.Nat.{◌-◌, ◌≤◌}
use mathlib.Core.Path.{◌≡◌}
use Rattle.cable_scan.specs.Scan.{scan_on}
use Rattle.cable_scan.proofs.scan.Given as goal

abbrev pub invariant-loop-size : goal.invariant-loop-size
invariant-loop-size l = (l.from ≤ length l.text) × (scan_on l.from l.state (drop l.from l.text) ≡ scan_on 0 l.line l.text)

abbrev pub decreases-loop-size : goal.decreases-loop-size
decreases-loop-size l = length l.text - l.from
