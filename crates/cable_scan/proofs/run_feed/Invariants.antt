-- No line feed was passed.
use Rattle.memchr.specs.Find.{Nowhere, Passes, is_byte}
use Rattle.cable_frame.specs.Frame.{line_feed}
use Rattle.cable_scan.proofs.run_feed.Given as goal

abbrev pub invariant-loop-i : goal.invariant-loop-i
invariant-loop-i l = Nowhere (Passes (is_byte line_feed) l.run) 0 l.i
