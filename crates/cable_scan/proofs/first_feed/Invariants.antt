-- No line feed was passed, and what is left of the front follows.
use Rattle.std.proofs.Common.{◌≡◌, ◌≤◌, length, drop}
use Rattle.memchr.specs.Find.{Nowhere, Passes, is_byte}
use Rattle.cable_frame.specs.Frame.{line_feed}
use Rattle.cable_scan.proofs.Front.{run_size, front}
use Rattle.cable_scan.proofs.first_feed.Given as goal

abbrev pub invariant-loop-run : goal.invariant-loop-run
invariant-loop-run l =
    (l.run-iterator.size ≡ run_size) × (l.from ≤ length l.text) × (drop l.from (front l.text) ≡ l.run-iterator.rest.now) × Nowhere (Passes (is_byte line_feed) l.text) 0 l.from
