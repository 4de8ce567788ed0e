-- A run without a line feed is passed; the first of another is that of the text, as is the first of what is left.
use Rattle.std.proofs.Common.{length, ◌∙◌, arith}
use Rattle.lists.proofs.Runs.{length_part}
use Rattle.cable_scan.proofs.Front.{run-rest, run-inside, run-byte, found-later, missed-later, rest-byte}
use Rattle.cable_scan.proofs.first_feed.Goals as goal

pub returns-in-Some-run_feed : goal.returns-in-Some-run_feed
returns-in-Some-run_feed c =
    let l = c.loop-run in
    let t = c.args.text.now in
    let next = c.in-Some.ensures.steps in
    let left = l.invariant.2 ∙ next.1.0 in
    let size = next.1.1 ∙ l.invariant.0 in
    let inside = run-inside t l.from _ _ left size l.invariant.1 in
    let found = c.in-Some-run_feed in
    found-later t l.from _ (run-byte t l.from _ _ left size) (omega arith) l.invariant.3 found.k found.ensures.0 found.ensures.1

pub loop-run-preserved : goal.loop-run-preserved
loop-run-preserved c =
    let l = c.loop-run in
    let t = c.args.text.now in
    let next = c.in-Some.ensures.steps in
    let left = l.invariant.2 ∙ next.1.0 in
    let size = next.1.1 ∙ l.invariant.0 in
    let inside = run-inside t l.from _ _ left size l.invariant.1 in
    (next.0 ∙ l.invariant.0, inside, run-rest t l.from _ _ left size, missed-later t l.from _ (run-byte t l.from _ _ left size) (omega arith) l.invariant.3 c.in_default.ensures _ (omega arith))

pub returns : goal.returns
returns c =
    let l = c.loop-run in
    let t = c.args.text.now in
    let found = c.in_ok-k in
    let size = length_part l.from (length t) t (omega arith) in
    found-later t l.from _ (λ i h. rest-byte t l.from i h l.invariant.1) (omega (arith, l.invariant.1)) l.invariant.3 found.k found.ensures.0 found.ensures.1

pub returns-in_err-k : goal.returns-in_err-k
returns-in_err-k c =
    let l = c.loop-run in
    let t = c.args.text.now in
    let size = length_part l.from (length t) t (omega arith) in
    rw c.from_residual.ensures (missed-later t l.from _ (λ i h. rest-byte t l.from i h l.invariant.1) (omega (arith, l.invariant.1)) l.invariant.3 c.in_err-k.ensures _ (omega (arith, l.invariant.1)))
