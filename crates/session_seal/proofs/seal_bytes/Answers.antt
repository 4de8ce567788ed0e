-- Moved up to end at `low`, then what they left cleared: the rest is zero already.
use Rattle.std.proofs.Common.{◌+◌, ◌-◌, ◌≡◌, arith, ◌∙◌}
use Rattle.memory.proofs.Writes.{cleared-over, moved-over}
use Rattle.session_seal.proofs.Sealed.{clear-left}
use Rattle.session_seal.proofs.seal_bytes.Goals as goal

pub returns : goal.returns
returns c =
    let a = c.args in
    let r = c.requires in
    let n : a.from + (a.top - a.from) ≡ a.top = omega arith in
    let moved = c.move_up.ensures ∙ moved-over a.from a.store.now (a.low - (a.top - a.from)) (a.top - a.from) (omega arith) in
    c.clear.ensures
    ∙ cleared-over a.from c.move_up.new.s c.min.result (omega arith)
    ∙ rw (c.min.ensures, moved, n) (clear-left a.from a.top a.low _ r.0 r.1 r.2 r.3)
