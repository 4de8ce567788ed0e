-- The zeros of `clear`, and three stores.
use Rattle.std.proofs.Common.{zero-le, ◌∙◌}
use native.Mathlib.Nat.{sub-zero}
use Rattle.memory.proofs.Writes.{cleared-over}
use Rattle.session_start.proofs.start_words.Goals as goal

pub returns : goal.returns
returns c =
    let cleared = c.clear.ensures ∙ cleared-over 0 c.args.records.now c.need-end.result zero-le in
    rw (c.set_word-3.ensures, c.set_word-2.ensures, c.set_word.ensures, cleared, c.need-end.ensures, sub-zero)
