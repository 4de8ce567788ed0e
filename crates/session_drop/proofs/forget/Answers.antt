-- The innermost object's bytes are cleared, and the count of open objects is one less.
use Rattle.std.proofs.Common.{arith, ◌∙◌}
use Rattle.memory.proofs.Writes.{cleared-over}
use Rattle.session_drop.proofs.forget.Goals as goal

pub returns-clause-bytes : goal.returns-clause-bytes
returns-clause-bytes c =
    let p = c.requires.0 in
    let cleared = c.clear.ensures ∙ cleared-over c.args.own.from c.args.store.now c.args.own.to (omega arith) in
    rw (cleared, p.is)

pub returns-clause-words : goal.returns-clause-words
returns-clause-words c = let p = c.requires.0 in rw (c.set_word.ensures, p.words.is)
