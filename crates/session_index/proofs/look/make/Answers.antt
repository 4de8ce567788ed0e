-- The words of the buckets cleared, then one closed object more at each turn.
use mathlib.Core.Path.{refl, ◌∙◌}
use Rattle.std.proofs.Common.{zero-le}
use Rattle.memory.proofs.Writes.{cleared-over}
use native.Mathlib.Omega.{arith}
use borrow.Author.Rules.{rules}
use Rattle.layout.proofs.Facts.{words-read}
use Rattle.session_index.proofs.Laid.{laid, hash-lies}
use Rattle.session_index.proofs.Making.{making-none, making-room, making-next, making-all}
use Rattle.session_index.proofs.look.make.Goals as goal

pub loop-i-init : goal.loop-i-init
loop-i-init c =
    let p = c.requires in
    let cleared = c.clear.ensures ∙ cleared-over 0 c.args.index.now _ zero-le in
    (refl, rw cleared (making-none p.0 _ _ p.1 p.2))

pub closed_span-requires : goal.closed_span-requires
closed_span-requires c =
    let r = c.requires.0 in
    ((words-read r).tested, r.objects_is, omega (arith, r.closed_is))

pub hash_at-h-requires : goal.hash_at-h-requires
hash_at-h-requires c = laid c.requires.0 c.closed_span.ensures.within

pub add-requires : goal.add-requires
add-requires c =
    making-room c.requires.0 _ _ c.loop-i.invariant.1 c.loop-i-test.true (hash-lies _ c.hash_at-h.ensures c.closed_span.ensures)

pub loop-i-preserved : goal.loop-i-preserved
loop-i-preserved c =
    let h = hash-lies _ c.hash_at-h.ensures c.closed_span.ensures in
    (search rules, rw c.add.ensures (making-next c.requires.0 _ _ c.loop-i.invariant.1 c.loop-i-test.true h))

pub returns : goal.returns
returns c = making-all c.requires.0 _ _ c.loop-i.invariant.1 c.loop-i-test.false
