-- By the hashes, then by the objects.
use Rattle.std.proofs.Common.{sym, ◌∙◌}
use borrow.Author.Tests.{ne_eqb}
use Rattle.session_index.proofs.Walks.{other-hash}
use Rattle.session_index.proofs.look.equals.Goals as goal

pub equals_closed-requires : goal.equals_closed-requires
equals_closed-requires c = let p = c.requires in (rw p.ground.closed_is at p.ground, p.inside)

pub returns-else-g-h : goal.returns-else-g-h
returns-else-g-h c = let p = c.requires in ne_eqb _ _ c.if-g-h.false ∙ sym (other-hash _ _ (λ e. c.if-g-h.false (p.closed_hash ∙ e ∙ sym p.hash_is)))
