-- By what the next words say.
use Rattle.std.proofs.Common.{ap, ◌∙◌}
use Rattle.std.specs.Prelude.{Some, Ok}
use Rattle.session_batch_turn.proofs.Turns.{turned-call, turned-close}
use Rattle.session_batch_turn.proofs.take_turn.Goals as goal

pub returns-in-Close : goal.returns-in-Close
returns-in-Close c =
    turned-close c.requires c.next_call-n.ensures (c.in-Ok-Some.is ∙ ap (λ o. Ok o) ((rw c.in-Ok-Some.is at c.in-Ok-Some.field-0-is) ∙ ap (λ k. Some k) c.in-Close.is)) c.close_turn.ensures c.close_turn.auto.index

pub returns-in_default : goal.returns-in_default
returns-in_default c =
    turned-call c.requires c.next_call-n.ensures (record { call = c.in-Ok-Some.c; is = c.in-Ok-Some.is ∙ ap (λ o. Ok o) (rw c.in-Ok-Some.is at c.in-Ok-Some.field-0-is); other = c.in_default.not-Close }) c.call_turn.ensures
