-- As of any table, on the new Extension's bytes.
use mathlib.Core.Path.{refl}
use native.Mathlib.Omega.{arith}
use Rattle.gsub_walk.specs.Rest.{MovesBy}
use Rattle.gsub_walk.proofs.Moves.{new-enters, new-put, new-stop, new_deep, new-begin}
use Rattle.gsub_walk.proofs.walk.step_new.Goals as goal

pub returns-then-w-ge-DEEPEST : goal.returns-then-w-ge-DEEPEST
unfolding MovesBy
returns-then-w-ge-DEEPEST c =
    λ b x. (new_deep _ _ c.requires.4 c.judge.ensures x _ c.in-Follow.is c.if-w-ge-DEEPEST.true, refl)

pub enter-requires : goal.enter-requires
enter-requires c =
    let p = c.requires in
    new-enters _ _ p.4 c.judge.ensures p.0 p.1 p.2 p.3 c.in-Follow.is (omega (arith, c.if-w-ge-DEEPEST.false)) c.advance-in-Follow.ensures

pub returns-in-Keep : goal.returns-in-Keep
returns-in-Keep c =
    λ b x. new-put _ _ c.requires.4 c.judge.ensures x c.in-Keep.is c.advance.ensures

pub returns-in-Refuse : goal.returns-in-Refuse
unfolding MovesBy
returns-in-Refuse c =
    λ b x. (new-stop _ _ c.requires.4 c.judge.ensures x c.in-Refuse.is, refl)

pub returns-else-w-ge-DEEPEST : goal.returns-else-w-ge-DEEPEST
returns-else-w-ge-DEEPEST c =
    λ b x. new-begin _ _ c.requires.4 c.judge.ensures x _ c.in-Follow.is (omega (arith, c.if-w-ge-DEEPEST.false)) c.advance-in-Follow.ensures c.enter.ensures
