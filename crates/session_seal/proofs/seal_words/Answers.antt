-- The moves and stores are those of the contract, in its order.
use native.Mathlib.Omega.{arith}
use mathlib.Core.Path.{◌∙◌}
use Rattle.memory.proofs.Writes.{moved-over}
use Rattle.session_seal.proofs.Sealed.{seal-done}
use Rattle.session_seal.proofs.seal_words.Goals as goal

pub overflow_sub-s : goal.overflow_sub-s
overflow_sub-s c = omega (arith, c.requires.0)

pub set_word-requires-4 : goal.set_word-requires-4
set_word-requires-4 c = omega (arith, c.requires.0)

pub returns : goal.returns
returns c =
    let p = c.requires in
    let moved = c.move_up.ensures ∙ moved-over _ c.args.records.now _ _ (omega (arith, p.0)) in
    rw (c.set_word-4.ensures, c.set_word-3.ensures, c.set_word-2.ensures, c.set_word.ensures, moved) (seal-done p.0)
