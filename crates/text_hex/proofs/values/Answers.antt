-- At first every character has the value of none.
use native.Mathlib.Omega.{arith}
use borrow.Author.Tests.{le-ltb}
use Rattle.std.proofs.lemmas.List.{get_or-replicate}
use Rattle.text.specs.Digits.{value_of}
use Rattle.text_hex.proofs.values.Goals as goal

pub loop-d-init : goal.loop-d-init
loop-d-init c = λ x h. rw (le-ltb (value_of x) 0 (omega arith)) (get_or-replicate 256 x 16 0 h)
