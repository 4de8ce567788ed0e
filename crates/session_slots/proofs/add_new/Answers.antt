-- Added exactly if the count has risen.
use mathlib.Core.Path.{refl}
use Prim.Native.Nat.{◌≤◌, ◌<◌}
use native.Mathlib.Omega.{arith}
use borrow.Author.Tests.{lt-ltb, le-ltb}
use Rattle.layout.specs.Words.{closed_count}
use Rattle.session_slots.proofs.add_new.Goals as goal

pub returns-then-word-c : goal.returns-then-word-c
returns-then-word-c c =
    let a = c.args in
    let h : closed_count a.records.now ≤ a.c = omega (arith, c.word.ensures.0) in
    rw (le-ltb a.c (closed_count a.records.now) h) refl

pub returns : goal.returns
returns c =
    let a = c.args in
    let h : a.c < closed_count a.records.now = omega (arith, c.word.ensures.0) in
    rw (lt-ltb a.c (closed_count a.records.now) h) c.add.ensures
