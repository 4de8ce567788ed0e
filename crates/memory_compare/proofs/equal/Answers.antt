-- Their lengths or the last of both may tell them apart at once, and else `==` does.
use Rattle.std.proofs.Common.{sym, ◌∙◌}
use Rattle.memory_compare.proofs.Compares.{same_pointwise, length-differs, last_differs}
use Rattle.memory_compare.proofs.equal.Goals as goal
use Rattle.memory_compare.proofs.equal.Goals.{then-s-t, else-s-t}

pub returns-then-eq : goal.returns-then-eq
returns-then-eq g c = c.eq-then-eq.ensures ∙ sym (same_pointwise g.T.PartialEq.eq c.args.s.now c.args.t.now)

pub returns-else-eq : goal.returns-else-eq
returns-else-eq g c =
    let s = c.args.s.now in
    let t = c.args.t.now in
    c.if-eq.false
    ∙ elim c.if-s-t.branch [
      | then-s-t w ↦
          sym (
          last_differs g.T.PartialEq.eq s t w.last.result w.last-then-s-t.result w.last.ensures.value w.last-then-s-t.ensures.value
          (sym w.eq.ensures ∙ sym w.value-is ∙ c.if-eq.false)
          )
      | else-s-t w ↦ sym (length-differs g.T.PartialEq.eq s t w.if-s-t.false)
    ]
