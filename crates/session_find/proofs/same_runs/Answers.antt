-- By their sizes and how many links they have, then by their bytes; what is left is the comparison of the words.
use Rattle.std.proofs.Common.{sym, ap, ◌∙◌, ⊎_elim, ◌&&◌, ◌+◌, eqb}
use mathlib.Core.Bool.{and-false}
use Rattle.lists.specs.Lists.{part, same_list}
use Rattle.lists.proofs.Alike.{runs-differ}
use Rattle.session_find.proofs.same_runs.Goals as goal
use Rattle.session_find.proofs.same_runs.Goals.{then-r-s-2, else-r-s-2}

pub returns-else-equal : goal.returns-else-equal
returns-else-equal c =
    let r = c.args.r in
    let s = c.args.s in
    let p = c.requires in
    c.if-equal.false
    ∙ elim c.if-r-s-2.branch [
      | then-r-s-2 w ↦
          let differ = rw (w.bytes.ensures, w.bytes-then-r-s-2.ensures) at (sym w.equal.ensures ∙ sym w.value-is ∙ c.if-equal.false) in
          ap (λ same. same && same_list eqb (part r.at (r.at + r.words) c.args.records.now) (part s.at (s.at + s.words) c.args.records.now)) (sym differ)
      | else-r-s-2 w ↦
          ⊎_elim (λ h. rw (runs-differ r.at r.words s.at s.words c.args.records.now p.1 p.3 (λ e. h.1 (sym e)), and-false))
          (λ h. rw (runs-differ r.from r.size s.from s.size c.args.store.now p.0 p.2 (λ e. h (sym e))))
          w.if-r-s-2.either
    ]
