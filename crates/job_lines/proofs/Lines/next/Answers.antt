-- The part between the reader's place and the next line's is the next line.
use mathlib.Core.Path.{ap, ◌∙◌}
use Prim.Native.Nat.{ℕ}
use Rattle.job_lines.specs.Lines.{between}
use Rattle.job_lines.proofs.Cutting.{line-between}
use Rattle.job_lines.proofs.Lines.next.Goals as goal

pub returns : goal.returns
returns c =
    let d = c.args.self in
    let e = c.past_line-end.ensures in
    (c.between-part.ensures ∙ (ap (λ (m : ℕ). between d.at m d.text.now) e ∙ line-between d.at d.text.now), cc)
