-- 13, or a session with the job's limits.
use mathlib.Core.Path.{sym, ◌∙◌}
use native.Mathlib.Omega.{arith}
use Rattle.job_run.proofs.Whole.{above-there}
use Rattle.job_run.proofs.start.run_limits.Goals as goal

pub returns-then-not-in_job : goal.returns-then-not-in_job
returns-then-not-in_job c =
    let h = c.args.header in
    rw c.into.ensures (above-there c.args.text.now h.end h.limits _ (sym c.in_job.ensures ∙ c.if-not-in_job.true))

pub run_started-requires : goal.run_started-requires
run_started-requires c =
    let r = c.requires in (
      record { short = r.0; inside = r.1; within = sym c.in_job.ensures ∙ c.if-not-in_job.false },
      record { bytes = omega arith; words = omega arith; known = omega arith; room = omega arith; work = omega arith },
    )
