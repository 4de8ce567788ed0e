-- What it lends is enough for any job.
use Rattle.job_run.proofs.Whole.{job-long, job-run}
use Rattle.job_run.proofs.run_job.Goals as goal

pub returns-then-text-gt-MOST_TEXT : goal.returns-then-text-gt-MOST_TEXT
returns-then-text-gt-MOST_TEXT c = let e = job-long c.args.text.now _ c.if-text-gt-MOST_TEXT.true in (rw c.into.ensures e.ending, e.output)

pub returns : goal.returns
returns c =
    let args = c.args in
    let if1 = c.if-text-gt-MOST_TEXT in
    let run-text = c.run_text in
    let e = job-run args.text.now _ if1.false run-text.ensures in
    (e.ending, e.output)
