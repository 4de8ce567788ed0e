-- By what the first three lines say.
use mathlib.Core.Path.{◌≡◌}
use borrow.Author.Rules.{rules}
use Rattle.job_rules.specs.declared.Breach.{Breach}
use Rattle.job_rules.specs.Job.{breach, refused}
use Rattle.job_run.proofs.Whole.{read-inside, read-there, breach-there}
use Rattle.job_run.proofs.run_text.Goals as goal

pub run_limits-requires : goal.run_limits-requires
run_limits-requires c = (c.requires, read-inside c.read_limits.ensures c.in_ok-header.was)

pub returns-in_err-header : goal.returns-in_err-header
returns-in_err-header c =
    let b : Breach = c.in_err-header.field-0.0 in
    let e : c.from_residual.result ≡ refused breach b.0 = search rules in
    rw e (breach-there c.read_limits.ensures {b = b} c.in_err-header.was _)

pub returns : goal.returns
returns c = read-there c.read_limits.ensures c.in_ok-header.was c.run_limits.ensures
