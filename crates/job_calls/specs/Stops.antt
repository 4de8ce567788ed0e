-- docs/RULES.md, 12.5 and 12.6: the number of what ends a job at a line.
use Rattle.std.specs.Prelude.{ℕ}
use Rattle.answer.specs.Number.{number}
use Rattle.job_rules.specs.Job.{breach}
use Rattle.job_calls.specs.declared.stop.Stop.{Stop}
use Rattle.job_calls.specs.declared.stop.Stop.TheVariants.{Breach, Call}

abbrev pub number_of : Stop → ℕ
number_of Breach = breach
number_of (Call why) = number why
