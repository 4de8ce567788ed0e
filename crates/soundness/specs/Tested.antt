-- docs/RULES.md, 5.1: the stores are tested before anything else; 12 comes with no counts, since there is nothing to count.
use Rattle.std.specs.Prelude.{Bool, true, false, Result, Ok, Err}
use Rattle.answer.specs.Number.{no_tally}
use Rattle.answer.specs.declared.Refused.{Refused}
use Rattle.answer.specs.declared.Refusal.TheVariants as Refusal

abbrev pub no_session : Refused
no_session = record { why = Refusal.Unsound; tally = no_tally }

-- what a test tells, by whether the stores are sound
abbrev pub tested : Bool → Result (Unit {0}) Refused
tested true = Ok tt
tested false = Err no_session
