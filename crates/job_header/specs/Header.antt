-- docs/RULES.md, 12.2 and 12.4: what the code of a job's first three lines answers, by the job.
use Rattle.std.specs.Prelude.{ℕ, ◌≤◌, ◌≡◌, List, length, drop, Result, Ok, Err}
use Rattle.job_lines.specs.Lines.{cut}
use Rattle.model.specs.Judge.{Limits}
use Rattle.job_rules.specs.Job.{Ended, on, bytes_due, starts, refused_at, breach, run}
use Rattle.job_header.specs.declared.Limits.{Limits as Read}
use Rattle.job_header.specs.declared.Header.{Header}
use Rattle.job_rules.specs.declared.Breach.{Breach}

-- the number of the line that starts the session, and of the one behind it
abbrev pub links_line : ℕ
links_line = 3

abbrev pub piece_line : ℕ
piece_line = 4

abbrev pub limits_of : Read → Limits
limits_of m = record { objects = m.objects; links = m.links; bytes = m.bytes }

-- what the rest of the text comes to; the output has room for so many bytes
abbrev pub headed : ℕ → List ℕ → Result Header Breach → Ended
headed room text (Ok h) = run room links_line (cut (drop h.end text)) (starts (limits_of h.limits))
headed room text (Err b) = refused_at breach b.0

abbrev pub place_of : Result Header Breach → ℕ
place_of (Ok h) = h.end
place_of (Err b) = 0

pub record Reads (text : List ℕ) (r : Result Header Breach) : Type 0 where
  pub inside : place_of r ≤ length text
  pub leads : (room : ℕ) → headed room text r ≡ run room 0 (cut text) (on bytes_due)
