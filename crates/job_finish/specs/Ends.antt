-- docs/RULES.md, 12.7: what the code of a job's end answers, by the job.
use Rattle.std.specs.Prelude.{ℕ, ◌+◌, ◌≤◌, ◌≡◌, List, true, length, drop}
use Rattle.lists.specs.Lists.{over}
use Rattle.job_lines.specs.Lines.{cut}
use Rattle.layout.specs.Words.{object_limit, link_limit}
use Rattle.layout.specs.Sound.{sound}
use Rattle.work.specs.Areas.{work_need}
use Rattle.job_calls.specs.Leads.{is_on, meant}
use Rattle.job_rules.specs.Job.{most_text, copies_allowed, Ending, Ended, run}
use Rattle.job_header.specs.Header.{piece_line}
use Rattle.job_rest.specs.declared.Halt.{Halt}

-- the answer is the job's, and the job's table stands in front of the output
pub record Ends (e : Ended) (r : Ending) (out out' : List ℕ) : Type 0 where
  pub ending : r ≡ e.ending
  pub output : out' ≡ over 0 e.table out

-- sound stores, and work memory for their limits; a line's number is small
pub record Packable (line : ℕ) (b w m : List ℕ) : Type 0 where
  pub is_sound : sound b w ≡ true
  pub long : work_need (object_limit w) (link_limit w) copies_allowed ≤ length m
  pub small : line ≤ most_text + piece_line

pub record Finishing (text : List ℕ) (h : Halt) (b w m : List ℕ) : Type 0 where
  pub packable : Packable h.line b w m
  pub over : is_on h.lead ≡ true → length text ≤ h.at

pub record Finishes (text : List ℕ) (h : Halt) (b w : List ℕ) (r : Ending) (out out' : List ℕ) : Type 0 where
  pub ends : (ids : List ℕ) → Ends (run (length out) h.line (cut (drop h.at text)) (meant h.lead b w ids)) r out out'
