-- docs/RULES.md, 12.4: what a job's code is lent, and which headers it goes on from.
use Rattle.std.specs.Prelude.{ℕ, ◌*◌, ◌≤◌, ◌≡◌, List, true, length}
use Rattle.layout.specs.Words.{need}
use Rattle.work.specs.Areas.{work_need}
use Rattle.lists.specs.Lists.{holds}
use Rattle.job_rules.specs.Job.{most_text, most_bytes, most_objects, most_links, copies_allowed, in_job}
use Rattle.job_header.specs.Header.{limits_of}
use Rattle.job_header.specs.declared.Header.{Header}
use Rattle.job_rest.specs.Halts.{most_pieces}

-- enough for any job: a byte store, record words and work memory for the greatest limits, an id for each piece line, and room for the bytes of any line's
-- hex pairs
pub record Lends (b w ids space m : List ℕ) : Type 0 where
  pub bytes : most_bytes ≤ length b
  pub words : need most_objects most_links ≤ length w
  pub known : most_pieces ≤ length ids
  pub room : most_text ≤ length space * 2
  pub work : work_need most_objects most_links copies_allowed ≤ length m

-- its limits are a job's
pub record Ranged (text : List ℕ) (h : Header) : Type 0 where
  pub short : length text ≤ most_text
  pub inside : h.end ≤ length text
  pub within : holds (in_job (limits_of h.limits)) ≡ true
