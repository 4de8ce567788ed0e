-- By the first limit that is above a job's.
use Rattle.job_header.specs.Header.{limits_of}
use Rattle.job_rules.specs.Job.{most_bytes, most_objects, most_links, in_job}
use Rattle.lists.proofs.Holds.{holds_not}
use Rattle.lists.specs.Lists.{holds}
use borrow.Author.Tests.{lt-leb, le-leb}
use mathlib.Core.Path.{sym}
use Rattle.job_run.proofs.start.in_job.Goals as goal

pub returns-then-limits-gt-MOST_BYTES : goal.returns-then-limits-gt-MOST_BYTES
returns-then-limits-gt-MOST_BYTES c =
    let args = c.args in
    sym (holds_not (in_job (limits_of args.limits)) 0 (lt-leb args.limits.bytes most_bytes c.if-limits-gt-MOST_BYTES.true))

pub returns-then-limits-gt-MOST_OBJECTS : goal.returns-then-limits-gt-MOST_OBJECTS
returns-then-limits-gt-MOST_OBJECTS c =
    let args = c.args in
    sym (holds_not (in_job (limits_of args.limits)) 1 (lt-leb args.limits.objects most_objects c.if-limits-gt-MOST_OBJECTS.true))

pub returns-then-limits-gt-MOST_LINKS : goal.returns-then-limits-gt-MOST_LINKS
returns-then-limits-gt-MOST_LINKS c =
    let args = c.args in
    sym (holds_not (in_job (limits_of args.limits)) 2 (lt-leb args.limits.links most_links c.if-limits-gt-MOST_LINKS.true))

pub returns : goal.returns
unfolding holds
returns c =
    let args = c.args in
    let if1 = c.if-limits-gt-MOST_BYTES in
    let if2 = c.if-limits-gt-MOST_OBJECTS in
    rw (le-leb args.limits.bytes most_bytes if1.false, le-leb args.limits.objects most_objects if2.false, le-leb args.limits.links most_links c.if-limits-gt-MOST_LINKS.false)
