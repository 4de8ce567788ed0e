-- Two objects are the same exactly if their runs are.
use Rattle.std.proofs.Common.{sym, ◌∙◌}
use Rattle.session_find.proofs.Looks.{closed-runs, same_runs}
use Rattle.session_find.proofs.equals_closed.Goals as goal

pub closed_span-requires : goal.closed_span-requires
closed_span-requires c = let g = c.requires.0 in (g.tested, g.objects_is, c.requires.1)

pub same_runs-requires : goal.same_runs-requires
same_runs-requires c =
    let g = c.requires.0 in
    let o = closed-runs g c.runs_of.ensures c.closed_span.ensures in
    (g.inner_runs.bytes_in, g.inner_runs.words_in, o.bytes_in, o.words_in)

pub returns : goal.returns
returns c =
    let g = c.requires.0 in
    let o = closed-runs g c.runs_of.ensures c.closed_span.ensures in
    c.same_runs.ensures ∙ sym (same_runs g.inner_runs o)
