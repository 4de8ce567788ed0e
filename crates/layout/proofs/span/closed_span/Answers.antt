-- The words that are read are the entries around the object.
use Rattle.layout.proofs.Spans.{closed-lies}
use Rattle.layout.proofs.span.closed_span.Goals as goal

pub returns : goal.returns
returns c =
    let pre = c.requires in
    rw (c.word.ensures.0, c.word-2.ensures.0, c.word-3.ensures.0, c.word-4.ensures.0, pre.1) (closed-lies pre.0 _ pre.2)
