-- Two words are read, and the edges are known.
use Rattle.layout.proofs.Spans.{inner-lies}
use Rattle.layout.proofs.span.innermost.Goals as goal

pub returns : goal.returns
returns c =
    let pre = c.requires in
    rw (c.word.ensures.0, c.word-2.ensures.0) (inner-lies pre.0 pre.1)
