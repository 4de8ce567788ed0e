-- The words first, by what the stores held, then the bytes.
use borrow.Author.Rules.{rules}
use Rattle.layout.proofs.Facts.{sound-known}
use Rattle.session_seal.proofs.seal.Goals as goal

pub seal_bytes-requires : goal.seal_bytes-requires
seal_bytes-requires c =
    let p = c.requires in
    (search rules, search rules, search rules, rw (p.1.to_is, p.0.top_is, p.0.low_is) (sound-known p.0).gap)
