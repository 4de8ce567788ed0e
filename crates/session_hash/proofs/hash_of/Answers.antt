-- The bytes, then the words of the links.
use Rattle.session_hash.specs.Hash.{hash_by}
use Rattle.session_hash.proofs.hash_of.Goals as goal

pub returns : goal.returns
unfolding hash_by
returns c = rw (c.mix_words.ensures.0, c.mix_bytes.ensures.0, c.bytes.ensures, c.links.ensures)
