-- The fields are right exactly if those that are left are, past the last one.
use Rattle.std.proofs.Common.{◌≡◌}
use Rattle.std.specs.Slice.Iter.{chunks_exact_rest, chunks_exact_size}
use Rattle.layout.specs.Words.{link_words, links_of}
use Rattle.layout.specs.Fields.{fields_ok}
use Rattle.sound_object.proofs.object_ok.Given as goal

abbrev pub invariant-loop-words : goal.invariant-loop-words
invariant-loop-words l =
    (chunks_exact_size l.words-iterator ≡ link_words) × (fields_ok l.kids 0 l.bytes (links_of l.links) ≡ fields_ok l.kids l.from l.bytes (links_of (chunks_exact_rest l.words-iterator)))
