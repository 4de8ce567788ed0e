-- A small object has none; of another the links that are left tell.
use Rattle.std.proofs.Common.{◌≡◌, true}
use Rattle.std.specs.Slice.Iter.{chunks_exact_rest, chunks_exact_size}
use Rattle.model_orders.specs.Object.{any_hopeless, slots_of}
use Rattle.layout.specs.Words.{link_words, links_of}
use Rattle.layout.specs.Fields.{slots_ok}
use Rattle.sound_fields.proofs.hopeless.any_hopeless.Given as goal

abbrev pub invariant-loop-words : goal.invariant-loop-words
invariant-loop-words l =
    let left = slots_of (links_of (chunks_exact_rest l.words-iterator)) in
    (chunks_exact_size l.words-iterator ≡ link_words) × (slots_ok left ≡ true) × (any_hopeless l.size (slots_of (links_of l.links)) ≡ any_hopeless l.size left)
