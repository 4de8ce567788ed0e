-- The hash of its runs.
use mathlib.Core.Path.{◌∙◌}
use Rattle.session_hash.proofs.Hashes.{hash-runs}
use Rattle.session_index.proofs.Laid.{laid_runs}
use Rattle.session_index.proofs.look.hash_at.Goals as goal

pub hash_of-requires : goal.hash_of-requires
hash_of-requires c = let x = laid_runs c.requires c.runs_of.ensures in (x.bytes_in, x.words_in)

pub returns : goal.returns
returns c = c.hash_of.ensures ∙ hash-runs (laid_runs c.requires c.runs_of.ensures)
