-- The bytes stand in front of the space that they are read into.
use Rattle.job_calls.proofs.Pairs.{pairs-front}
use Rattle.steps.specs.Steps.{put_step}
use mathlib.Core.List.{List}
use Prim.Native.Nat.{ℕ}
use mathlib.Core.Path.{ap, ◌∙◌}
use Rattle.job_calls.proofs.piece.put_hex.Goals as goal

pub returns : goal.returns
returns c =
    let args = c.args in
    let get_pairs = c.get_pairs in
    let put-sound = c.put_sound in
    put-sound.ensures ∙ ap (λ (vs : List ℕ). put_step vs args.store.now args.records.now) (rw get_pairs.ensures (pairs-front args.pairs.now _))
