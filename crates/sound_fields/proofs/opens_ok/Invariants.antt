-- The open objects are right exactly if those that are left are.
use mathlib.Core.Path.{◌≡◌}
use Prim.Native.Nat.{◌≤◌}
use Rattle.layout.specs.Tables.{for_all}
use Rattle.layout.specs.Words.{closed_count, open_depth}
use Rattle.layout.specs.Fields.{object_ok}
use Rattle.layout.specs.Decode.{open_at}
use Rattle.sound_fields.proofs.opens_ok.Given as goal

abbrev pub invariant-loop-d : goal.invariant-loop-d
invariant-loop-d l =
    let right = for_all (λ k. object_ok (closed_count l.records) (open_at l.store l.records k)) in
    (l.d ≤ open_depth l.records) × (right (open_depth l.records) ≡ right l.d)
