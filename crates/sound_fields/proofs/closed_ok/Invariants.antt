-- The closed objects are right exactly if those that are left are.
use mathlib.Core.Path.{◌≡◌}
use Prim.Native.Nat.{◌≤◌}
use Rattle.layout.specs.Tables.{for_all}
use Rattle.layout.specs.Words.{closed_count}
use Rattle.layout.specs.Fields.{closed_ok}
use Rattle.layout.specs.Decode.{closed_at}
use Rattle.sound_fields.proofs.closed_ok.Given as goal

abbrev pub invariant-loop-i : goal.invariant-loop-i
invariant-loop-i l =
    let right = for_all (λ k. closed_ok k (closed_at l.store l.records k)) in
    (l.i ≤ closed_count l.records) × (right (closed_count l.records) ≡ right l.i)
