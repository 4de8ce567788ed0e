-- A table that is read as it stands, by ops and by its reading, whatever else is promoted.
use mathlib.Core.Path.{◌≡◌, refl, ap}
use Prim.Native.Nat.{ℕ, zero, suc}
use mathlib.Core.List.{List}
use Rattle.gsub.specs.Ops.{ops_by, table_ops}
use Rattle.gsub.specs.Meaning.{reading_by, table_reading}
use Rattle.gsub.specs.Promote.{plain, mode_ops, mode_reading}

pub plain-ops : (d : ℕ) (b : List ℕ) → mode_ops d b plain ≡ table_ops d b
unfolding mode_ops table_ops
plain-ops zero b = refl
plain-ops (suc d) b = ap (λ ops. ops_by (λ a. ops) b) (plain-ops d b)

pub plain-reading : (d : ℕ) (b : List ℕ) → mode_reading d b plain ≡ table_reading d b
unfolding mode_reading table_reading
plain-reading zero b = refl
plain-reading (suc d) b = ap (λ rd. reading_by (λ a. rd) b) (plain-reading d b)
