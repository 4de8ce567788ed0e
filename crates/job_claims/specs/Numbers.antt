-- docs/RULES.md, 12.4 to 12.6: the numbers that a job may tell.
use Rattle.std.specs.Prelude.{ℕ, List, [], ◌∷◌, Bool, true, false, ◌&&◌, ◌||◌, eqb, ltb, Err, Ok}
use Rattle.job_rules.specs.Job.{most_bytes, Ending}

unfoldable pub among : List ℕ → ℕ → Bool
among [] k = false
among (j ∷ js) k = eqb j k || among js k

-- what it never tells: 1 and 2, since it opens and closes in turn; 9, since nothing is open at its pack; 12, since its stores are sound; and 10, if the
-- output has room for the longest byte store of a job
abbrev pub may_tell : ℕ → ℕ → Bool
may_tell room k = among (3 ∷ 4 ∷ 5 ∷ 6 ∷ 7 ∷ 8 ∷ 11 ∷ 13 ∷ 14 ∷ 16 ∷ []) k || (eqb k 10 && ltb room most_bytes)

abbrev pub tells : ℕ → Ending → Bool
tells room (Ok p) = true
tells room (Err r) = may_tell room r.number
