-- docs/RULES.md, 12.6: what the code of a line answers, by the turn that the line leads to; the stores and the ids are those after it.
use Rattle.std.specs.Prelude.{ℕ, ◌≤◌, ◌≡◌, List, Bool, true, false, take, Option, Some, None, is_some, unwrap_or, Result, Ok, Err}
use Rattle.layout.specs.Words.{limits_in}
use Rattle.layout.specs.Sound.{sound}
use Rattle.layout.specs.Decode.{decode}
use Rattle.job_rules.specs.Job.{Turn, on, stop, packs, writing, writes}
use Rattle.job_calls.specs.Stops.{number_of}
use Rattle.job_calls.specs.declared.stop.Stop.{Stop}
use Rattle.job_calls.specs.declared.line.Lead.{Lead}

abbrev pub goes_on : Result Lead Stop → Option ℕ
goes_on (Ok (Lead.On k)) = Some k
goes_on (Ok (Lead.Packs root)) = None
goes_on (Err s) = None

abbrev pub is_on : Result Lead Stop → Bool
is_on r = is_some (goes_on r)

abbrev pub count_of : Result Lead Stop → ℕ
count_of r = unwrap_or (goes_on r) 0

-- the stores hold the session, and the first ids are known
abbrev pub meant : Result Lead Stop → List ℕ → List ℕ → List ℕ → Turn
meant (Ok (Lead.On k)) b w ids = on (writing (decode b w) (take k ids))
meant (Ok (Lead.Packs root)) b w ids = packs (decode b w) root.0
meant (Err s) b w ids = stop (number_of s)

-- from the record words w₀; at most k ids are known then
pub record Leads (t : Turn) (k : ℕ) (w₀ : List ℕ) (r : Result Lead Stop) (b w ids : List ℕ) : Type 0 where
  pub is_sound : sound b w ≡ true
  pub limits : limits_in w ≡ limits_in w₀
  pub few : count_of r ≤ k
  pub leads : meant r b w ids ≡ t

-- an object opened and its first bytes put: number n is told, and the stores go from b and w to b' and w'
pub record Writes (vs b w : List ℕ) (n : ℕ) (b' w' : List ℕ) : Type 0 where
  pub is_sound : sound b' w' ≡ true
  pub limits : limits_in w' ≡ limits_in w
  pub done : (ids : List ℕ) → n ≡ 0 → writes vs ids (decode b w) ≡ on (writing (decode b' w') ids)
  pub stopped : (ids : List ℕ) → (n ≡ 0 → ⊥) → writes vs ids (decode b w) ≡ stop n
