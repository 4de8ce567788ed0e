-- Words of the record store past its need, by the limits that a call leaves there: an accepted call never touches them.
use mathlib.Core.Path.{◌≡◌, refl, sym, subst}
use Prim.Native.Nat.{ℕ}
use mathlib.Core.List.{List}
use mathlib.Core.Bool.{true}
use lib.ListN.{drop}
use Rattle.model.specs.Judge.{Limits, accepted, verdict}
use Rattle.layout.specs.Words.{limits_in}
use Rattle.steps.specs.Steps.{limits_of, start_step}
use Rattle.steps.specs.Runs.{StoreCall, start, open', put, link, close, drop as drop', tally, Stores, step_on, on_stores}
use Rattle.steps.proofs.Works.{asks}
use Rattle.steps.proofs.Surplus.{Past, start-past, limits-noted, past-stands, limits-stay}
use Rattle.claims.specs.Calls.{tests_of, records_needed}

module _ (s : Stores) where
  abbrev w : List ℕ
  w = s.words

  abbrev accepts : StoreCall → Type 0
  accepts c = verdict (tests_of s (on_stores c)) ≡ accepted

  -- past the need for the limits that it leaves
  abbrev pub Surplus : StoreCall → Type 0
  Surplus c = let l = (step_on c s).stores in drop (records_needed l) l.words ≡ drop (records_needed l) w

  by-limits : (c : StoreCall) (m : Limits) → limits_in (step_on c s).stores.words ≡ m → Past s m c → Surplus c
  by-limits c m e p = subst (λ x. Past s x c) (sym e) p

  started : (objects links : ℕ) → accepts (start objects links) → Surplus (start objects links)
  unfolding tests_of step_on start_step
  started objects links e = by-limits (start objects links) (limits_of objects links s.bytes) (limits-noted s objects links (rw e)) (start-past s objects links)

  others : (c : StoreCall) → asks c ≡ true → Surplus c
  others c k = by-limits c (limits_in w) (limits-stay s c k) (past-stands s c k)

  pub accepted-surplus : (c : StoreCall) → accepts c → Surplus c
  accepted-surplus (start objects links) e = started objects links e
  accepted-surplus open' e = others open' refl
  accepted-surplus (put vs) e = others (put vs) refl
  accepted-surplus (link width id inner) e = others (link width id inner) refl
  accepted-surplus close e = others close refl
  accepted-surplus drop' e = others drop' refl
  accepted-surplus tally e = others tally refl
