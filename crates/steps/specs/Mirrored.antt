-- docs/RULES.md, section 8: one call on the two stores, and the same call on the history that they hold.
use Rattle.std.specs.Prelude.{ℕ}
use Rattle.model.specs.Session.{Needs, session_call}
use Rattle.model.specs.History.{History, expected, after}
use Rattle.steps.specs.Runs.{StoreCall, Stores, step_on, as_call}

-- what a call told, and what it left
pub record Step (S : Type 0) : Type 0 where
  pub number : ℕ
  pub id : ℕ
  pub next : S

abbrev pub by_stores : StoreCall → Stores → Step Stores
by_stores c s = let l = step_on c s in record { number = l.told.number; id = l.told.id; next = l.stores }

-- in stores of these lengths
abbrev pub by_history : Needs → ℕ → ℕ → StoreCall → History → Step History
by_history n bytes words c h =
    let t = expected n (as_call bytes words c) h in
    record { number = t.number; id = t.id; next = after n (session_call (as_call bytes words c)) h }
