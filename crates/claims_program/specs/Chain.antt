-- docs/RULES.md, 8.1, 8.11: a call of a function, of which only its contract is known, a list of such calls, and what is claimed of every list and of every two.
use Rattle.std.specs.Prelude.{ℕ, ◌≡◌, List, [], ◌∷◌, map, length}
use borrow.Fn.Kinds.{ParamKind, ResultKind, Dens, res_t, ended_of, Out}
use contract.Lifetimes.{Lfts}
use denote.Triple.Clauses.{AtExit}
use Rattle.model.specs.History.{History, begun}
use Rattle.steps.specs.Steps.{limits_of}
use Rattle.steps.specs.Runs.{StoreCall, start, Stores, Left, LentCall, on_stores, pack, LentLeft, stores_left}
use Rattle.claims.specs.Demand.{Made, stores_after, history_after, AllClaim}
use Rattle.claims.specs.Same.{SameBytes}

-- its arguments, its result, and what it was lent at exit, as the contract relates them
pub record Returned (n : ℕ) (ps : List (ParamKind n)) (r : ResultKind n) (contract : Out n ps r) : Type 0 where
  pub lifetimes : Lfts n
  pub args : Dens lifetimes ps
  pub result : (res_t r lifetimes).Denot
  pub exit : AtExit (ended_of n ps r) lifetimes
  pub promised : contract lifetimes args result exit

-- a call that is lent no more than the stores, with what it left
abbrev pub made : StoreCall → Left → Made
made c l = record { call = on_stores c; left = stores_left l }

-- each of the list gets the stores as the one before left them; `called` says which calls there are on given stores
pub data Ran (called : Stores → Made → Type 0) : Stores → List Made → Type 0 where
  none : {s : Stores} → Ran called s []
  more : {s : Stores} {m : Made} {ms : List Made} → called s m → Ran called m.left.stores ms → Ran called s (m ∷ ms)

-- the calls of a list
abbrev pub calls_of : List Made → List LentCall
calls_of ms = map (λ (m : Made). m.call) ms

-- after an accepted start, whatever the stores held, every list of calls is as the history says
abbrev pub EveryList : (Stores → Made → Type 0) → Type 0
EveryList called =
    (objects links : ℕ) (s : Stores) (first : Made) (ms : List Made) → called s first → first.call ≡ on_stores (start objects links) → first.left.told.number ≡ 0
    → Ran called first.left.stores ms → AllClaim (length s.bytes) (length s.words) ms first.left.stores (begun (limits_of objects links s.bytes))

-- ---- two sessions

-- a session from fresh: an accepted start, whatever the stores held, and the calls after it
pub record Written (called : Stores → Made → Type 0) : Type 0 where
  pub lent : Stores
  pub objects : ℕ
  pub links : ℕ
  pub first : Made
  pub starts : called lent first
  pub start_is : first.call ≡ on_stores (start objects links)
  pub accepted : first.left.told.number ≡ 0
  pub calls : List Made
  pub ran : Ran called first.left.stores calls

module _ {called : Stores → Made → Type 0} (f : Written called) where
  -- what the calls left, and the history of their arguments
  abbrev pub stores_now : Stores
  stores_now = stores_after f.calls f.first.left.stores

  abbrev pub history_now : History
  history_now = history_after (length f.lent.bytes) (length f.lent.words) f.calls (begun (limits_of f.objects f.links f.lent.bytes))

-- same root, same bytes: a pack in each, of roots that read the same, with as many copies allowed
abbrev pub EveryTwo : (Stores → Made → Type 0) → Type 0
EveryTwo called =
    (f f' : Written called) (id id' copies : ℕ) (out out' work work' : List ℕ) (l l' : LentLeft)
    → called (stores_now f) (record { call = pack id copies out work; left = l }) → called (stores_now f') (record { call = pack id' copies out' work'; left = l' })
    → SameBytes (history_now f) (history_now f') id id' copies work work' l l'
