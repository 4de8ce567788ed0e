-- Calls that are the steps, however they are known: demand 1 of each, demand 3 of every list of them, and of every two lists that the same root gives the same bytes.
use mathlib.Core.Path.{◌≡◌, refl, ap, ◌∙◌}
use mathlib.Core.List.{List, ◌∷◌}
use lib.ListN.{length}
use Rattle.model.specs.History.{begun}
use Rattle.steps.specs.Steps.{limits_of}
use Rattle.steps.specs.Runs.{start, Stores, on_stores, pack, lent_step}
use Rattle.claims.specs.Calls.{Answers}
use Rattle.claims.specs.Demand.{Made, run, AllClaim}
use Rattle.claims.proofs.Calls.{answers}
use Rattle.claims.proofs.Demand.{demand-3}
use Rattle.claims.proofs.Theorems.{same_bytes}
use Rattle.claims_program.specs.Chain.{Ran, none, more, calls_of, EveryList, Written, stores_now, EveryTwo}

module _ {called : Stores → Made → Type 0} (step : (s : Stores) (m : Made) → called s m → m.left ≡ lent_step m.call s) where
  pub ran-run : {s : Stores} {ms : List Made} → Ran called s ms → ms ≡ run (calls_of ms) s
  unfolding run
  ran-run none = refl
  ran-run (more {s = s} {m = m} {ms = ms} c r) = ap (◌∷◌ m) (ran-run r) ∙ ap (λ l. record { call = m.call; left = l } ∷ run (calls_of ms) l.stores) (step s m c)

  pub step-answers : {s : Stores} {m : Made} → called s m → Answers s m.call m.left
  step-answers {s = s} {m = m} c = rw (step s m c) (answers s m.call)

  pub steps-claim : EveryList called
  unfolding lent_step
  steps-claim objects links s first ms c e z r =
      let l : first.left ≡ lent_step (on_stores (start objects links)) s = rw e at (step s first c) in
      rw (ran-run r, l) (demand-3 objects links s (rw l at z) (calls_of ms))

  written-claim : (f : Written called) → AllClaim (length f.lent.bytes) (length f.lent.words) f.calls f.first.left.stores (begun (limits_of f.objects f.links f.lent.bytes))
  written-claim f = steps-claim f.objects f.links f.lent f.first f.calls f.starts f.start_is f.accepted f.ran

  pub steps-same : EveryTwo called
  steps-same f f' id id' copies out out' work work' l l' c c' g g' e =
      let p : l ≡ lent_step (pack id copies out work) (stores_now f) = step (stores_now f) _ c in
      let q : l' ≡ lent_step (pack id' copies out' work') (stores_now f') = step (stores_now f') _ c' in
      rw (p, q) (same_bytes _ _ _ _ _ (written-claim f) _ _ _ _ _ (written-claim f') id id' copies out out' work work' (rw p at g) (rw q at g') e)
