-- Demands 1 and 3 of the eight public functions, and same root, same bytes, by their contracts alone.
use mathlib.Core.Path.{◌≡◌, ap}
use Rattle.steps.specs.Runs.{Stores, stores_left, lent_step}
use Rattle.claims.specs.Calls.{Answers}
use Rattle.claims.specs.Demand.{Made}
use Rattle.claims_program.specs.Chain.{EveryList, EveryTwo}
use Rattle.claims_program.specs.Program.{Called, by-start, by-open, by-put, by-link, by-close, by-drop, by-tally, by-pack}
use Rattle.claims_program.proofs.Chain.{step-answers, steps-claim, steps-same}

-- the contract makes each the step
pub called-step : (s : Stores) (m : Made) → Called s m → m.left ≡ lent_step m.call s
unfolding lent_step
called-step _ _ (by-start f) = ap stores_left f.promised
called-step _ _ (by-open f) = ap stores_left f.promised
called-step _ _ (by-put f) = ap stores_left f.promised
called-step _ _ (by-link f) = ap stores_left f.promised
called-step _ _ (by-close f) = ap stores_left f.promised
called-step _ _ (by-drop f) = ap stores_left f.promised
called-step _ _ (by-tally f) = ap stores_left f.promised
called-step _ _ (by-pack f) = f.promised

pub called-answers : {s : Stores} {m : Made} → Called s m → Answers s m.call m.left
called-answers c = step-answers called-step c

pub demand-3-run : EveryList Called
demand-3-run = steps-claim called-step

pub same-bytes-run : EveryTwo Called
same-bytes-run = steps-same called-step
