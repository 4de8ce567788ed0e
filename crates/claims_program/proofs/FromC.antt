-- Demands 1 and 3 of the eight C functions, and same root, same bytes, by their contracts alone.
use mathlib.Core.Path.{◌≡◌, ap}
use Rattle.steps.specs.Runs.{Stores, stores_left, lent_step}
use Rattle.claims.specs.Calls.{Answers}
use Rattle.claims.specs.Demand.{Made}
use Rattle.claims_program.specs.Chain.{EveryList, EveryTwo}
use Rattle.claims_program.specs.FromC.{CalledC, c-start, c-open, c-put, c-link, c-close, c-drop, c-tally, c-pack}
use Rattle.claims_program.proofs.Chain.{step-answers, steps-claim, steps-same}

-- the contract makes each the step
pub c-step : (s : Stores) (m : Made) → CalledC s m → m.left ≡ lent_step m.call s
unfolding lent_step
c-step _ _ (c-start f) = ap stores_left f.promised
c-step _ _ (c-open f) = ap stores_left f.promised
c-step _ _ (c-put f) = ap stores_left f.promised
c-step _ _ (c-link f) = ap stores_left f.promised
c-step _ _ (c-close f) = ap stores_left f.promised
c-step _ _ (c-drop f) = ap stores_left f.promised
c-step _ _ (c-tally f) = ap stores_left f.promised
c-step _ _ (c-pack f) = f.promised

pub c-answers : {s : Stores} {m : Made} → CalledC s m → Answers s m.call m.left
c-answers c = step-answers c-step c

pub demand-3-c : EveryList CalledC
demand-3-c = steps-claim c-step

pub same-bytes-c : EveryTwo CalledC
same-bytes-c = steps-same c-step
