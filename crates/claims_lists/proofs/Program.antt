-- Demand 3 of lists of the eight functions, the read, the batch and the promotion, and of the C functions, by their contracts alone.
use Rattle.steps.specs.Runs.{Stores}
use Rattle.claims_program.proofs.Program.{called-step}
use Rattle.claims_program.proofs.FromC.{c-step}
use Rattle.claims_lists.specs.Lists.{AnyMade, EveryAnyList}
use Rattle.claims_lists.specs.Program.{MadeOn, by_call, by_read, by-read-whole, by-batch, by-promote, by-promote-whole, MadeOnC, c_call, c_read, c-read-whole, c-batch, c-promote, c-promote-whole}
use Rattle.claims_lists.proofs.Lists.{IsStep, any-claim}

-- the contract makes each its step
any_step : (s : Stores) (x : AnyMade) → MadeOn s x → IsStep s x
unfolding IsStep
any_step s _ (by_call {m = m} c) = called-step s m c
any_step _ _ (by_read f) = f.promised
any_step _ _ (by-read-whole f) = f.promised
any_step _ _ (by-batch f) = f.promised
any_step _ _ (by-promote f) = f.promised
any_step _ _ (by-promote-whole f) = f.promised

any-step-c : (s : Stores) (x : AnyMade) → MadeOnC s x → IsStep s x
unfolding IsStep
any-step-c s _ (c_call {m = m} c) = c-step s m c
any-step-c _ _ (c_read f) = f.promised
any-step-c _ _ (c-read-whole f) = f.promised
any-step-c _ _ (c-batch f) = f.promised
any-step-c _ _ (c-promote f) = f.promised
any-step-c _ _ (c-promote-whole f) = f.promised

pub demand-3-any : EveryAnyList MadeOn
demand-3-any = any-claim any_step

pub demand-3-any-c : EveryAnyList MadeOnC
demand-3-any-c = any-claim any-step-c
