-- Each call is its step.
use Rattle.std.specs.Prelude.{Option, Some, None, Result, Ok, Err}
use mathlib.Core.Path.{◌≡◌, sym, ap, subst, ◌∙◌}
use mathlib.Core.Bool.{true}
use Prim.Native.Nat.{ℕ, ◌≤◌}
use mathlib.Core.List.{List}
use lib.ListN.{length, take}
use Rattle.answer.specs.Answers.{Answer}
use Rattle.answer.specs.declared.tally.Tally.{Tally}
use Rattle.model.specs.Judge.{verdict}
use Rattle.layout.specs.Sound.{sound}
use Rattle.steps.specs.Steps.{outcome, tally_in, open_step, put_step, link_step, drop_step, tally_step}
use Rattle.steps.specs.Runs.{StoreCall, tally, left_by, step_on}
use Rattle.session_batch_words.specs.declared.Call.{Call}
use Rattle.session_batch_words.specs.declared.NoCall.{NoCall}
use Rattle.session_batch_calls.specs.Carried.{call_by, CallOk, CarriedBy}

-- what the words say, by its parts
pub read_as : {n : Result (Option Call) NoCall} {x : Option Call} {c m : Call} → n ≡ Ok x → x ≡ Some c → c ≡ m → n ≡ Ok (Some m)
read_as e f g = e ∙ ap (λ o. Ok o) (f ∙ ap (λ c. Some c) g)

pub put-ok : (bytes : List ℕ) (n : Result (Option Call) NoCall) (k : ℕ) → n ≡ Ok (Some (Call.Put k)) → CallOk bytes n → k ≤ length bytes
unfolding CallOk
put-ok bytes n k e h = subst (CallOk bytes) e h

module _ (bytes : List ℕ) {n : Result (Option Call) NoCall} {b w b' w' : List ℕ} {r : Answer} where
  by_call : {m : Result (Option Call) NoCall} → n ≡ m → CarriedBy (call_by bytes m) b w r b' w' → CarriedBy (call_by bytes n) b w r b' w'
  by_call e k = subst (λ m. CarriedBy (call_by bytes m) b w r b' w') (sym e) k

  pub open-carried : n ≡ Ok (Some Call.Open) → outcome r b' w' ≡ open_step b w → CarriedBy (call_by bytes n) b w r b' w'
  unfolding call_by step_on
  open-carried e h = by_call e (record { is = ap left_by h })

  pub put-carried : (k : ℕ) → n ≡ Ok (Some (Call.Put k)) → outcome r b' w' ≡ put_step (take k bytes) b w → CarriedBy (call_by bytes n) b w r b' w'
  unfolding call_by step_on
  put-carried k e h = by_call e (record { is = ap left_by h })

  pub link-carried : (width id inner : ℕ) → n ≡ Ok (Some (Call.Link width id inner)) → outcome r b' w' ≡ link_step width id inner b w → CarriedBy (call_by bytes n) b w r b' w'
  unfolding call_by step_on
  link-carried width id inner e h = by_call e (record { is = ap left_by h })

  pub drop-carried : n ≡ Ok (Some Call.Drop) → outcome r b' w' ≡ drop_step b w → CarriedBy (call_by bytes n) b w r b' w'
  unfolding call_by step_on
  drop-carried e h = by_call e (record { is = ap left_by h })

-- what is no such call
tally-told : (b w : List ℕ) (t : Tally) → sound b w ≡ true → t ≡ tally_in b w → outcome (Ok t) b w ≡ tally_step b w
unfolding tally_step verdict
tally-told b w t h e = rw (h, e)

tally-carried : {c : StoreCall} {b w : List ℕ} {t : Tally} → sound b w ≡ true → t ≡ tally_in b w → c ≡ tally → CarriedBy c b w (Ok t) b w
unfolding step_on
tally-carried {c} {b} {w} {t} h e d = subst (λ c. CarriedBy c b w (Ok t) b w) (sym d) (record { is = ap left_by (tally-told b w t h e) })

module _ (bytes : List ℕ) {n : Result (Option Call) NoCall} {b w : List ℕ} {t : Tally} (h : sound b w ≡ true) (e : t ≡ tally_in b w) where
  pub close-carried : n ≡ Ok (Some Call.Close) → CarriedBy (call_by bytes n) b w (Ok t) b w
  unfolding call_by
  close-carried d = tally-carried h e (ap (call_by bytes) d)

  pub nothing-carried : {x : Option Call} → n ≡ Ok x → x ≡ None → CarriedBy (call_by bytes n) b w (Ok t) b w
  unfolding call_by
  nothing-carried d f = tally-carried h e (ap (call_by bytes) (d ∙ ap (λ o. Ok o) f))

  pub none-carried : {x : NoCall} → n ≡ Err x → CarriedBy (call_by bytes n) b w (Ok t) b w
  unfolding call_by
  none-carried d = tally-carried h e (ap (call_by bytes) d)
