-- Stores that hold no session: a call hands the test's refusal on.
use mathlib.Core.Path.{◌≡◌, refl, ap, ◌∙◌}
use mathlib.Core.Bool.{true}
use mathlib.Core.List.{List}
use Prim.Native.Nat.{ℕ}
use Rattle.std.specs.Prelude.{Err, IsErrAnd}
use Rattle.std.proofs.lemmas.Result.{err_from_is_err_and}
use Rattle.answer.specs.Answers.{Answer, Closing}
use Rattle.answer.specs.declared.Refused.{Refused}
use Rattle.model.specs.Told.{told_by, told_by_close, refused_told}
use Rattle.layout.specs.Sound.{sound}
use Rattle.soundness.specs.Tested.{tested}
use Rattle.soundness.proofs.Telling.{tested-err}
use Rattle.steps.specs.Runs.{StoreCall, stores, left, step_on}
use Rattle.steps.proofs.Works.{asks, unsound-told}

module _ (b w : List ℕ) (c : StoreCall) (k : asks c ≡ true) {e : Refused} (h : Err e ≡ tested (sound b w)) where
  refused : left (refused_told e.why e.tally) b w ≡ step_on c (stores b w)
  refused = let f = tested-err _ h in ap (λ (z : Refused). left (refused_told z.why z.tally) b w) f.1 ∙ unsound-told c k refl f.0

  pub call-unsound : (r : Answer) → IsErrAnd r (λ y. y ≡ e) → left (told_by r) b w ≡ step_on c (stores b w)
  call-unsound r q = let p = err_from_is_err_and r q in rw (p.1, p.2) refused

  pub close-unsound : (r : Closing) → IsErrAnd r (λ y. y ≡ e) → left (told_by_close r) b w ≡ step_on c (stores b w)
  close-unsound r q = let p = err_from_is_err_and r q in rw (p.1, p.2) refused
