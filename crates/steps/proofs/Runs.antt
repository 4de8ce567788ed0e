-- No call on the abstract session tells 12.
use mathlib.Core.Path.{◌≡◌, refl}
use mathlib.Core.List.{List}
use mathlib.Core.Bool.{true}
use native.Mathlib.Omega.{arith}
use Rattle.model.specs.Judge.{Test, refused, verdict, Verdict, accepted}
use Rattle.model.specs.Session.{Needs, Session, SessionCall, start_call, open_call, put_call, link_call, close_call, drop_call, tally_call, Left, settle_call, step}
use Rattle.model.proofs.Fair.{fair, fair-verdict}

fair-told : (ts : List Test) → fair ts ≡ true → (a : Session) (l : Left) → l.told.number ≡ 0 → (settle_call (verdict ts) a l).told.number ≡ 12 → ⊥
fair-told ts h a l z = go (verdict ts) refl
  where
    go : (v : Verdict) → verdict ts ≡ v → (settle_call v a l).told.number ≡ 12 → ⊥
    go accepted q e = omega arith
    go (refused why) q e = fair-verdict ts h why q e

pub never-unsound : (n : Needs) (c : SessionCall) (a : Session) → (step n c a).told.number ≡ 12 → ⊥
unfolding step fair
never-unsound n (start_call m records) a = fair-told _ refl a _ refl
never-unsound n open_call a = fair-told _ refl a _ refl
never-unsound n (put_call vs) a = fair-told _ refl a _ refl
never-unsound n (link_call w id i) a = fair-told _ refl a _ refl
never-unsound n close_call a = fair-told _ refl a _ refl
never-unsound n drop_call a = fair-told _ refl a _ refl
never-unsound n tally_call a = fair-told _ refl a _ refl
