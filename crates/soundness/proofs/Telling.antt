-- What a test told, as a fact about the stores.
use Prim.Native.Nat.{ℕ}
use mathlib.Core.Path.{◌≡◌, refl}
use mathlib.Core.Bool.{Bool, true, false}
use native.Mathlib.Omega.{arith}
use Rattle.std.specs.Prelude.{Ok, Err}
use Rattle.answer.specs.declared.Refused.{Refused}
use Rattle.soundness.specs.Tested.{tested, no_session}

pub tested-err : (x : Bool) {e : Refused} → Err e ≡ tested x → (x ≡ false) × (e ≡ no_session)
tested-err true h = absurd (let z : ◌≡◌ {A = ℕ} 0 1 = cc in omega arith)
tested-err false h = (refl, cc)

pub tested-ok : (x : Bool) → Ok tt ≡ tested x → x ≡ true
tested-ok true h = refl
tested-ok false h = absurd (let z : ◌≡◌ {A = ℕ} 0 1 = cc in omega arith)
