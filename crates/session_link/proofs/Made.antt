-- What is judged of the link that code has made is judged of the one asked for.
use Rattle.std.specs.Prelude.{Ok}
use mathlib.Core.Path.{◌≡◌, ap, ◌∙◌}
use Prim.Native.Nat.{ℕ, ◌≤◌}
use mathlib.Core.List.{List}
use mathlib.Core.Bool.{Bool, true}
use native.Mathlib.Omega.{arith}
use Rattle.answer.specs.Tally.{grown}
use Rattle.answer.specs.declared.tally.Tally.{Tally}
use Rattle.model_orders.specs.Object.{Link, widest, slot_ok}
use Rattle.model_orders.proofs.Slots.{width-most, slot-wide}
use Rattle.layout.specs.declared.link.Link as read
use Rattle.layout.specs.Links.{link_in}
use Rattle.steps.specs.Steps.{outcome, made_link, link_words_of}
use Rattle.session_link.specs.Made.{Made}

module _ {width id inner : ℕ} {w : List ℕ} {l : read.Link} (m : Made width id inner w l) where
  pub made-judged : {b : Bool} → b ≡ slot_ok (link_in l).slot → b ≡ slot_ok (made_link width id inner w).slot
  made-judged e = e ∙ ap (λ (x : Link). slot_ok x.slot) m.is

  pub made-narrow : slot_ok (made_link width id inner w).slot ≡ true → l.width ≤ widest
  made-narrow e = omega (arith, m.width_is, width-most width (slot-wide (made_link width id inner w).slot e))

  pub made-left : (b : List ℕ) (t : Tally) → outcome (Ok (grown l.width 1 t)) b (link_words_of (link_in l) w) ≡ outcome (Ok (grown width 1 t)) b (link_words_of (made_link width id inner w) w)
  made-left b t = λ i. outcome (Ok (grown (m.width_is i) 1 t)) b (link_words_of (m.is i) w)
