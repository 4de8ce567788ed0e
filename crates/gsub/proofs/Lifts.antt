-- Ops made on two stores come to what they come to on the history that the stores hold.
use mathlib.Core.Path.{◌≡◌, refl, sym, subst}
use Prim.Native.Nat.{ℕ}
use mathlib.Core.List.{List, [], ◌∷◌}
use mathlib.Core.Bool.{Bool, true, false}
use lib.Dec.{eqb}
use Rattle.lists.specs.Lists.{pick}
use Rattle.model.specs.Judge.{Limits}
use Rattle.model.specs.History.{History}
use Rattle.steps.specs.Runs.{StoreCall, Stores, as_call, needs_with}
use Rattle.steps.specs.Runs as calls
use Rattle.steps.specs.Mirrored.{Step, by_stores, by_history}
use Rattle.steps.proofs.Mirrored.{Stands, SameStep, one-agrees}
use Rattle.gsub.specs.Ops.{Op, begin, put, link, end, stop, Outcome, outcome, go_on, perform}

pub record SameOutcome (o : Outcome Stores) (p : Outcome History) : Type 0 where
  pub number_same : o.number ≡ p.number
  pub id_same : o.id ≡ p.id
  pub place_same : o.place ≡ p.place
  pub stands : Stands o.next p.next

go-on : {t : Step Stores} {u : Step History} {o : Outcome Stores} {p : Outcome History} → SameStep Stands t u → SameOutcome o p → SameOutcome (go_on t o) (go_on u p)
go-on {t} {u} {o} {p} s l = rw s.number_same (go (eqb u.number 0))
  where
    go : (x : Bool) → SameOutcome (pick x o (outcome u.number 0 0 t.next)) (pick x p (outcome u.number 0 0 u.next))
    go true = l
    go false = record { number_same = refl; id_same = refl; place_same = refl; stands = s.stands }

module _ (work : Limits → ℕ → ℕ) (store records : ℕ) where
  abbrev call : StoreCall → History → Step History
  call = by_history (needs_with work) store records

  record Agreeing (ops : List Op) : Type 0 where
    agree : (i : ℕ) (s : Stores) (h : History) → Stands s h → SameOutcome (perform by_stores ops i s) (perform call ops i h)

  none-agree : Agreeing []
  unfolding perform
  none-agree = record { agree = λ i s h k. record { number_same = refl; id_same = refl; place_same = refl; stands = k } }

  stop-agree : (p : ℕ) (ops : List Op) → Agreeing (stop p ∷ ops)
  unfolding perform
  stop-agree p ops = record { agree = λ i s h k. record { number_same = refl; id_same = refl; place_same = refl; stands = k } }

  -- one op more
  module _ (ops : List Op) (later : Agreeing ops) where
    begin-agree : Agreeing (begin ∷ ops)
    unfolding perform as_call
    begin-agree = record { agree = λ i s h k. let z = one-agrees work store records calls.open' k refl in go-on z (later.agree i _ _ z.stands) }

    put-agree : (vs : List ℕ) → Agreeing (put vs ∷ ops)
    unfolding perform as_call
    put-agree vs = record { agree = λ i s h k. let z = one-agrees work store records (calls.put vs) k refl in go-on z (later.agree i _ _ z.stands) }

    link-agree : (w : ℕ) → Agreeing (link w ∷ ops)
    unfolding perform as_call
    link-agree w = record { agree = λ i s h k. let z = one-agrees work store records (calls.link w i 0) k refl in go-on z (later.agree i _ _ z.stands) }

    end-agree : Agreeing (end ∷ ops)
    unfolding perform as_call
    end-agree = record {
      agree = λ i s h k.
          let z = one-agrees work store records calls.close k refl in
          subst (λ j. SameOutcome (go_on (by_stores calls.close s) (perform by_stores ops j (by_stores calls.close s).next)) (perform call (end ∷ ops) i h)) (sym z.id_same)
          (go-on z (later.agree (call calls.close h).id _ _ z.stands));
    }

  agreeing : (ops : List Op) → Agreeing ops
  agreeing [] = none-agree
  agreeing (begin ∷ ops) = begin-agree ops (agreeing ops)
  agreeing (put vs ∷ ops) = put-agree ops (agreeing ops) vs
  agreeing (link w ∷ ops) = link-agree ops (agreeing ops) w
  agreeing (end ∷ ops) = end-agree ops (agreeing ops)
  agreeing (stop p ∷ ops) = stop-agree p ops

  pub ops-agree : (ops : List Op) (i : ℕ) (s : Stores) (h : History) → Stands s h → SameOutcome (perform by_stores ops i s) (perform call ops i h)
  ops-agree ops = (agreeing ops).agree
