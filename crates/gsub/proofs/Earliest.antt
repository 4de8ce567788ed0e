-- The earliest refusal is told: ops are made one by one, and the first that is refused settles what is told.
use mathlib.Core.Path.{◌≡◌, refl, sym, ap, ◌∙◌}
use Prim.Native.Nat.{ℕ}
use mathlib.Core.List.{List, [], ◌∷◌, ◌++◌}
use mathlib.Core.Bool.{Bool, true, false, true≢false}
use native.Mathlib.Omega.{arith}
use borrow.Author.Tests.{eqb-true, eq-eqb}
use lib.Dec.{eqb}
use Rattle.lists.specs.Lists.{pick, Exactly}
use Rattle.steps.specs.Runs.{StoreCall, open', put as put_call, link as link_call, close}
use Rattle.steps.specs.Mirrored.{Step}
use Rattle.gsub.specs.Ops.{bad_table, Op, begin, put, link, end, stop, Outcome, outcome, perform}
use Rattle.gsub.specs.Refusals.{Reaches, Settles}

module _ {S : Type 0} (call : StoreCall → S → Step S) where
  -- one op alone
  abbrev alone : Op → ℕ → S → Outcome S
  alone o i s = perform call (o ∷ []) i s

  -- what a call told, on its own and with later ops
  goes_on : (t : Step S) (i : ℕ) (later : ℕ → S → Outcome S)
      → pick (eqb t.number 0) (later i t.next) (outcome t.number 0 0 t.next)
      ≡ (let o = pick (eqb t.number 0) (outcome 0 i 0 t.next) (outcome t.number 0 0 t.next) in pick (eqb o.number 0) (later o.id o.next) o)
  goes_on t i later = go (eqb t.number 0) refl
    where
      go : (b : Bool) → eqb t.number 0 ≡ b
          → pick b (later i t.next) (outcome t.number 0 0 t.next)
          ≡ (let o = pick b (outcome 0 i 0 t.next) (outcome t.number 0 0 t.next) in pick (eqb o.number 0) (later o.id o.next) o)
      go true e = refl
      go false e = rw e

  first-op : (o : Op) (ops : List Op) (i : ℕ) (s : S)
      → perform call (o ∷ ops) i s ≡ pick (eqb (alone o i s).number 0) (perform call ops (alone o i s).id (alone o i s).next) (alone o i s)
  unfolding perform
  first-op begin ops i s = goes_on (call open' s) i (perform call ops)
  first-op (put vs) ops i s = goes_on (call (put_call vs) s) i (perform call ops)
  first-op (link w) ops i s = goes_on (call (link_call w i 0) s) i (perform call ops)
  first-op end ops i s = let t = call close s in goes_on t t.id (perform call ops)
  first-op (stop p) ops i s = refl

  at-stop : (ops : List Op) (i : ℕ) (s : S) (place : ℕ) → perform call (stop place ∷ ops) i s ≡ outcome bad_table 0 place s
  unfolding perform
  at-stop ops i s place = refl

  -- a call that is refused tells its own number
  tells : (t : Step S) (i : ℕ) → (t.number ≡ bad_table → ⊥) → (pick (eqb t.number 0) (outcome 0 i 0 t.next) (outcome t.number 0 0 t.next)).number ≡ bad_table → ⊥
  tells t i n = go (eqb t.number 0)
    where
      go : (b : Bool) → (pick b (outcome 0 i 0 t.next) (outcome t.number 0 0 t.next)).number ≡ bad_table → ⊥
      go true e = omega arith
      go false e = n e

  -- ops behind others that are all made
  behind-made : (xs ys : List Op) (i : ℕ) (s : S) → (perform call xs i s).number ≡ 0
      → perform call (xs ++ ys) i s ≡ perform call ys (perform call xs i s).id (perform call xs i s).next
  unfolding perform
  behind-made [] ys i s e = refl
  behind-made (o ∷ xs) ys i s e =
      let a = alone o i s in
      first-op o (xs ++ ys) i s ∙ go (behind-made xs ys a.id a.next) (eqb a.number 0) refl (ap (λ (r : Outcome S). r.number) (sym (first-op o xs i s)) ∙ e) ∙ rw (← first-op o xs i s)
    where
      at : List Op → Bool → Outcome S
      at ops t = pick t (perform call ops (alone o i s).id (alone o i s).next) (alone o i s)

      go : ((perform call xs (alone o i s).id (alone o i s).next).number ≡ 0
          → perform call (xs ++ ys) (alone o i s).id (alone o i s).next ≡ perform call ys (perform call xs (alone o i s).id (alone o i s).next).id (perform call xs (alone o i s).id (alone o i s).next).next)
          → (t : Bool) → eqb (alone o i s).number 0 ≡ t → (at xs t).number ≡ 0 → at (xs ++ ys) t ≡ perform call ys (at xs t).id (at xs t).next
      go r true f z = r z
      go r false f z = absurd (let q : eqb (alone o i s).number 0 ≡ true = eq-eqb _ 0 z in true≢false (sym q ∙ f))

  -- one op more in front of those that are made
  one_more : {o x : Op} {ops : List Op} (i : ℕ) (s : S) → (alone x i s).number ≡ 0 → Reaches call ops (alone x i s).id (alone x i s).next o → Reaches call (x ∷ ops) i s o
  one_more {x = x} i s e r = record {
    before = x ∷ r.before;
    behind = r.behind;
    whole = ap (◌∷◌ x) r.whole;
    made = ap (λ (t : Outcome S). t.number) (behind-made (x ∷ []) r.before i s e) ∙ r.made;
  }

  -- the first op that is refused settles what is told
  pub earliest : (ops : List Op) (i : ℕ) (s : S) → ((perform call ops i s).number ≡ 0 → ⊥) → Settles call ops i s
  unfolding perform one_more
  earliest [] i s n = absurd (n refl)
  earliest (x ∷ ops) i s n = go (earliest ops (alone x i s).id (alone x i s).next) (eqb (alone x i s).number 0) refl
    where
      go : (((perform call ops (alone x i s).id (alone x i s).next).number ≡ 0 → ⊥) → Settles call ops (alone x i s).id (alone x i s).next) → (t : Bool) → eqb (alone x i s).number 0 ≡ t → Settles call (x ∷ ops) i s
      go r true f =
          let e = eqb-true _ 0 f in
          let p = behind-made (x ∷ []) ops i s e in
          let t = r (λ z. n (ap (λ (o : Outcome S). o.number) p ∙ z)) in
          let q = behind-made (x ∷ []) t.reaches.before i s e in
          record { refused = t.refused; reaches = one_more i s e t.reaches; settles = p ∙ t.settles ∙ ap (λ (u : Outcome S). perform call (t.refused ∷ []) u.id u.next) (sym q) }
      go r false f = record { refused = x; reaches = record { before = []; behind = ops; whole = refl; made = refl }; settles = first-op x ops i s ∙ rw f }

  -- 15 is told with a place exactly where a stop with that place is reached
  module _ (never : (c : StoreCall) (s : S) → (call c s).number ≡ bad_table → ⊥) where
    stopped : (x : Op) (i : ℕ) (s : S) (place : ℕ) → (alone x i s).number ≡ bad_table → (alone x i s).place ≡ place → x ≡ stop place
    unfolding perform
    stopped begin i s place e q = absurd (tells (call open' s) i (never open' s) e)
    stopped (put vs) i s place e q = absurd (tells (call (put_call vs) s) i (never (put_call vs) s) e)
    stopped (link w) i s place e q = absurd (tells (call (link_call w i 0) s) i (never (link_call w i 0) s) e)
    stopped end i s place e q = let t = call close s in absurd (tells t t.id (never close s) e)
    stopped (stop p) i s place e q = ap stop q

    pub told-stop : (ops : List Op) (i : ℕ) (s : S) (place : ℕ)
        → Exactly (((perform call ops i s).number ≡ bad_table) × ((perform call ops i s).place ≡ place)) (Reaches call ops i s (stop place))
    told-stop ops i s place = record { only = only; when = when }
      where
        only : ((perform call ops i s).number ≡ bad_table) × ((perform call ops i s).place ≡ place) → Reaches call ops i s (stop place)
        only (e, q) =
            let t = earliest ops i s (λ z. omega arith) in
            let u = perform call t.reaches.before i s in
            let x = stopped t.refused u.id u.next place (ap (λ (o : Outcome S). o.number) (sym t.settles) ∙ e) (ap (λ (o : Outcome S). o.place) (sym t.settles) ∙ q) in
            rw x at t.reaches

        when : Reaches call ops i s (stop place) → ((perform call ops i s).number ≡ bad_table) × ((perform call ops i s).place ≡ place)
        when r =
            let u = perform call r.before i s in
            let p = ap (λ (o : List Op). perform call o i s) r.whole ∙ behind-made r.before (stop place ∷ r.behind) i s r.made ∙ at-stop r.behind u.id u.next place in
            rw p (refl, refl)
