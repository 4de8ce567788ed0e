-- The first place that an iterator gives is that of the first byte that passes its test.
use Rattle.std.proofs.Common.{◌≡◌, ℕ, zero, suc, ◌+◌, ◌-◌, List, [], ◌∷◌, Option, Some, None, Bool, length, get_or, sym, ap, subst, ◌∙◌, arith, ⊎_elim}
use Rattle.std.proofs.lemmas.Bool.{cases_Bool, cases_eq, cond-true, cond-false, false≢true}
use Rattle.memchr.specs.Find.{TakesFirst, IsFirstByte, Passes, Nowhere, NoneBefore, places_from, places}

module _ (test : ℕ → Bool) (hay : List ℕ) where
  none-left : (i n j : ℕ) → i + n ≡ j → [] ≡ places_from test hay i n → Nowhere (Passes test hay) i j
  unfolding places_from
  none-left i zero j ends e = λ k low high. absurd (omega arith)
  none-left i (suc n) j ends e =
      ⊎_elim
      (λ t. absurd (omega (arith, ap length (e ∙ cond-true _ _ _ t))))
      (λ f. λ k low high p.
      ⊎_elim (λ same. false≢true (sym f ∙ subst (Passes test hay) same p)) (λ other. none-left (i + 1) n j (omega arith) (e ∙ cond-false _ _ _ f) k (omega arith) high p) (cases_eq k i))
      (cases_Bool (test (get_or hay i 0)))

  first-left : (i n j k : ℕ) (l : List ℕ) → i + n ≡ j → k ∷ l ≡ places_from test hay i n → NoneBefore (Passes test hay) i j k × Passes test hay k
  unfolding places_from
  first-left i zero j k l ends e = absurd (omega (arith, ap length e))
  first-left i (suc n) j k l ends e =
      ⊎_elim
      (λ t.
      let here : i ≡ k = sym (ap (λ m. get_or m 0 0) (e ∙ cond-true _ _ _ t)) in
      (record { low = omega arith; high = omega arith; before = λ m low high. absurd (omega arith) }, subst (Passes test hay) here t))
      (λ f.
      let later = first-left (i + 1) n j k l (omega arith) (e ∙ cond-false _ _ _ f) in
      let before : Nowhere (Passes test hay) i k = λ m low high p.
      ⊎_elim (λ same. false≢true (sym f ∙ subst (Passes test hay) same p)) (λ other. later.0.before m (omega arith) high p) (cases_eq m i) in
      (record { low = omega (arith, later.0.low); high = later.0.high; before = before }, later.1))
      (cases_Bool (test (get_or hay i 0)))

  pub first-given : (s l : List ℕ) (r : Option ℕ) → s ≡ places test hay → TakesFirst s r l → IsFirstByte test hay r
  first-given s l None e h = none-left 0 (length hay - 0) (length hay) (omega arith) (sym h.0 ∙ e)
  first-given s l (Some k) e h = first-left 0 (length hay - 0) (length hay) k l (omega arith) (sym h ∙ e)
