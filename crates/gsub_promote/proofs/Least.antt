-- The look ends at the least number of lookups whose trial is not refused 11, or else at all of them.
use mathlib.Core.Path.{◌≡◌, refl, subst}
use Prim.Native.Nat.{ℕ, zero, suc, ◌+◌, ◌≤◌, ◌<◌}
use mathlib.Core.List.{List}
use mathlib.Core.Bool.{Bool, true, false}
use native.Mathlib.Decide.{dec_le}
use native.Mathlib.Omega.{arith}
use Rattle.lists.specs.Lists.{pick}
use Rattle.gsub.specs.declared.Scope.{Scope}
use Rattle.gsub_promote.specs.Search.{Lent, Trial, left_by, overflows, PromoteLeft, ended, look_from, lookup_count, promote_step, before, trial_at}

module _ (scope : Scope) (b : List ℕ) (objects links : ℕ) (x : Lent) where
  abbrev at : ℕ → Trial
  at n = trial_at scope b objects links x n

  abbrev state : ℕ → Lent
  state n = before scope b objects links x n

  -- l is what the trial of n tells and leaves; those before it, from m on, are refused 11; it is not, or it is the last
  pub record EndsAt (m last : ℕ) (l : PromoteLeft) : Type 0 where
    pub lookups : ℕ
    pub from : m ≤ lookups
    pub most : lookups ≤ last
    pub is : l ≡ ended objects links lookups (state lookups) (at lookups)
    pub earlier : (i : ℕ) → m ≤ i → i < lookups → overflows (at i) ≡ true
    pub stops : lookups < last → overflows (at lookups) ≡ false

  none_more : (n : ℕ) → EndsAt n (n + 0) (look_from scope b objects links 0 n (state n))
  unfolding look_from
  none_more n = record { lookups = n; from = omega arith; most = omega arith; is = refl; earlier = λ i h l. absurd (omega arith); stops = λ h. absurd (omega arith) }

  one_more : (more n : ℕ) → EndsAt (suc n) (suc n + more) (look_from scope b objects links more (suc n) (state (suc n))) → EndsAt n (n + suc more) (look_from scope b objects links (suc more) n (state n))
  unfolding look_from before
  one_more more n later = go (overflows (at n)) refl
    where
      go : (t : Bool) → overflows (at n) ≡ t → EndsAt n (n + suc more) (pick t (look_from scope b objects links more (suc n) (left_by (at n))) (ended objects links n (state n) (at n)))
      go true e = record {
        lookups = later.lookups;
        from = omega (arith, later.from);
        most = omega (arith, later.most);
        is = later.is;
        earlier = λ i h l. first i h l (dec_le (suc n) i);
        stops = λ h. later.stops (omega arith);
      }
        where
          first : (i : ℕ) → n ≤ i → i < later.lookups → Dec (suc n ≤ i) → overflows (at i) ≡ true
          first i h l (yes q) = later.earlier i q l
          first i h l (no q) = let z : i ≡ n = omega arith in rw z e
      go false e = record { lookups = n; from = omega arith; most = omega arith; is = refl; earlier = λ i h l. absurd (omega arith); stops = λ h. e }

  ends : (more n : ℕ) → EndsAt n (n + more) (look_from scope b objects links more n (state n))
  ends zero n = none_more n
  ends (suc more) n = one_more more n (ends more (suc n))

  pub promote-ends : EndsAt 0 (lookup_count b) (promote_step scope b objects links x)
  unfolding promote_step before
  promote-ends = let e : 0 + lookup_count b ≡ lookup_count b = omega arith in subst (λ last. EndsAt 0 last (look_from scope b objects links (lookup_count b) 0 x)) e (ends (lookup_count b) 0)
