-- The loop over the trials: what the look comes to from here on is what the whole comes to.
use Rattle.std.specs.Prelude.{Ok, Err}
use mathlib.Core.Path.{◌≡◌, refl, sym, ap, ◌∙◌}
use Prim.Native.Nat.{ℕ, zero, suc, ◌+◌, ◌-◌, ◌≤◌, ◌<◌}
use mathlib.Core.List.{List}
use mathlib.Core.Bool.{Bool, true, false, ◌&&◌, true≢false}
use native.Mathlib.Numerals.{add-one}
use native.Mathlib.Omega.{arith}
use borrow.Author.Tests.{ltb-true, ltb-false}
use lib.Dec.{eqb, ltb}
use lib.ListN.{length}
use Rattle.lists.proofs.Same.{and_left, and_right}
use Rattle.answer.specs.Number.{number}
use Rattle.answer.specs.declared.Refusal.{Refusal}
use Rattle.model.specs.Told.{Told}
use Rattle.steps.specs.Runs.{Stores, Left, left, start, step_on}
use Rattle.gsub.specs.declared.Scope.{Scope}
use Rattle.gsub_read.specs.declared.answers.Unread.{Unread}
use Rattle.gsub_read.specs.declared.answers.Unread.TheVariants.{Refused}
use Rattle.gsub_promote.specs.declared.answers.Promoted.{Promoted}
use Rattle.gsub_promote.specs.Search.{Lent, trial, left_by, overflows, promote_left, ended, look_from, lookup_count, promote_step}
use Rattle.gsub_promote.specs.Tried.{Tried, told_by_promote, standing, TriedBy}

module _ (scope : Scope) (b : List ℕ) (objects links : ℕ) where
  -- a trial that is not refused 11 ends the look, and so does the last
  stops : (more n : ℕ) (x : Lent) → overflows (trial scope b objects links n x) ≡ false → look_from scope b objects links more n x ≡ ended objects links n x (trial scope b objects links n x)
  unfolding look_from
  stops zero n x e = refl
  stops (suc more) n x e = rw e

  last : (more n : ℕ) (x : Lent) → more ≡ 0 → look_from scope b objects links more n x ≡ ended objects links n x (trial scope b objects links n x)
  unfolding look_from
  last more n x e = rw e

  next : (more n : ℕ) (x : Lent) → overflows (trial scope b objects links n x) ≡ true → look_from scope b objects links (suc more) n x ≡ look_from scope b objects links more (suc n) (left_by (trial scope b objects links n x))
  unfolding look_from
  next more n x e = rw e

  -- n lookups are tried next, in the memory x; at first it was x₀
  pub record Looking (x₀ : Lent) (most n : ℕ) (x : Lent) : Type 0 where
    pub same : promote_step scope b objects links x₀ ≡ look_from scope b objects links (most - n) n x
    pub few : n ≤ most
    pub bytes-kept : length x.stores.bytes ≡ length x₀.stores.bytes
    pub words-kept : length x.stores.words ≡ length x₀.stores.words
    pub out-kept : length x.out ≡ length x₀.out
    pub work-kept : length x.work ≡ length x₀.work

  pub none-looked : {x₀ : Lent} {most : ℕ} → most ≡ lookup_count b → Looking x₀ most 0 x₀
  unfolding promote_step
  none-looked {x₀} e =
      let d : lookup_count b ≡ lookup_count b - 0 = omega arith in
      record { same = rw e (ap (λ m. look_from scope b objects links m 0 x₀) d); few = omega arith; bytes-kept = refl; words-kept = refl; out-kept = refl; work-kept = refl }

  -- the trial of n in x comes to r, and leaves y
  abbrev Came : ℕ → Lent → Tried → Lent → Type 0
  Came n x r y = TriedBy objects links n x (trial scope b objects links n x) r y

  module _ {x₀ : Lent} {most n : ℕ} {x : Lent} (k : Looking x₀ most n x) (y : Lent) where
    pub look-unread : (u : Unread) → Came n x (Err u) y → standing (Err u) y ≡ promote_step scope b objects links x₀
    unfolding TriedBy
    look-unread u h = h.1 ∙ sym (k.same ∙ stops (most - n) n x h.0)

    pub look-packed : (p : Promoted) → Came n x (Ok (Ok p)) y → standing (Ok p) y ≡ promote_step scope b objects links x₀
    unfolding TriedBy
    look-packed p h = h.1 ∙ sym (k.same ∙ stops (most - n) n x h.0)

    module _ (why : Refusal) (h : Came n x (Ok (Err why)) y) where
      module _ {go : Bool} (g : go ≡ (eqb (number why) 11 && ltb n most)) where
        pub look-refused : go ≡ false → {told : Told} {s : Stores} → left told s.bytes s.words ≡ step_on (start objects links) y.stores
            → promote_left (told_by_promote (Err (Refused why))) s y.out y.work ≡ promote_step scope b objects links x₀
        unfolding TriedBy
        look-refused m r = ap (λ (l : Left). promote_left (told_by_promote (Err (Refused why))) l.stores y.out y.work) r ∙ h.2 ∙ sym (k.same ∙ over (eqb (number why) 11) refl (ltb n most) refl)
          where
            over : (u : Bool) → eqb (number why) 11 ≡ u → (v : Bool) → ltb n most ≡ v → look_from scope b objects links (most - n) n x ≡ ended objects links n x (trial scope b objects links n x)
            over true i true j = absurd (true≢false (sym (g ∙ rw (i, j)) ∙ m))
            over true i false j = last (most - n) n x (omega (arith, ltb-false n most j))
            over false i v j = stops (most - n) n x (h.0 ∙ i)

        pub look-less : go ≡ true → n < most
        look-less m = ltb-true n most (and_right (eqb (number why) 11) (ltb n most) (sym g ∙ m))

        pub look-on : go ≡ true → length y.stores.bytes ≡ length x.stores.bytes → length y.stores.words ≡ length x.stores.words → length y.out ≡ length x.out → length y.work ≡ length x.work
            → Looking x₀ most (n + 1) y
        unfolding TriedBy
        look-on m p q u v =
            let below : n < most = look-less m in
            let d : most - n ≡ suc (most - (n + 1)) = omega arith in
            let o : overflows (trial scope b objects links n x) ≡ true = h.0 ∙ and_left (eqb (number why) 11) (ltb n most) (sym g ∙ m) in
            record {
              same = k.same ∙ ap (λ z. look_from scope b objects links z n x) d ∙ next (most - (n + 1)) n x o ∙ ap (λ z. look_from scope b objects links (most - (n + 1)) (suc n) z) (sym h.1) ∙ ap (λ z. look_from scope b objects links (most - (n + 1)) z y) (sym (add-one n));
              few = omega arith;
              bytes-kept = p ∙ k.bytes-kept;
              words-kept = q ∙ k.words-kept;
              out-kept = u ∙ k.out-kept;
              work-kept = v ∙ k.work-kept;
            }
