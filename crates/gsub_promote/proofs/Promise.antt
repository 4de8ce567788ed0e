-- docs/RULES.md, section 15: what a promotion tells and leaves, from its definition alone:
--   15.4  the least number of lookups: `promote-ends` (Least); each trial starts afresh: `afresh-at` (Afresh); the first is the read: `first_reads`
--   15.5  accepted: the root's reading, and the table read again: `found`
--   15.6  11 exactly if every trial is refused 11, with the last one's link: `eleven-exactly`, `last-link`
--   15.7  no lookups beside a refusal: `none_beside`; the session freshly started: `refused-fresh`; a refused start leaves all memory as it was: `untouched`
--   15.8  the session calls that it stands for: `promote-listed`; accepted, it is a trial's read and pack: `found-trial`
--   No 15 comes from how deep tables lie: `mode-deep-enough` (gsub Depth)
use mathlib.Core.Path.{◌≡◌, refl, sym, ap, subst, ◌∙◌}
use Prim.Native.Nat.{ℕ, suc, ◌≤◌, ◌<◌}
use mathlib.Core.List.{List, [], ◌∷◌}
use mathlib.Core.Bool.{Bool, true, false, true≢false}
use native.Mathlib.Decide.{dec_le}
use native.Mathlib.Omega.{arith}
use borrow.Author.Tests.{eqb-true, eqb-false, eq-eqb, ne_eqb}
use lib.ListN.{length}
use lib.Dec.{eqb}
use Rattle.lists.specs.Lists.{pick, Exactly}
use Rattle.model_orders.specs.Reading.{reading_at, readings}
use Rattle.model.specs.Judge.{Limits}
use Rattle.layout.specs.Decode.{decode}
use Rattle.steps.specs.Runs.{StoreCall, Stores, start, step_on, left_after, needs_with}
use Rattle.gsub.specs.declared.Scope.{Scope}
use Rattle.gsub.specs.declared.Mode.TheVariants.{Last as last}
use Rattle.gsub.specs.Meaning.{gsub_reading}
use Rattle.gsub.specs.Substitute.{substitute, substitute_from}
use Rattle.gsub.specs.Promote.{trial_ops, trial_reading}
use Rattle.gsub.proofs.Unpromoted.{none-promoted}
use Rattle.gsub.proofs.Substitutes.{substitute-read}
use Rattle.gsub.proofs.Promoted.{trial-substitutes}
use Rattle.gsub_read.specs.Read.{ops_step, read_step, ops_calls}
use Rattle.gsub_read.proofs.Fresh.{refused-stands}
use Rattle.gsub_read.proofs.Listed.{refused-fresh as read-fresh, read-listed}
use Rattle.gsub_promote.specs.Search.{Lent, lent, table_in, table_of, Trial, overflows, PromoteLeft, promoted_by, unread, unpacked, ended, lookup_count, promote_step, before, trial_at, promote_calls}
use Rattle.gsub_promote.proofs.Least.{EndsAt, promote-ends}
use Rattle.gsub_promote.proofs.Afresh.{read-never, Afresh, anew, afresh-at, over-read, over-pack}
use Rattle.gsub_promote.proofs.Shown.{in-mode, root-reads, clean, packed-again}

-- ---- the ways that a trial ends

abbrev behind_start : List StoreCall → List StoreCall
behind_start [] = []
behind_start (c ∷ cs) = cs

record Accepted (n : ℕ) (t : Trial) (l : PromoteLeft) : Type 0 where
  read : t.read.told.number ≡ 0
  pack : t.pack.told.number ≡ 0
  is : l ≡ promoted_by n t

module _ (objects links n : ℕ) (y : Lent) (t : Trial) where
  abbrev by : Bool → Bool → PromoteLeft
  by r p = pick r (pick p (promoted_by n t) (unpacked objects links t)) (unread y t)

  ended-done : (ended objects links n y t).told.number ≡ 0 → Accepted n t (ended objects links n y t)
  ended-done z = go (eqb t.read.told.number 0) refl (eqb t.pack.told.number 0) refl z
    where
      go : (r : Bool) → eqb t.read.told.number 0 ≡ r → (p : Bool) → eqb t.pack.told.number 0 ≡ p → (by r p).told.number ≡ 0 → Accepted n t (by r p)
      go true e true f z = record { read = eqb-true _ 0 e; pack = eqb-true _ 0 f; is = refl }
      go true e false f z = absurd (eqb-false _ 0 f z)
      go false e p f z = absurd (eqb-false _ 0 e z)

  ended-none : ((ended objects links n y t).told.number ≡ 0 → ⊥) → (ended objects links n y t).told.lookups ≡ 0
  ended-none w = go (eqb t.read.told.number 0) (eqb t.pack.told.number 0) w
    where
      go : (r p : Bool) → ((by r p).told.number ≡ 0 → ⊥) → (by r p).told.lookups ≡ 0
      go true true w = absurd (w refl)
      go true false w = refl
      go false p w = refl

  over-ended : overflows t ≡ true → ended objects links n y t ≡ unpacked objects links t
  over-ended e = rw (eq-eqb t.read.told.number 0 (over-read t e), ne_eqb t.pack.told.number 0 (λ q. omega (arith, over-pack t e)))

  -- a read does not tell 11
  ended-over : (t.read.told.number ≡ 11 → ⊥) → (ended objects links n y t).told.number ≡ 11 → overflows t ≡ true
  ended-over never z = go (eqb t.read.told.number 0) refl (eqb t.pack.told.number 0) z
    where
      go : (r : Bool) → eqb t.read.told.number 0 ≡ r → (p : Bool) → (by r p).told.number ≡ 11 → overflows t ≡ true
      go true e true z = absurd (omega arith)
      go true e false z = rw (e, eq-eqb t.pack.told.number 11 z)
      go false e p z = absurd (never z)

module _ (scope : Scope) (b : List ℕ) (objects links : ℕ) (x : Lent) where
  abbrev at : ℕ → Trial
  at n = trial_at scope b objects links x n

  abbrev promoted : PromoteLeft
  promoted = promote_step scope b objects links x

  abbrev s₁ : Stores
  s₁ = (step_on (start objects links) x.stores).stores

  ending : EndsAt scope b objects links x 0 (lookup_count b) promoted
  ending = promote-ends scope b objects links x

  abbrev tried : ℕ
  tried = ending.lookups

  abbrev state : Lent
  state = before scope b objects links x tried

  told_is : (ended objects links tried state (at tried)).told.number ≡ promoted.told.number
  told_is = ap (λ l. l.told.number) (sym ending.is)

  earlier : (i : ℕ) → i < tried → overflows (at i) ≡ true
  earlier i l = ending.earlier i (omega arith) l

  pub first_reads : (at 0).read ≡ read_step scope b objects links x.stores
  unfolding before
  first_reads = ap (λ ops. ops_step ops objects links x.stores) (none-promoted scope b)

  -- ---- 11

  last-over : promoted.told.number ≡ 11 → overflows (at tried) ≡ true
  last-over z = ended-over objects links tried state (at tried) (read-never scope b objects links tried state.stores) (told_is ∙ z)

  -- it is the trial of all lookups
  tried-all : promoted.told.number ≡ 11 → tried ≡ lookup_count b
  tried-all z = go (dec_le (suc tried) (lookup_count b))
    where
      go : Dec (suc tried ≤ lookup_count b) → tried ≡ lookup_count b
      go (yes k) = absurd (true≢false (sym (last-over z) ∙ ending.stops k))
      go (no k) = omega (arith, ending.most)

  eleven-all : promoted.told.number ≡ 11 → (i : ℕ) → i ≤ lookup_count b → overflows (at i) ≡ true
  eleven-all z i m = go (dec_le (suc i) tried)
    where
      go : Dec (suc i ≤ tried) → overflows (at i) ≡ true
      go (yes l) = earlier i l
      go (no l) = let q : i ≡ tried = omega (arith, tried-all z) in rw q (last-over z)

  all-eleven : ((i : ℕ) → i ≤ lookup_count b → overflows (at i) ≡ true) → promoted.told.number ≡ 11
  all-eleven h = let o = h tried ending.most in sym told_is ∙ ap (λ l. l.told.number) (over-ended objects links tried state (at tried) o) ∙ over-pack (at tried) o

  pub eleven-exactly : Exactly (promoted.told.number ≡ 11) ((i : ℕ) → i ≤ lookup_count b → overflows (at i) ≡ true)
  eleven-exactly = record { only = eleven-all; when = all-eleven }

  pub last-link : promoted.told.number ≡ 11 → promoted.told.overflow ≡ (at (lookup_count b)).pack.told.overflow
  last-link z =
      ap (λ l. l.told.overflow) (ending.is ∙ over-ended objects links tried state (at tried) (last-over z))
      ∙ ap (λ n. (at n).pack.told.overflow) (tried-all z)

  -- ---- beside and after refusals

  pub none_beside : (promoted.told.number ≡ 0 → ⊥) → promoted.told.lookups ≡ 0
  none_beside w = ap (λ l. l.told.lookups) ending.is ∙ ended-none objects links tried state (at tried) (λ q. w (sym told_is ∙ q))

  module _ (begins : (step_on (start objects links) x.stores).told.number ≡ 0) where
    afresh : Afresh scope b objects links x state
    afresh = afresh-at scope b objects links x begins tried earlier

    pub refused-fresh : (promoted.told.number ≡ 0 → ⊥) → promoted.left.stores ≡ s₁
    refused-fresh w = ap (λ l. l.left.stores) ending.is ∙ go (eqb t.read.told.number 0) refl (eqb t.pack.told.number 0) (λ q. w (sym told_is ∙ q))
      where
        t : Trial
        t = at tried

        go : (r : Bool) → eqb t.read.told.number 0 ≡ r → (p : Bool) → ((by objects links tried state t r p).told.number ≡ 0 → ⊥) → (by objects links tried state t r p).left.stores ≡ s₁
        go true e true w = absurd (w refl)
        go true e false w = anew scope b objects links x tried state afresh (eqb-true _ 0 e)
        go false e p w = read-fresh (trial_ops scope tried b) objects links state.stores w ∙ afresh.same

    -- ---- accepted

    -- l promotes the fewest lookups: its root reads as the table does with these promoted, and so does the table in front of its output, which has the same substitute for every
    -- glyph in every lookup as b has; its stores are those that its session calls leave
    pub record Found (l : PromoteLeft) : Type 0 where
      pub few : l.told.lookups ≤ lookup_count b
      pub earlier-over : (i : ℕ) → i < l.told.lookups → overflows (at i) ≡ true
      pub reads : let s = l.left.stores in reading_at (readings (decode s.bytes s.words).closed) l.told.id ≡ trial_reading scope l.told.lookups b
      pub again : gsub_reading scope (table_of l) ≡ trial_reading scope l.told.lookups b
      pub substitutes : (lookup glyph : ℕ) → substitute_from (table_of l) lookup glyph ≡ substitute_from b lookup glyph
      pub listed : (work : Limits → ℕ → ℕ) → l.left.stores ≡ left_after (ops_calls (needs_with work) (length x.stores.bytes) (length x.stores.words) (trial_ops scope l.told.lookups b) objects links) x.stores

    accepted-found : (n : ℕ) → n ≤ lookup_count b → ((i : ℕ) → i < n → overflows (at i) ≡ true) → (at n).read.told.number ≡ 0 → (at n).pack.told.number ≡ 0 → Found (promoted_by n (at n))
    unfolding ops_calls left_after
    accepted-found n m h r p =
        let y = before scope b objects links x n in
        let a = afresh-at scope b objects links x begins n h in
        let t = packed-again (in-mode scope (last n) b) objects links y.stores r 0 y.out y.work p in
        let c = clean (in-mode scope (last n) b) objects links y.stores r in
        let table = table_in (at n).pack in
        record {
          few = m;
          earlier-over = h;
          reads = root-reads (in-mode scope (last n) b) objects links y.stores r;
          again = t.reading;
          substitutes = λ l g. substitute-read scope table (rw t.ops-same c) l g ∙ ap (λ r. substitute r l g) t.reading ∙ sym (trial-substitutes scope n b c l g);
          listed = λ work.
              read-listed (trial_ops scope n b) objects links y.stores work
              ∙ (λ i. left_after (behind_start (ops_calls (needs_with work) (a.same_bytes i) (a.same_words i) (trial_ops scope n b) objects links)) (a.same i));
        }

    pub found : promoted.told.number ≡ 0 → Found promoted
    found z =
        let d = ended-done objects links tried state (at tried) (told_is ∙ z) in
        subst Found (sym (ending.is ∙ d.is)) (accepted-found tried ending.most earlier d.read d.pack)

    -- it is the trial's own read and pack
    pub record IsTrial (l : PromoteLeft) : Type 0 where
      pub is : l ≡ promoted_by l.told.lookups (at l.told.lookups)
      pub read : (at l.told.lookups).read.told.number ≡ 0
      pub pack : (at l.told.lookups).pack.told.number ≡ 0
      pub afresh : Afresh scope b objects links x (before scope b objects links x l.told.lookups)

    pub found-trial : promoted.told.number ≡ 0 → IsTrial promoted
    found-trial z =
        let d = ended-done objects links tried state (at tried) (told_is ∙ z) in
        subst IsTrial (sym (ending.is ∙ d.is)) (record { is = refl; read = d.read; pack = d.pack; afresh = afresh })

    -- ---- in a list of calls

    begun-listed : (work : Limits → ℕ → ℕ) → promoted.left.stores ≡ left_after (promote_calls (needs_with work) (length x.stores.bytes) (length x.stores.words) scope b objects links promoted.told) x.stores
    unfolding left_after
    begun-listed work = go (eqb promoted.told.number 0) refl
      where
        go : (t : Bool) → eqb promoted.told.number 0 ≡ t
            → promoted.left.stores ≡ left_after (pick t (ops_calls (needs_with work) (length x.stores.bytes) (length x.stores.words) (trial_ops scope promoted.told.lookups b) objects links) (start objects links ∷ [])) x.stores
        go true e = (found (eqb-true _ 0 e)).listed work
        go false e = refused-fresh (eqb-false _ 0 e)

  -- ---- a refused start is the first trial's, which ends the look

  module _ (begins : (step_on (start objects links) x.stores).told.number ≡ 0 → ⊥) where
    unread-first : (ended objects links 0 (before scope b objects links x 0) (at 0)).left ≡ lent s₁ x.out x.work
    unfolding before ops_step
    unread-first = rw (ne_eqb (step_on (start objects links) x.stores).told.number 0 begins, ne_eqb (step_on (start objects links) x.stores).told.number 0 begins)

    first-refused : (at 0).read.told.number ≡ 0 → ⊥
    unfolding before ops_step
    first-refused e = begins (rw (ne_eqb (step_on (start objects links) x.stores).told.number 0 begins) at e)

    tried-first : tried ≡ 0
    tried-first = go (dec_le 1 tried)
      where
        go : Dec (1 ≤ tried) → tried ≡ 0
        go (yes l) = absurd (first-refused (over-read (at 0) (earlier 0 l)))
        go (no l) = omega arith

    pub untouched : promoted.left ≡ x
    untouched =
        ap (λ l. l.left) ending.is
        ∙ ap (λ n. (ended objects links n (before scope b objects links x n) (at n)).left) tried-first
        ∙ unread-first
        ∙ ap (λ s. lent s x.out x.work) (refused-stands objects links x.stores begins)

    pub start-refused : promoted.told.number ≡ 0 → ⊥
    start-refused z = first-refused (subst (λ n. (at n).read.told.number ≡ 0) tried-first (ended-done objects links tried state (at tried) (told_is ∙ z)).read)

  -- ---- in a list of calls

  pub promote-listed : (work : Limits → ℕ → ℕ) → promoted.left.stores ≡ left_after (promote_calls (needs_with work) (length x.stores.bytes) (length x.stores.words) scope b objects links promoted.told) x.stores
  unfolding left_after
  promote-listed work = go (eqb (step_on (start objects links) x.stores).told.number 0) refl
    where
      go : (t : Bool) → eqb (step_on (start objects links) x.stores).told.number 0 ≡ t
          → promoted.left.stores ≡ left_after (promote_calls (needs_with work) (length x.stores.bytes) (length x.stores.words) scope b objects links promoted.told) x.stores
      go true e = begun-listed (eqb-true _ 0 e) work
      go false e =
          let n = eqb-false _ 0 e in
          ap (λ (y : Lent). y.stores) (untouched n) ∙ rw (ne_eqb promoted.told.number 0 (start-refused n)) (sym (refused-stands objects links x.stores n))
