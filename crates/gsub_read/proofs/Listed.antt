-- What ops tell and leave after a start, of any stores: as the history says, as its session calls leave them, and where it is refused as freshly started.
use mathlib.Core.Path.{◌≡◌, refl, sym, ap, subst, ◌∙◌}
use Prim.Native.Nat.{ℕ}
use mathlib.Core.List.{List, []}
use mathlib.Core.Bool.{Bool, true, false, true≢false, ◌||◌}
use native.Mathlib.Omega.{arith}
use borrow.Author.Tests.{eqb-true, eqb-false, eq-eqb, ne_eqb}
use lib.Dec.{eqb}
use lib.ListN.{length, drop}
use Rattle.lists.specs.Lists.{pick}
use Rattle.answer.specs.Number.{number}
use Rattle.answer.specs.declared.tally.Tally.{Tally}
use Rattle.answer.specs.declared.Refusal.TheVariants as Refusal
use Rattle.model.specs.Judge.{Limits, Tells, none, this, next, start_tests}
use Rattle.model_orders.specs.Reading.{Reading}
use Rattle.model.specs.Session.{Needs}
use Rattle.model.specs.History.{History, counts, begun}
use Rattle.model.proofs.Refusals.{told-exactly}
use Rattle.model.proofs.Mirrors.{mirrors-started}
use Rattle.model.proofs.Closings.{Known}
use Rattle.layout.specs.Words.{need}
use Rattle.steps.specs.Steps.{tally_in, limits_of}
use Rattle.steps.specs.Runs.{StoreCall, Stores, start, step_on, left_after, needs_with}
use Rattle.steps.specs.Mirrored.{by_stores, by_history}
use Rattle.steps.proofs.Steps.{start-drawn}
use Rattle.steps.proofs.Mirrored.{Stands, mirrored-counts}
use Rattle.steps.proofs.Surplus.{need_of}
use Rattle.gsub.specs.declared.Scope.{Scope}
use Rattle.gsub.specs.Ops.{Op, Outcome, perform}
use Rattle.gsub.specs.Meaning.{deepest}
use Rattle.gsub.specs.declared.Mode.TheVariants.{Plain as plain}
use Rattle.gsub.specs.Refusals.{tellable}
use Rattle.gsub.proofs.Plain.{plain-ops}
use Rattle.gsub.proofs.Accepted.{ReadsAs, whole-read}
use Rattle.gsub.proofs.Told.{tells-few}
use Rattle.gsub.proofs.Lifts.{SameOutcome, ops-agree}
use Rattle.gsub_read.specs.Read.{refused_read, done_read, told_of, gsub_ops, ReadLeft, settled, ops_step, calls_in, history_read, ops_expected, read_tells, ops_calls}
use Rattle.gsub_read.proofs.Surplus.{Begun, ops-stay}
use Rattle.gsub_read.proofs.Fresh.{start-number, refused-stands, start-begun, fresh}
use Rattle.gsub_read.proofs.Calls.{ops-listed, same-calls}

-- ---- what ops tell

abbrev counts_in : Stores → Tally
counts_in s = tally_in s.bytes s.words

same-counts : {s : Stores} {h : History} → Stands s h → counts_in s ≡ counts h
same-counts k = mirrored-counts k.drawn k.mirrors

same-told-of : {o : Outcome Stores} {p : Outcome History} → SameOutcome o p → told_of counts_in o ≡ told_of counts p
same-told-of e = rw (e.number_same, e.id_same, e.place_same, same-counts e.stands)

told-number : {S : Type 0} (count : S → Tally) (o : Outcome S) → (told_of count o).number ≡ o.number
told-number count o = go (eqb o.number 0) refl
  where
    go : (x : Bool) → eqb o.number 0 ≡ x → (pick x (done_read o.id (count o.next)) (refused_read o.number o.place)).number ≡ o.number
    go true e = sym (eqb-true _ 0 e)
    go false e = refl

-- the history tells few numbers of these ops, whatever the limits and the stores' lengths
abbrev pub FewTold : List Op → Type 0
FewTold ops = (n : Needs) (bytes words : ℕ) (m : Limits) → tellable (perform (by_history n bytes words) ops 0 (begun m)).number ≡ true

pub few-told : (scope : Scope) (b : List ℕ) → FewTold (gsub_ops scope b)
few-told scope b n bytes words m = rw (plain-ops deepest b) at (tells-few n bytes words scope b plain m)

-- ---- a read by these ops

module _ (ops : List Op) (objects links : ℕ) (s : Stores) where
  abbrev begins : ℕ
  begins = (step_on (start objects links) s).told.number

  abbrev s₁ : Stores
  s₁ = (step_on (start objects links) s).stores

  abbrev m : Limits
  m = limits_of objects links s.bytes

  abbrev came : Outcome Stores
  came = perform by_stores ops 0 s₁

  abbrev read : ReadLeft
  read = ops_step ops objects links s

  begun-stands : begins ≡ 0 → Stands s₁ (begun m)
  begun-stands z = record { session = _; drawn = (start-drawn objects links s z).drawn; mirrors = mirrors-started m }

  begun-read : begins ≡ 0 → read ≡ settled objects links came
  unfolding ops_step
  begun-read z = rw (eq-eqb begins 0 z)

  refused-read : (begins ≡ 0 → ⊥) → read ≡ record { told = refused_read begins 0; stores = s₁ }
  unfolding ops_step
  refused-read n = rw (ne_eqb begins 0 n)

  -- an accepted read: its start is accepted, and its ops are
  record Done : Type 0 where
    begun-done : begins ≡ 0
    came-done : came.number ≡ 0
    id-is : read.told.id ≡ came.id
    stores-are : read.stores ≡ came.next

  done : read.told.number ≡ 0 → Done
  done e = go (eqb begins 0) refl
    where
      go : (x : Bool) → eqb begins 0 ≡ x → Done
      go true f =
          let z = eqb-true begins 0 f in
          let r = begun-read z in
          let c : came.number ≡ 0 = sym (told-number counts_in came) ∙ ap (λ (l : ReadLeft). l.told.number) (sym r) ∙ e in
          record {
            begun-done = z;
            came-done = c;
            id-is = ap (λ (l : ReadLeft). l.told.id) r ∙ rw (eq-eqb came.number 0 c);
            stores-are = ap (λ (l : ReadLeft). l.stores) r ∙ rw (eq-eqb came.number 0 c);
          }
      go false f = let n = eqb-false begins 0 f in absurd (n (ap (λ (l : ReadLeft). l.told.number) (sym (refused-read n)) ∙ e))

  -- an accepted read leaves a session that its start began
  pub read-begun : read.told.number ≡ 0 → Begun m (length s.words) (drop (need_of m) s.words) read.stores
  read-begun e =
      let d = done e in
      subst (λ t. Begun m (length s.words) (drop (need_of m) s.words) t) (sym d.stores-are) (ops-stay ops 0 s₁ (start-begun objects links s d.begun-done))

  -- a refusal leaves the stores as a start with these limits leaves them
  pub refused-fresh : (read.told.number ≡ 0 → ⊥) → read.stores ≡ s₁
  refused-fresh n = go (eqb begins 0) refl
    where
      go : (x : Bool) → eqb begins 0 ≡ x → read.stores ≡ s₁
      go true f =
          let z = eqb-true begins 0 f in
          let r = begun-read z in
          let c : eqb came.number 0 ≡ false = ne_eqb came.number 0 (λ q. n (ap (λ (l : ReadLeft). l.told.number) r ∙ told-number counts_in came ∙ q)) in
          ap (λ (l : ReadLeft). l.stores) r ∙ rw c (fresh objects links s z came.next (ops-stay ops 0 s₁ (start-begun objects links s z)))
      go false f = ap (λ (l : ReadLeft). l.stores) (refused-read (eqb-false begins 0 f))

  -- ---- by the history

  module _ (work : Limits → ℕ → ℕ) where
    abbrev foretold : Outcome History
    foretold = history_read (needs_with work) (length s.bytes) (length s.words) ops objects links

    same_outcome : begins ≡ 0 → SameOutcome came foretold
    same_outcome z = ops-agree work (length s.bytes) (length s.words) ops 0 s₁ (begun m) (begun-stands z)

    -- what a read tells is what the history says
    pub read_told : read.told ≡ ops_expected (needs_with work) (length s.bytes) (length s.words) ops objects links
    unfolding ops_step ops_expected
    read_told = rw (← start-number objects links s) (go (eqb begins 0) refl)
      where
        go : (x : Bool) → eqb begins 0 ≡ x → (pick x (settled objects links came) (record { told = refused_read begins 0; stores = s₁ })).told ≡ pick x (told_of counts foretold) (refused_read begins 0)
        go true e = same-told-of (same_outcome (eqb-true begins 0 e))
        go false e = refl

    -- what it leaves is what its session calls leave
    pub read-listed : read.stores ≡ left_after (ops_calls (needs_with work) (length s.bytes) (length s.words) ops objects links) s
    unfolding ops_calls left_after
    read-listed = rw (← read_told) (go (eqb read.told.number 0) refl)
      where
        expected_calls : List StoreCall
        expected_calls = calls_in (by_history (needs_with work) (length s.bytes) (length s.words)) ops 0 (begun m)

        go : (x : Bool) → eqb read.told.number 0 ≡ x → read.stores ≡ left_after (pick x expected_calls []) s₁
        go true e =
            let d = done (eqb-true _ 0 e) in
            d.stores-are
            ∙ sym (ops-listed ops 0 s₁ d.came-done)
            ∙ ap (λ cs. left_after cs s₁) (same-calls work (length s.bytes) (length s.words) ops 0 (begun-stands d.begun-done))
        go false e = refused-fresh (eqb-false _ 0 e)

    -- an accepted read leaves nothing open, and the history knows what the ops read as by the root's id
    pub record AcceptedRead (r : Reading) : Type 0 where
      pub done-too : foretold.number ≡ 0
      pub stands : Stands read.stores foretold.next
      pub opens : foretold.next.opens ≡ []
      pub known : Known r read.told.id foretold.next.closed

    pub accepted-reads : (r : Reading) → ReadsAs (needs_with work) (length s.bytes) (length s.words) ops r → read.told.number ≡ 0 → AcceptedRead r
    accepted-reads r f e =
        let d = done e in
        let a = same_outcome d.begun-done in
        let w = whole-read (needs_with work) (length s.bytes) (length s.words) f 0 (begun m) (sym a.number_same ∙ d.came-done) in
        record {
          done-too = sym a.number_same ∙ d.came-done;
          stands = subst (λ (x : Stores). Stands x foretold.next) (sym d.stores-are) a.stands;
          opens = w.opens;
          known = subst (λ j. Known r j foretold.next.closed) (sym (d.id-is ∙ a.id_same)) w.known;
        }

  -- ---- which numbers a read tells

  module _ (few : FewTold ops) where
    -- those of its ops
    ops-tell : begins ≡ 0 → tellable read.told.number ≡ true
    ops-tell z =
        let w : Limits → ℕ → ℕ = λ m copies. 0 in
        let e : read.told.number ≡ (foretold w).number = ap (λ (l : ReadLeft). l.told.number) (begun-read z) ∙ told-number counts_in came ∙ (same_outcome w z).number_same in
        rw e (few (needs_with w) (length s.bytes) (length s.words) m)

    -- or else its start's
    start-tells : (begins ≡ 0 → ⊥) → read.told.number ≡ number Refusal.OutOfRange
    start-tells n = ap (λ (l : ReadLeft). l.told.number) (refused-read n) ∙ go ((told-exactly _ begins).only (sym (start-number objects links s)))
      where
        go : Tells (start_tests m (need objects links) (length s.words)) begins → begins ≡ number Refusal.OutOfRange
        go (this f g) = g
        go (next f (none g)) = absurd (n g)

    pub read-tells : read_tells read.told.number ≡ true
    read-tells = go (eqb begins 0) refl
      where
        last : (x : Bool) → (x || true) ≡ true
        last true = refl
        last false = refl

        go : (x : Bool) → eqb begins 0 ≡ x → read_tells read.told.number ≡ true
        go true f = rw (ops-tell (eqb-true begins 0 f)) (last (eqb read.told.number (number Refusal.OutOfRange)))
        go false f = rw (start-tells (eqb-false begins 0 f))

    pub never-12 : read.told.number ≡ number Refusal.Unsound → ⊥
    unfolding tellable
    never-12 e = true≢false (sym (rw e at read-tells))

    -- 13 is the start's, and leaves the stores as they were
    pub untouched-13 : read.told.number ≡ number Refusal.OutOfRange → read.stores ≡ s
    unfolding tellable
    untouched-13 e = refused-fresh (λ q. omega arith) ∙ refused-stands objects links s (λ z. true≢false (sym (rw e at (ops-tell z))))

-- of two pairs of stores only the lengths count
pub same-told : (ops : List Op) (objects links : ℕ) (s t : Stores) → length s.bytes ≡ length t.bytes → length s.words ≡ length t.words
    → (ops_step ops objects links s).told ≡ (ops_step ops objects links t).told
same-told ops objects links s t p q =
    let w : Limits → ℕ → ℕ = λ m copies. 0 in
    read_told ops objects links s w ∙ (λ i. ops_expected (needs_with w) (p i) (q i) ops objects links) ∙ sym (read_told ops objects links t w)
