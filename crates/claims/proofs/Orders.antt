-- Which order's table a pack writes, exactly when it is accepted, and exactly when it tells 11 and with which link.
use mathlib.Core.Path.{◌≡◌, refl, sym, ap, ◌∙◌}
use Prim.Native.Nat.{ℕ, ◌≤◌, ◌<◌}
use mathlib.Core.List.{List, [], ◌∷◌, ◌++◌}
use mathlib.Core.Bool.{true≢false}
use native.Mathlib.Omega.{arith}
use borrow.Author.Tests.{ltb-false, leb-false, eqb-true, le-ltb, lt-leb, eq-eqb, not-false}
use lib.ListN.{length}
use lib.Dec.{eqb}
use Rattle.answer.specs.Number.{number}
use Rattle.answer.specs.declared.Overflow.{Overflow}
use Rattle.answer.specs.declared.Refusal.TheVariants as Refusal
use Rattle.model_orders.specs.Graph.{Graph}
use Rattle.model_orders.specs.Table.{Outcome, placed, overflow}
use Rattle.model_orders.specs.Copies.{Grown, Arrangement, length_of, Chosen}
use Rattle.model.specs.Judge.{Verdict, accepted, refused, number_of, Test, Tells, none, this, next, verdict, output_short, overflows, pack_tests}
use Rattle.model.specs.Told.{refusal, told_by_pack}
use Rattle.model.specs.Session.{arranged_in}
use Rattle.model_orders.proofs.Arrangements.{arranged-chosen, arranged-unresolved, chosen-arranged, unresolved-arranged}
use Rattle.model.proofs.Refusals.{told-exactly}
use Rattle.layout.specs.Words.{object_limit, link_limit, open_depth}
use Rattle.work.specs.Areas.{work_need}
use Rattle.layout.specs.Decode.{decode}
use Rattle.layout.specs.Sound.{sound}
use Rattle.steps.specs.Steps.{tally_in}
use Rattle.steps.specs.Pack.{PackOut, pack_by, pack_step}
use Rattle.steps.specs.Runs.{lent_step}
use Rattle.steps.proofs.Tallies.{count-decode}
use Rattle.claims.specs.Orders.{graph_in, table_on, pack_told, Admitted, Ordered, Overflows}
use Rattle.claims.proofs.Packs.{placed-laid, placed-count}

module _ (b w : List ℕ) (id copies : ℕ) (out work : List ℕ) where
  abbrev g : Graph
  g = graph_in b w id copies out work

  -- how many closed objects there are
  abbrev n : ℕ
  n = length (decode b w).closed

  abbrev c : Arrangement
  c = arranged_in (decode b w) id copies

  -- the tests of the orders and of the output, and all tests, by an outcome
  abbrev last_tests : Outcome → List Test
  last_tests u = overflows u ++ (output_short (length out) (length_of c) ∷ [])

  abbrev tests_on : Outcome → List Test
  tests_on u = pack_tests (sound b w) (tally_in b w) id copies (length work) (work_need (object_limit w) (link_limit w) copies) (length out) (length_of c) u

  -- what a pack leaves, by its verdict and an outcome
  abbrev settled : Verdict → Outcome → PackOut
  settled v u = pack_by v (record { grown = c.grown; outcome = u }) copies b w out work

  pub step_is : pack_step id copies b w out work ≡ settled (verdict (tests_on c.outcome)) c.outcome
  unfolding pack_step
  step_is = refl

  settled-number : (v : Verdict) (u : Outcome) → (told_by_pack (settled v u).answer).number ≡ number_of v
  settled-number accepted u = refl
  settled-number (refused why) u = refl

  tells : {k : ℕ} (u : Outcome) → (told_by_pack (settled (verdict (tests_on u)) u).answer).number ≡ k → Tells (tests_on u) k
  tells {k = k} u e = (told-exactly (tests_on u) k).only (sym (settled-number (verdict (tests_on u)) u) ∙ e)

  -- a number that no test before that of the orders tells
  record Late (k : ℕ) : Type 0 where
    past12 : k ≡ number Refusal.Unsound → ⊥
    past13 : k ≡ number Refusal.OutOfRange → ⊥
    past9 : k ≡ number Refusal.ObjectOpen → ⊥
    past4 : k ≡ number Refusal.NotClosed → ⊥

  admitted : {k : ℕ} (u : Outcome) → Late k → Tells (tests_on u) k → Admitted b w id copies out work × Tells (last_tests u) k
  admitted u l (this h e) = absurd (l.past12 e)
  admitted u l (next h (this i e)) = absurd (l.past13 e)
  admitted u l (next h (next i (this j e))) = absurd (l.past13 e)
  admitted u l (next h (next i (next j (this m e)))) = absurd (l.past9 e)
  admitted u l (next h (next i (next j (next m (this q e))))) = absurd (l.past4 e)
  admitted u l (next h (next i (next j (next m (next q r))))) = (
    record {
      is_sound = not-false (sound b w) h;
      few = ltb-false _ _ i;
      memory = ltb-false _ _ j;
      none_open = eqb-true _ _ (not-false (eqb (open_depth w) 0) m);
      known = leb-false _ _ q;
    },
    r,
  )

  -- where they passed, only the orders and the output are left
  pub left-tests : (u : Outcome) → Admitted b w id copies out work → verdict (tests_on u) ≡ verdict (last_tests u)
  unfolding verdict
  left-tests u t = rw (t.is_sound, le-ltb _ copies t.few, le-ltb (length work) _ t.memory, eq-eqb (open_depth w) 0 t.none_open, lt-leb _ id t.known)

  -- and only the output where an order fits
  pub placed-accepted : (o : List ℕ) → Admitted b w id copies out work → length_of c ≤ length out → verdict (tests_on (placed o)) ≡ accepted
  unfolding verdict
  placed-accepted o t k = left-tests (placed o) t ∙ rw (le-ltb (length out) _ k)

  -- the root is one of the closed objects
  known-closed : Admitted b w id copies out work → id < n
  known-closed t = omega (arith, t.known, count-decode b w)

  -- ---- accepted exactly where no test before applies, one of the orders fits, and the output has room for its table

  pub accepted-ordered : (pack_told b w id copies out work).number ≡ 0 → Ordered b w id copies out work
  unfolding lent_step
  accepted-ordered e = go c.outcome refl (admitted c.outcome late (tells c.outcome (rw step_is at e)))
    where
      late : Late 0
      late = record { past12 = λ z. omega arith; past13 = λ z. omega arith; past9 = λ z. omega arith; past4 = λ z. omega arith }

      go : (u : Outcome) → c.outcome ≡ u → Admitted b w id copies out work × Tells (last_tests u) 0 → Ordered b w id copies out work
      go (placed o) f (t, this h z) = absurd (omega arith)
      go (placed o) f (t, next h r) =
          let l = placed-laid b w t.is_sound id copies (known-closed t) f in
          let count = placed-count b w t.is_sound id copies (known-closed t) f in
          let room = ltb-false (length out) (length_of c) h in
          let v = placed-accepted o t room in
          record {
            admitted = t;
            grown = c.grown;
            order = o;
            chosen = arranged-chosen copies g n id f;
            room = omega (arith, room, l.sum);
            told = rw (step_is, f, v, l.sum, count);
            written = rw (step_is, f, v);
            laid = l;
          }
      go (overflow v) f (t, this h z) = absurd (omega arith)
      go (overflow v) f (t, next h r) = absurd (true≢false h)

  pub ordered-accepted : {z : Grown} {o : List ℕ} → Admitted b w id copies out work → Chosen copies g n id z o → length (table_on b w id copies out work z o) ≤ length out
      → (pack_told b w id copies out work).number ≡ 0
  unfolding lent_step
  ordered-accepted {z = z} {o = o} t h k =
      let e = chosen-arranged copies g n id h in
      let f : c.outcome ≡ placed o = ap (λ (a : Arrangement). a.outcome) e in
      let l = (placed-laid b w t.is_sound id copies (known-closed t) f).sum in
      let same = ap (λ (a : Arrangement). length (table_on b w id copies out work a.grown o)) e in
      rw (step_is, f, placed-accepted o t (omega (arith, l, same, k)))

  -- ---- 11 exactly where no test before applies and no order fits, and with its link

  pub told-overflow : (pack_told b w id copies out work).number ≡ 11 → Overflows b w id copies out work (pack_told b w id copies out work).overflow
  unfolding lent_step verdict
  told-overflow e = go c.outcome refl (admitted c.outcome late (tells c.outcome (rw step_is at e)))
    where
      late : Late 11
      late = record { past12 = λ z. omega arith; past13 = λ z. omega arith; past9 = λ z. omega arith; past4 = λ z. omega arith }

      go : (u : Outcome) → c.outcome ≡ u → Admitted b w id copies out work × Tells (last_tests u) 11
          → Overflows b w id copies out work (told_by_pack (pack_step id copies b w out work).answer).overflow
      go (placed o) f (t, this h z) = absurd (omega arith)
      go (placed o) f (t, next h (none z)) = absurd (omega arith)
      go (overflow v) f t = rw (step_is, f, left-tests (overflow v) t.0) record { admitted = t.0; unfits = arranged-unresolved copies g n id f }

  pub overflow-told : (v : Overflow) → Overflows b w id copies out work v → pack_told b w id copies out work ≡ refusal (Refusal.Overflow v) (tally_in b w)
  unfolding lent_step verdict
  overflow-told v o = rw (step_is, unresolved-arranged copies g n id o.unfits, left-tests (overflow v) o.admitted)
