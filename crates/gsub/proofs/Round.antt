-- A table that shows the reading of one that was read, as an accepted pack's does, read again: the same ops and the same reading.
use mathlib.Core.Path.{◌≡◌, sym, ap, ◌∙◌}
use Prim.Native.Nat.{ℕ}
use mathlib.Core.List.{List, [], ◌∷◌}
use native.Mathlib.Omega.{arith}
use Rattle.model_orders.specs.Reading.{Reading, reading_at, Apart, Wide, Shows}
use Rattle.model.specs.Session.{Needs}
use Rattle.model.specs.History.{History}
use Rattle.model.proofs.Closings.{known-equal}
use Rattle.steps.specs.Runs.{StoreCall}
use Rattle.steps.specs.Runs as calls
use Rattle.steps.specs.Mirrored.{Step, by_history}
use Rattle.gsub.specs.declared.Scope.{Scope}
use Rattle.gsub.specs.declared.Kind.TheVariants.{Header}
use Rattle.gsub.specs.Ops.{Op, begin, put, link, end, stop, table_ops, Outcome, go_on, perform}
use Rattle.gsub.specs.Meaning.{deepest, gsub_reading}
use Rattle.gsub.specs.Promote.{Mode, plain, mode_ops, mode_reading}
use Rattle.gsub.proofs.Plain.{plain-ops, plain-reading}
use Rattle.gsub.proofs.Accepted.{goes_on, ReadsAs, mode-reads, table-reads, whole-read}
use Rattle.gsub.proofs.Again.{Clean, mode-again, wide-mode}

-- ---- an accepted read meets no refusal 15

module _ {S : Type 0} (call : StoreCall → S → Step S) where
  later-done : (t : Step S) (o : Outcome S) → (go_on t o).number ≡ 0 → o.number ≡ 0
  later-done t o z = ap (λ (x : Outcome S). x.number) (sym (goes_on t o z)) ∙ z

  pub clean-done : (ops : List Op) (i : ℕ) (s : S) → (perform call ops i s).number ≡ 0 → Clean ops
  unfolding Clean perform
  clean-done [] i s z = tt
  clean-done (begin ∷ ops) i s z = clean-done ops i _ (later-done (call calls.open' s) _ z)
  clean-done (put vs ∷ ops) i s z = clean-done ops i _ (later-done (call (calls.put vs) s) _ z)
  clean-done (link w ∷ ops) i s z = clean-done ops i _ (later-done (call (calls.link w i 0) s) _ z)
  clean-done (end ∷ ops) i s z = clean-done ops _ _ (later-done (call calls.close s) _ z)
  clean-done (stop p ∷ ops) i s z = omega arith

-- ---- the same ops give the same reading

module _ (scope : Scope) (n : Needs) (store records : ℕ) (h : History) where
  abbrev made : List Op → Outcome History
  made ops = perform (by_history n store records) ops 0 h

  -- the reading stands behind the id told
  reading-is : {ops : List Op} {r : Reading} → ReadsAs n store records ops r → (made ops).number ≡ 0 → r ≡ reading_at (made ops).next.closed (made ops).id
  reading-is f z = known-equal (whole-read n store records f 0 h z).known

  -- t is read by these ops, and reads r
  pub record Again (ops : List Op) (r : Reading) (t : List ℕ) : Type 0 where
    pub ops-same : table_ops deepest t (Header scope) 0 ≡ ops
    pub reading : gsub_reading scope t ≡ r

  reading-again : {ops : List Op} {r : Reading} (t : List ℕ) → ReadsAs n store records ops r → (made ops).number ≡ 0 → table_ops deepest t (Header scope) 0 ≡ ops → Again ops r t
  reading-again t f z e = record {
    ops-same = e;
    reading = reading-is (table-reads n store records deepest t (Header scope) 0) (ap (λ l. (made l).number) e ∙ z)
        ∙ ap (λ l. reading_at (made l).next.closed (made l).id) e
        ∙ sym (reading-is f z);
  }

  -- b was read in any mode
  pub mode-read-again : (m : Mode) (b t : List ℕ) → let ops = mode_ops deepest b m (Header scope) 0 in let r = mode_reading deepest b m (Header scope) 0 in
      (made ops).number ≡ 0 → Shows t 0 r → (Wide r → Apart t 0 r) → Again ops r t
  mode-read-again m b t z s a =
      let c = clean-done (by_history n store records) (mode_ops deepest b m (Header scope) 0) 0 h z in
      reading-again t (mode-reads n store records deepest b m (Header scope) 0) z (mode-again b t deepest m (Header scope) 0 0 c (record { own = s.0; fields = s.1; apart = a (wide-mode deepest b m (Header scope) 0) }))

  pub read_again : (b t : List ℕ) → (made (table_ops deepest b (Header scope) 0)).number ≡ 0 → Shows t 0 (gsub_reading scope b) → (Wide (gsub_reading scope b) → Apart t 0 (gsub_reading scope b))
      → Again (table_ops deepest b (Header scope) 0) (gsub_reading scope b) t
  read_again b t = rw (plain-ops deepest b, plain-reading deepest b) at (mode-read-again plain b t)
