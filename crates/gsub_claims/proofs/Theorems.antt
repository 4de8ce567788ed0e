-- docs/RULES.md, section 11 and 16.1: open this file first. Of a read of either scope, in any stores:
--   11.4  15 is told exactly where a bad field is reached, with its place: `bad-exactly`, `bad-field`, here; which fields are bad `stops-exactly` (gsub Refusals)
--   11.5  the earliest refusal is told: `first-refusal`, here; no number but 0, 6, 7, 8, 13, 15, 16: `numbers-told`, here
--   11.6  after a refusal the stores are as freshly started: `refused-fresh`; after 13 as they were: `untouched`, here
--   11.7  what the stores held does not matter: `same-told`; 12 is never told: `never-unsound`, here
--   11.8  what is told is the history's: `read_told`; what is left is what the calls that it stands for leave: `read-listed` (Listed); lists with reads in
--         them: `demand-3-any`, in C `demand-3-any-c` (claims_lists Program)
--   11.9  the root reads as the table: `root-reads` (Again)
--   11.10 what the slice substitutes is what the reading does: `substitute-read` (gsub Substitutes)
--   11.11 packed and read again: `packed-again` (Again)
--   No 15 comes from how deep tables lie: `deep-enough` (gsub Depth)
use mathlib.Core.Path.{◌≡◌, refl, sym, ◌∙◌}
use Prim.Native.Nat.{ℕ}
use mathlib.Core.List.{List, ◌∷◌, ◌++◌, Memᴰ}
use mathlib.Core.Bool.{Bool, true, false, true≢false}
use native.Mathlib.Omega.{arith}
use borrow.Author.Tests.{eq-eqb}
use lib.Dec.{eqb}
use lib.ListN.{length}
use Rattle.lists.specs.Lists.{pick, Exactly}
use Rattle.answer.specs.Number.{number}
use Rattle.answer.specs.declared.tally.Tally.{Tally}
use Rattle.answer.specs.declared.Refusal.TheVariants as Refusal
use Rattle.model.specs.Judge.{Verdict, accepted, refused}
use Rattle.model.specs.Told.{done_close}
use Rattle.model.specs.History.{History, counts, begun, judged, tell, expected}
use Rattle.model.proofs.Verdicts.{number-range}
use Rattle.steps.specs.Steps.{limits_of}
use Rattle.steps.specs.Runs.{StoreCall, Stores, start, step_on, as_call}
use Rattle.steps.specs.Mirrored.{Step, by_history}
use Rattle.claims.specs.Demand.{needs}
use Rattle.gsub.specs.declared.Scope.{Scope}
use Rattle.gsub.specs.Ops.{bad_table, stop, Outcome, perform}
use Rattle.gsub.specs.Refusals.{BadAt, Reaches, Settles}
use Rattle.gsub.proofs.Refusals.{stops-exactly}
use Rattle.gsub.proofs.Earliest.{earliest, told-stop}
use Rattle.gsub_read.specs.Read.{ReadTold, done_read, refused_read, told_of, gsub_ops, read_step, read_tells, ops_expected}
use Rattle.gsub_read.proofs.Fresh.{start-number}
use Rattle.gsub_read.proofs.Listed.{few-told, read_told, read-tells, never-12, untouched-13}

-- b is read in s, whatever its scope
module _ (scope : Scope) (b : List ℕ) (objects links : ℕ) (s : Stores) where
  pub numbers-told : read_tells (read_step scope b objects links s).told.number ≡ true
  numbers-told = read-tells (gsub_ops scope b) objects links s (few-told scope b)

  pub never-unsound : (read_step scope b objects links s).told.number ≡ number Refusal.Unsound → ⊥
  never-unsound = never-12 (gsub_ops scope b) objects links s (few-told scope b)

  pub untouched : (read_step scope b objects links s).told.number ≡ number Refusal.OutOfRange → (read_step scope b objects links s).stores ≡ s
  untouched = untouched-13 (gsub_ops scope b) objects links s (few-told scope b)

-- its start is accepted
module _ (scope : Scope) (b : List ℕ) (objects links : ℕ) (s : Stores) (begins : (step_on (start objects links) s).told.number ≡ 0) where
  abbrev told : ReadTold
  told = (read_step scope b objects links s).told

  -- the calls on the history, and what it is after the start
  abbrev call : StoreCall → History → Step History
  call = by_history needs (length s.bytes) (length s.words)

  abbrev fresh : History
  fresh = begun (limits_of objects links s.bytes)

  abbrev came : Outcome History
  came = perform call (gsub_ops scope b) 0 fresh

  told_is : told ≡ told_of counts came
  unfolding ops_expected
  told_is = read_told (gsub_ops scope b) objects links s needs.work ∙ rw (sym (start-number objects links s) ∙ begins)

  -- no call of the eight tells 15
  never-bad : (c : StoreCall) (h : History) → (call c h).number ≡ bad_table → ⊥
  unfolding expected
  never-bad c h = go (judged needs (as_call (length s.bytes) (length s.words) c) h) _ _ _
    where
      go : (v : Verdict) (t u : Tally) (i : ℕ) → (tell v t (done_close i u)).number ≡ bad_table → ⊥
      go accepted t u i e = omega arith
      go (refused why) t u i e = true≢false (sym (rw e at (number-range why).1))

  -- 15 is told with a place exactly where a field that is refused at that place is reached
  pub bad-exactly : (place : ℕ) → Exactly ((told.number ≡ bad_table) × (told.place ≡ place)) (Reaches call (gsub_ops scope b) 0 fresh (stop place))
  bad-exactly place =
      let t = told-stop call never-bad (gsub_ops scope b) 0 fresh place in
      rw told_is record { only = λ e. t.only (go (eqb came.number 0) e); when = λ r. let e = t.when r in rw e.0 (refl, e.1) }
    where
      go : (x : Bool) → ((pick x (done_read came.id (counts came.next)) (refused_read came.number came.place)).number ≡ bad_table) × ((pick x (done_read came.id (counts came.next)) (refused_read came.number came.place)).place ≡ place) → (came.number ≡ bad_table) × (came.place ≡ place)
      go true (e, q) = absurd (omega arith)
      go false (e, q) = (e, q)

  -- and that is a field of a table that offsets lead to from the header on, which passes the end, holds another number than it must, or is a zero offset
  pub bad-field : told.number ≡ bad_table → BadAt scope b told.place
  bad-field e =
      let r = (bad-exactly told.place).only (e, refl) in
      let m : Memᴰ (stop told.place) (r.before ++ (stop told.place ∷ r.behind)) = mathlib.Core.List.Memᴰ.append_right r.before (mathlib.Core.List.Memᴰ.head refl) in
      (stops-exactly scope b told.place).only (rw r.whole m)

  -- the first op that is refused settles what is told
  pub first-refusal : (told.number ≡ 0 → ⊥) → Settles call (gsub_ops scope b) 0 fresh
  first-refusal n = earliest call (gsub_ops scope b) 0 fresh (λ z. n (rw (told_is, eq-eqb came.number 0 z)))
