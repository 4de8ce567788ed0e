-- docs/RULES.md, 11.1, 11.6 to 11.8 and 16.1: a read as a function of its arguments and the two stores: a start, the table's ops, and a start anew where one of them is refused.
-- By the history alone: what it must tell, and the session calls that it stands for.
use Rattle.std.specs.Prelude.{ℕ, List, [], ◌∷◌, Bool, ◌||◌, eqb, Ok, Err}
use Rattle.lists.specs.Lists.{pick}
use Rattle.answer.specs.Number.{number, no_tally}
use Rattle.answer.specs.declared.tally.Tally.{Tally}
use Rattle.answer.specs.declared.Refusal.TheVariants as Refusal
use Rattle.model.specs.Judge.{Limits, number_of, judge_start}
use Rattle.model.specs.Session.{Needs}
use Rattle.model.specs.History.{History, counts, begun}
use Rattle.steps.specs.Steps.{tally_in}
use Rattle.steps.specs.Runs.{StoreCall, Stores, stores, start, step_on}
use Rattle.steps.specs.Runs as calls
use Rattle.steps.specs.Mirrored.{Step, by_stores, by_history}
use Rattle.gsub.specs.declared.Scope.{Scope}
use Rattle.gsub.specs.declared.Kind.TheVariants.{Header}
use Rattle.gsub.specs.Ops.{Op, begin, put, link, end, stop, Outcome, table_ops, perform}
use Rattle.gsub.specs.Meaning.{deepest}
use Rattle.gsub.specs.Refusals.{tellable}
use Rattle.gsub_read.specs.Answers.{ReadAnswer, unread_number, unread_place}

-- the number, the root's id, refusal 15's place and the tally
pub record ReadTold : Type 0 where
  pub number : ℕ
  pub id : ℕ
  pub place : ℕ
  pub tally : Tally

-- a refusal comes with zeros for the tally
abbrev pub refused_read : ℕ → ℕ → ReadTold
refused_read n p = record { number = n; id = 0; place = p; tally = no_tally }

abbrev pub done_read : ℕ → Tally → ReadTold
done_read i t = record { number = 0; id = i; place = 0; tally = t }

abbrev pub told_by_read : ReadAnswer → ReadTold
told_by_read (Ok r) = done_read r.root.0 r.tally
told_by_read (Err u) = refused_read (unread_number u) (unread_place u)

-- what ops come to, given how what they leave is counted
abbrev pub told_of : {S : Type 0} → (S → Tally) → Outcome S → ReadTold
told_of count o = pick (eqb o.number 0) (done_read o.id (count o.next)) (refused_read o.number o.place)

abbrev pub gsub_ops : Scope → List ℕ → List Op
gsub_ops scope b = table_ops deepest b (Header scope) 0

-- ---- on the two stores

-- what a read tells, and what it leaves in the stores
pub record ReadLeft : Type 0 where
  pub told : ReadTold
  pub stores : Stores

abbrev pub read_left : ReadTold → List ℕ → List ℕ → ReadLeft
read_left t b w = record { told = t; stores = stores b w }

-- what the ops came to: a refusal starts the session anew
abbrev pub settled : ℕ → ℕ → Outcome Stores → ReadLeft
settled objects links o =
    record {
      told = told_of (λ s. tally_in s.bytes s.words) o;
      stores = pick (eqb o.number 0) o.next (step_on (start objects links) o.next).stores;
    }

-- from what a start told and left
abbrev pub begun_step : List Op → ℕ → ℕ → ℕ → Stores → ReadLeft
begun_step ops objects links n s =
    pick (eqb n 0) (settled objects links (perform by_stores ops 0 s)) (record { told = refused_read n 0; stores = s })

unfoldable pub ops_step : List Op → ℕ → ℕ → Stores → ReadLeft
ops_step ops objects links s = let l = step_on (start objects links) s in begun_step ops objects links l.told.number l.stores

abbrev pub read_step : Scope → List ℕ → ℕ → ℕ → Stores → ReadLeft
read_step scope b = ops_step (gsub_ops scope b)

-- ---- by the arguments and the two stores' lengths alone

-- the calls that ops make, each with the id that the last close told
unfoldable pub calls_in : {S : Type 0} → (StoreCall → S → Step S) → List Op → ℕ → S → List StoreCall
calls_in call [] i s = []
calls_in call (begin ∷ ops) i s = calls.open' ∷ calls_in call ops i (call calls.open' s).next
calls_in call (put vs ∷ ops) i s = calls.put vs ∷ calls_in call ops i (call (calls.put vs) s).next
calls_in call (link w ∷ ops) i s = calls.link w i 0 ∷ calls_in call ops i (call (calls.link w i 0) s).next
calls_in call (end ∷ ops) i s = let t = call calls.close s in calls.close ∷ calls_in call ops t.id t.next
calls_in call (stop p ∷ ops) i s = []

module _ (n : Needs) (bytes words : ℕ) where
  abbrev limits_with : ℕ → ℕ → Limits
  limits_with objects links = record { objects = objects; links = links; bytes = bytes }

  -- what ops come to on the history that a start begins
  abbrev pub history_read : List Op → ℕ → ℕ → Outcome History
  history_read ops objects links = perform (by_history n bytes words) ops 0 (begun (limits_with objects links))

  -- what they must tell
  unfoldable pub ops_expected : List Op → ℕ → ℕ → ReadTold
  ops_expected ops objects links =
      let m = limits_with objects links in
      let k = number_of (judge_start m (n.records m) words) in
      pick (eqb k 0) (told_of counts (history_read ops objects links)) (refused_read k 0)

  -- the calls that they stand for: the start and what they make, or where they are refused the start alone
  unfoldable pub ops_calls : List Op → ℕ → ℕ → List StoreCall
  ops_calls ops objects links =
      start objects links ∷ pick (eqb (ops_expected ops objects links).number 0) (calls_in (by_history n bytes words) ops 0 (begun (limits_with objects links))) []

  -- of a read
  abbrev pub read_expected : Scope → List ℕ → ℕ → ℕ → ReadTold
  read_expected scope b = ops_expected (gsub_ops scope b)

  abbrev pub read_calls : Scope → List ℕ → ℕ → ℕ → List StoreCall
  read_calls scope b = ops_calls (gsub_ops scope b)

-- the numbers that a read can tell: its start's, and those of its ops
abbrev pub read_tells : ℕ → Bool
read_tells k = eqb k (number Refusal.OutOfRange) || tellable k
