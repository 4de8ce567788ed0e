-- docs/RULES.md, section 14: a batch is its calls in turn, each as its own definition has it, up to the first that is refused.
-- The calls are made on a state: the two stores, or the history that sees arguments alone.
use Rattle.std.specs.Prelude.{ℕ, zero, suc, ◌+◌, ◌≤◌, List, [], ◌∷◌, ◌++◌, Bool, true, eqb, length, replicate}
use Rattle.std.proofs.Common.{arith}
use Rattle.lists.specs.Lists.{pick, over}
use Rattle.answer.specs.Number.{number, no_tally}
use Rattle.answer.specs.declared.tally.Tally.{Tally}
use Rattle.model.specs.Judge.{most_need, Verdict, accepted, refused, verdict, unsound, work_short}
use Rattle.model.specs.Session.{Needs}
use Rattle.model.specs.History.{History, counts}
use Rattle.layout.specs.Words.{object_limit}
use Rattle.layout.specs.Sound.{sound}
use Rattle.steps.specs.Steps.{tally_in}
use Rattle.steps.specs.Runs.{StoreCall, start, open', put, link, close, drop, tally, Stores}
use Rattle.steps.specs.Mirrored.{Step, by_stores, by_history}
use Rattle.session_chains.specs.Index.{index_need}
use Rattle.session_batch.specs.Calls.{Said, nothing, no_call, says, said}

-- ---- the work memory holds the index of the closed objects

-- as many buckets as there may be objects
abbrev pub buckets_for : ℕ → ℕ
buckets_for objects = objects

abbrev pub batch_need : ℕ → ℕ
batch_need objects = index_need (buckets_for objects) objects

pub batch-bound : (objects links : ℕ) → batch_need objects ≤ most_need objects links
batch-bound objects links = omega arith

-- ---- call by call

-- words that are no call
abbrev pub no_call_number : ℕ
no_call_number = 19

-- the state, the words and the bytes that are left, the ids that the closes told, and how many calls are carried out
pub record Underway (S : Type 0) : Type 0 where
  pub state : S
  pub words : List ℕ
  pub bytes : List ℕ
  pub ids : List ℕ
  pub calls : ℕ

-- with which number it ended, and what it left
pub record Ended (S : Type 0) : Type 0 where
  pub number : ℕ
  pub state : S
  pub ids : List ℕ
  pub calls : ℕ

abbrev pub ended : {S : Type 0} → ℕ → S → Underway S → Ended S
ended k s u = record { number = k; state = s; ids = u.ids; calls = u.calls }

-- a close adds the id that it tells
abbrev pub ids_after : StoreCall → ℕ → List ℕ → List ℕ
ids_after (start objects links) id ids = ids
ids_after open' id ids = ids
ids_after (put vs) id ids = ids
ids_after (link width child inner) id ids = ids
ids_after close id ids = ids ++ (id ∷ [])
ids_after drop id ids = ids
ids_after tally id ids = ids

-- call c is carried out: it came to t, and these words and bytes are behind it
abbrev pub onward : {S : Type 0} → StoreCall → Step S → List ℕ → List ℕ → Underway S → Underway S
onward c t ws bs u = record { state = t.next; words = ws; bytes = bs; ids = ids_after c t.id u.ids; calls = u.calls + 1 }

abbrev pub begun : {S : Type 0} → List ℕ → List ℕ → S → Underway S
begun calls bytes s = record { state = s; words = calls; bytes = bytes; ids = []; calls = 0 }

module _ {S : Type 0} (call : StoreCall → S → Step S) where
  -- by what the next words say; `rest` goes on from there
  abbrev pub turn : (Underway S → Ended S) → Underway S → Said → Ended S
  turn rest u nothing = ended 0 u.state u
  turn rest u no_call = ended no_call_number u.state u
  turn rest u (says c ws bs) =
      let t = call c u.state in
      pick (eqb t.number 0) (rest (onward c t ws bs u)) (ended t.number t.next u)

  -- at most n calls; every call has a word, so that as many as there are words are all
  unfoldable pub carried : ℕ → ℕ → Underway S → Ended S
  carried zero room u = ended 0 u.state u
  carried (suc n) room u = turn (carried n room) u (said room u.ids u.bytes u.words)

  -- the single calls that they are, the refused one included
  abbrev pub call_turn : (Underway S → List StoreCall) → Underway S → Said → List StoreCall
  call_turn rest u nothing = []
  call_turn rest u no_call = []
  call_turn rest u (says c ws bs) =
      let t = call c u.state in
      c ∷ pick (eqb t.number 0) (rest (onward c t ws bs u)) []

  unfoldable pub calls_from : ℕ → ℕ → Underway S → List StoreCall
  calls_from zero room u = []
  calls_from (suc n) room u = call_turn (calls_from n room) u (said room u.ids u.bytes u.words)

-- ---- the batch

-- the calls and the bytes that it is given, and how many ids and words of work memory it is lent
pub record Batch : Type 0 where
  pub calls : List ℕ
  pub bytes : List ℕ
  pub room : ℕ
  pub work : ℕ

-- the number, the tally, how many calls were carried out, and how many ids were written
pub record BatchTold : Type 0 where
  pub number : ℕ
  pub tally : Tally
  pub calls : ℕ
  pub told : ℕ

abbrev pub judge_batch : Bool → ℕ → ℕ → Verdict
judge_batch sound objects work = verdict (unsound sound ∷ work_short work (batch_need objects) ∷ [])

abbrev pub done_batch : {S : Type 0} → (S → Tally) → Ended S → BatchTold
done_batch count e = record { number = e.number; tally = count e.state; calls = e.calls; told = length e.ids }

abbrev pub refused_batch : ℕ → BatchTold
refused_batch k = record { number = k; tally = no_tally; calls = 0; told = 0 }

-- ---- on the two stores, and on the ids and the work memory that it is lent

pub record BatchLeft : Type 0 where
  pub told : BatchTold
  pub stores : Stores
  pub ids : List ℕ
  pub work : List ℕ

abbrev pub batch_left : BatchTold → List ℕ → List ℕ → List ℕ → List ℕ → BatchLeft
batch_left t b w ids work = record { told = t; stores = record { bytes = b; words = w }; ids = ids; work = work }

-- the ids told are at the front of `ids`, and the needed work memory is cleared
abbrev pub batch_done : List ℕ → List ℕ → ℕ → Ended Stores → BatchLeft
batch_done ids work need e =
    record {
      told = done_batch (λ s. tally_in s.bytes s.words) e;
      stores = e.state;
      ids = over 0 e.ids ids;
      work = over 0 (replicate need 0) work;
    }

-- a refused one changes nothing
abbrev pub settle_batch : Verdict → Stores → List ℕ → List ℕ → BatchLeft → BatchLeft
settle_batch accepted s ids work l = l
settle_batch (refused why) s ids work l = record { told = refused_batch (number why); stores = s; ids = ids; work = work }

unfoldable pub batch_step : List ℕ → List ℕ → List ℕ → List ℕ → Stores → BatchLeft
batch_step calls bytes ids work s =
    settle_batch (judge_batch (sound s.bytes s.words) (object_limit s.words) (length work)) s ids work
    (batch_done ids work (batch_need (object_limit s.words)) (carried by_stores (length calls) (length ids) (begun calls bytes s)))

-- ---- by the history: what it must tell, the ids of its closes, and the single calls that it stands for

abbrev pub by_verdict : {A : Type 0} → Verdict → A → (ℕ → A) → A
by_verdict accepted done refuse = done
by_verdict (refused why) done refuse = refuse (number why)

module _ (n : Needs) (bytes words : ℕ) (b : Batch) (h : History) where
  abbrev verdict_of : Verdict
  verdict_of = judge_batch true h.limits.objects b.work

  abbrev pub history_batch : Ended History
  history_batch = carried (by_history n bytes words) (length b.calls) b.room (begun b.calls b.bytes h)

  unfoldable pub batch_expected : BatchTold
  batch_expected = by_verdict verdict_of (done_batch counts history_batch) refused_batch

  unfoldable pub batch_ids : List ℕ
  batch_ids = by_verdict verdict_of history_batch.ids (λ k. [])

  unfoldable pub batch_calls : List StoreCall
  batch_calls = by_verdict verdict_of (calls_from (by_history n bytes words) (length b.calls) b.room (begun b.calls b.bytes h)) (λ k. [])
