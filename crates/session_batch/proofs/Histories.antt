-- A batch on the two stores tells what it tells on the history that they hold, and is the same single calls.
use mathlib.Core.Path.{◌≡◌, refl, sym, ap, ◌∙◌}
use Prim.Native.Nat.{ℕ, zero, suc, ◌+◌}
use mathlib.Core.List.{List, [], ◌∷◌}
use mathlib.Core.Bool.{Bool, true, false}
use lib.Dec.{eqb}
use lib.ListN.{length}
use Rattle.lists.specs.Lists.{pick, over}
use Rattle.lists.proofs.Runs.{over_none}
use Rattle.model.specs.Judge.{Limits, Verdict, accepted, refused}
use Rattle.model.specs.History.{History, counts}
use Rattle.layout.specs.Words.{object_limit}
use Rattle.steps.specs.Runs.{StoreCall, Stores, step_on, left_after, needs_with}
use Rattle.steps.specs.Mirrored.{Step, by_stores, by_history}
use Rattle.steps.proofs.Mirrored.{mirrored-counts, mirrored-limits, Holding, SameStep, holding-agrees}
use Rattle.session_batch.specs.Calls.{Said, nothing, no_call, says, said}
use Rattle.session_batch.specs.Batch.{batch_need, Underway, Ended, ended, ids_after, onward, begun, turn, carried, call_turn, calls_from, Batch, judge_batch, done_batch, refused_batch, BatchLeft, batch_done, settle_batch, batch_step, by_verdict, history_batch, batch_expected, batch_ids, batch_calls}

-- ---- the single calls, on the stores

module _ (rest : Underway Stores → Ended Stores) (calls : Underway Stores → List StoreCall) (same : (u : Underway Stores) → (rest u).state ≡ left_after (calls u) u.state) where
  turn-calls : (u : Underway Stores) (x : Said) → (turn by_stores rest u x).state ≡ left_after (call_turn by_stores calls u x) u.state
  unfolding left_after
  turn-calls u nothing = refl
  turn-calls u no_call = refl
  turn-calls u (says c ws bs) = go (eqb (step_on c u.state).told.number 0)
    where
      go : (b : Bool) → (pick b (rest (onward c (by_stores c u.state) ws bs u)) (ended (step_on c u.state).told.number (step_on c u.state).stores u)).state
          ≡ left_after (pick b (calls (onward c (by_stores c u.state) ws bs u)) []) (step_on c u.state).stores
      go true = same (onward c (by_stores c u.state) ws bs u)
      go false = refl

-- a batch leaves the stores as its calls would, one after another
batch-calls : (n room : ℕ) (u : Underway Stores) → (carried by_stores n room u).state ≡ left_after (calls_from by_stores n room u) u.state
unfolding carried calls_from left_after
batch-calls zero room u = refl
batch-calls (suc n) room u = turn-calls (carried by_stores n room) (calls_from by_stores n room) (batch-calls n room) u (said room u.ids u.bytes u.words)

module _ (work : Limits → ℕ → ℕ) (bytes words : ℕ) where
  abbrev call : StoreCall → History → Step History
  call = by_history (needs_with work) bytes words

  abbrev Holds : Stores → History → Type 0
  Holds = Holding bytes words

  -- ---- call by call

  pub record SameEnded (e : Ended Stores) (f : Ended History) : Type 0 where
    pub number_same : e.number ≡ f.number
    pub ids-same : e.ids ≡ f.ids
    pub calls_same : e.calls ≡ f.calls
    pub holds : Holds e.state f.state

  abbrev under : {S : Type 0} → List ℕ → List ℕ → List ℕ → ℕ → S → Underway S
  under ws bs ids k s = record { state = s; words = ws; bytes = bs; ids = ids; calls = k }

  -- from states that hold the same, with the same left to do
  record Same (left : Underway Stores → Ended Stores) (right : Underway History → Ended History) (ours : Underway Stores → List StoreCall) (theirs : Underway History → List StoreCall) : Type 0 where
    ends : (ws bs ids : List ℕ) (k : ℕ) {s : Stores} {h : History} → Holds s h → SameEnded (left (under ws bs ids k s)) (right (under ws bs ids k h))
    calls : (ws bs ids : List ℕ) (k : ℕ) {s : Stores} {h : History} → Holds s h → ours (under ws bs ids k s) ≡ theirs (under ws bs ids k h)

  module _ {left : Underway Stores → Ended Stores} {right : Underway History → Ended History} {ours : Underway Stores → List StoreCall} {theirs : Underway History → List StoreCall}
      (later : Same left right ours theirs) where
    turn-same : (x : Said) (ws bs ids : List ℕ) (k : ℕ) {s : Stores} {h : History} → Holds s h → SameEnded (turn by_stores left (under ws bs ids k s) x) (turn call right (under ws bs ids k h) x)
    turn-same nothing ws bs ids k z = record { number_same = refl; ids-same = refl; calls_same = refl; holds = z }
    turn-same no_call ws bs ids k z = record { number_same = refl; ids-same = refl; calls_same = refl; holds = z }
    turn-same (says c vs cs) ws bs ids k {s} {h} z =
        let a = holding-agrees work c z in
        rw a.number_same (go a (eqb (call c h).number 0))
      where
        go : SameStep Holds (by_stores c s) (call c h) → (x : Bool)
            → SameEnded (pick x (left (onward c (by_stores c s) vs cs (under ws bs ids k s))) (ended (call c h).number (by_stores c s).next (under ws bs ids k s)))
            (pick x (right (onward c (call c h) vs cs (under ws bs ids k h))) (ended (call c h).number (call c h).next (under ws bs ids k h)))
        go a true = rw a.id_same (later.ends vs cs (ids_after c (call c h).id ids) (k + 1) a.stands)
        go a false = record { number_same = refl; ids-same = refl; calls_same = refl; holds = a.stands }

    calls_same : (x : Said) (ws bs ids : List ℕ) (k : ℕ) {s : Stores} {h : History} → Holds s h → call_turn by_stores ours (under ws bs ids k s) x ≡ call_turn call theirs (under ws bs ids k h) x
    calls_same nothing ws bs ids k z = refl
    calls_same no_call ws bs ids k z = refl
    calls_same (says c vs cs) ws bs ids k {s} {h} z =
        let a = holding-agrees work c z in
        rw a.number_same (ap (λ (l : List StoreCall). c ∷ l) (go a (eqb (call c h).number 0)))
      where
        go : SameStep Holds (by_stores c s) (call c h) → (x : Bool)
            → pick x (ours (onward c (by_stores c s) vs cs (under ws bs ids k s))) [] ≡ pick x (theirs (onward c (call c h) vs cs (under ws bs ids k h))) []
        go a true = rw a.id_same (later.calls vs cs (ids_after c (call c h).id ids) (k + 1) a.stands)
        go a false = refl

  carried_same : (n room : ℕ) → Same (carried by_stores n room) (carried call n room) (calls_from by_stores n room) (calls_from call n room)
  unfolding carried calls_from
  carried_same zero room = record { ends = λ ws bs ids k z. record { number_same = refl; ids-same = refl; calls_same = refl; holds = z }; calls = λ ws bs ids k z. refl }
  carried_same (suc n) room =
      let l = carried_same n room in
      record { ends = λ ws bs ids k z. turn-same l (said room ids bs ws) ws bs ids k z; calls = λ ws bs ids k z. calls_same l (said room ids bs ws) ws bs ids k z }

  -- ---- the batch

  -- with its calls and bytes, the ids and the work memory that it is lent
  module _ (calls vs ids area : List ℕ) {s : Stores} {h : History} (z : Holds s h) where
    abbrev b : Batch
    b = record { calls = calls; bytes = vs; room = length ids; work = length area }

    abbrev need : ℕ
    need = batch_need (object_limit s.words)

    abbrev ours : Ended Stores
    ours = carried by_stores (length calls) (length ids) (begun calls vs s)

    abbrev same : Same (carried by_stores (length calls) (length ids)) (carried call (length calls) (length ids)) (calls_from by_stores (length calls) (length ids)) (calls_from call (length calls) (length ids))
    same = carried_same (length calls) (length ids)

    ends_same : SameEnded ours (history_batch (needs_with work) bytes words b h)
    ends_same = same.ends calls vs [] 0 z

    -- it is judged alike
    abbrev judged : Verdict
    judged = judge_batch true h.limits.objects (length area)

    stepped : batch_step calls vs ids area s ≡ settle_batch judged s ids area (batch_done ids area need ours)
    unfolding batch_step
    stepped = rw (z.drawn.is_sound, ap (λ (m : Limits). m.objects) (mirrored-limits z.drawn z.mirrors))

    -- it tells what the history says
    pub batch-told : (batch_step calls vs ids area s).told ≡ batch_expected (needs_with work) bytes words b h
    unfolding batch_expected
    batch-told = ap (λ (l : BatchLeft). l.told) stepped ∙ go judged
      where
        go : (v : Verdict) → (settle_batch v s ids area (batch_done ids area need ours)).told ≡ by_verdict v (done_batch counts (history_batch (needs_with work) bytes words b h)) refused_batch
        go accepted = rw (ends_same.number_same, ends_same.ids-same, ends_same.calls_same, mirrored-counts ends_same.holds.drawn ends_same.holds.mirrors)
        go (refused why) = refl

    -- it writes the ids that the history says
    pub batch-ids : (batch_step calls vs ids area s).ids ≡ over 0 (batch_ids (needs_with work) bytes words b h) ids
    unfolding batch_ids
    batch-ids = ap (λ (l : BatchLeft). l.ids) stepped ∙ go judged
      where
        go : (v : Verdict) → (settle_batch v s ids area (batch_done ids area need ours)).ids ≡ over 0 (by_verdict v (history_batch (needs_with work) bytes words b h).ids (λ k. [])) ids
        go accepted = ap (λ l. over 0 l ids) ends_same.ids-same
        go (refused why) = sym (over_none 0 ids)

    -- it leaves what its single calls leave
    pub batch-listed : (batch_step calls vs ids area s).stores ≡ left_after (batch_calls (needs_with work) bytes words b h) s
    unfolding batch_calls left_after
    batch-listed = ap (λ (l : BatchLeft). l.stores) stepped ∙ go judged
      where
        go : (v : Verdict) → (settle_batch v s ids area (batch_done ids area need ours)).stores ≡ left_after (by_verdict v (calls_from call (length calls) (length ids) (begun calls vs h)) (λ k. [])) s
        go accepted = batch-calls (length calls) (length ids) (begun calls vs s) ∙ ap (λ cs. left_after cs s) (same.calls calls vs [] 0 z)
        go (refused why) = refl
