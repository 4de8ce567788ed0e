-- Demand 3 of lists with reads, batches and promotions in them: such a list is one of the eight calls, and each of them is as the history says.
use mathlib.Core.Path.{◌≡◌, refl, sym, ap, subst, subst₂, ◌∙◌}
use Prim.Native.Nat.{ℕ}
use mathlib.Core.List.{List, [], ◌∷◌, ◌++◌, map, append-nil}
use mathlib.Core.Bool.{Bool, true, false}
use native.Mathlib.Omega.{arith}
use borrow.Author.Tests.{eqb-true, eqb-false}
use lib.Dec.{eqb}
use lib.ListN.{length}
use Rattle.lists.specs.Lists.{pick}
use Rattle.model.specs.Judge.{Limits}
use Rattle.model.specs.History.{History, begun, judged, accept, after, after_all}
use Rattle.work.specs.Areas.{work_need}
use Rattle.steps.specs.Steps.{limits_of}
use Rattle.steps.specs.Runs.{StoreCall, start, Stores, step_on, left_after, LentCall, on_stores, pack, lent_step, as_call}
use Rattle.steps.proofs.Mirrored.{Holding}
use Rattle.claims.specs.Demand.{needs, Made, run, stores_after, as_lent, after_one, history_after, AllClaim}
use Rattle.claims.proofs.Demand.{holding-step, holding-start, demand-3}
use Rattle.gsub_read.specs.Read.{ReadTold, gsub_ops, read_step, ops_expected, ops_calls}
use Rattle.gsub_read.proofs.Fresh.{start-accepted}
use Rattle.gsub_read.proofs.Listed.{read_told, read-listed}
use Rattle.gsub.specs.Promote.{trial_ops}
use Rattle.gsub_promote.specs.Search.{Lent, lent, trial_at, before, PromoteLeft, promote_step, promote_calls}
use Rattle.gsub_promote.proofs.Promise.{IsTrial, found-trial, start-refused, promote-listed}
use Rattle.session_batch.specs.Batch.{BatchLeft, batch_step}
use Rattle.session_batch.proofs.Histories.{batch-told, batch-ids, batch-listed}
use Rattle.claims_lists.specs.Lists.{MadeRead, MadeBatch, MadePromote, AnyMade, call, read, batch, promote, left_by, RanAny, none, more, pack_call_of, stands_for, made_by, as_calls, Promotes, Right, AllRight, EveryAnyList}

abbrev work_of : Limits → ℕ → ℕ
work_of m copies = work_need m.objects m.links copies

-- ---- a list of calls after another

run-append : (cs ds : List LentCall) (s : Stores) → run (cs ++ ds) s ≡ run cs s ++ run ds (stores_after (run cs s) s)
unfolding run stores_after
run-append [] ds s = refl
run-append (c ∷ cs) ds s = ap (◌∷◌ (record { call = c; left = lent_step c s })) (run-append cs ds (lent_step c s).stores)

-- calls on the stores leave what the list of them leaves
left-run : (cs : List StoreCall) (s : Stores) → left_after cs s ≡ stores_after (run (map on_stores cs) s) s
unfolding run stores_after left_after lent_step
left-run [] s = refl
left-run (c ∷ cs) s = left-run cs (step_on c s).stores

-- a pack behind them leaves the stores
pack-behind : (cs : List LentCall) (id copies : ℕ) (out work : List ℕ) (s : Stores) → stores_after (run (cs ++ (pack id copies out work ∷ [])) s) s ≡ stores_after (run cs s) s
unfolding run stores_after lent_step
pack-behind [] id copies out work s = refl
pack-behind (c ∷ cs) id copies out work s = pack-behind cs id copies out work (lent_step c s).stores

-- ---- what the contracts say of each

-- it is its step
unfoldable pub IsStep : Stores → AnyMade → Type 0
IsStep s (call m) = m.left ≡ lent_step m.call s
IsStep s (read r) = r.left ≡ read_step r.scope r.table r.objects r.links s
IsStep s (batch b) = b.left ≡ batch_step b.calls b.bytes b.ids b.work s
IsStep s (promote p) = p.left ≡ promote_step p.scope p.table p.objects p.links (lent s p.out p.work)

module _ (bytes words : ℕ) where
  abbrev Holds : Stores → History → Type 0
  Holds = Holding bytes words

  holding-run : (cs : List LentCall) {s : Stores} {h : History} → Holds s h → Holds (stores_after (run cs s) s) (history_after bytes words (run cs s) h)
  unfolding run stores_after history_after
  holding-run [] k = k
  holding-run (c ∷ cs) k = holding-run cs (holding-step bytes words c k)

  -- ---- one of them

  record One (x : AnyMade) (s : Stores) (h : History) : Type 0 where
    as-run : made_by bytes words h x s ≡ run (stands_for bytes words s h x) s
    leaves : left_by x ≡ stores_after (made_by bytes words h x s) s
    right : Right bytes words x s h

  one-call : {s : Stores} (h : History) (m : Made) → m.left ≡ lent_step m.call s → One (call m) s h
  unfolding Right run stores_after
  one-call h m e = record { as-run = ap (λ l. record { call = m.call; left = l } ∷ []) e; leaves = refl; right = tt }

  -- a read asks of the stores only how long they are
  one-read : {s : Stores} (h : History) (r : MadeRead) → length s.bytes ≡ bytes → length s.words ≡ words → r.left ≡ read_step r.scope r.table r.objects r.links s → One (read r) s h
  unfolding Right
  one-read {s} h r e f k =
      let l : r.left.stores ≡ stores_after (run (stands_for bytes words s h (read r)) s) s = rw (k, ← e, ← f) (read-listed (gsub_ops r.scope r.table) r.objects r.links s work_of ∙ left-run _ s) in
      record { as-run = refl; leaves = l; right = (rw (k, ← e, ← f) (read_told (gsub_ops r.scope r.table) r.objects r.links s work_of), l) }

  one_batch : {s : Stores} {h : History} → Holds s h → (b : MadeBatch) → b.left ≡ batch_step b.calls b.bytes b.ids b.work s → One (batch b) s h
  unfolding Right
  one_batch {s} z b k =
      let l = ap (λ (x : BatchLeft). x.stores) k ∙ batch-listed work_of bytes words b.calls b.bytes b.ids b.work z ∙ left-run _ s in
      record {
        as-run = refl;
        leaves = l;
        right = (ap (λ (x : BatchLeft). x.told) k ∙ batch-told work_of bytes words b.calls b.bytes b.ids b.work z, ap (λ (x : BatchLeft). x.ids) k ∙ batch-ids work_of bytes words b.calls b.bytes b.ids b.work z, l);
      }

  -- nor does a promotion ask more of them
  module _ (s : Stores) (h : History) (p : MadePromote) (e : length s.bytes ≡ bytes) (f : length s.words ≡ words)
      (k : p.left ≡ promote_step p.scope p.table p.objects p.links (lent s p.out p.work)) where
    abbrev x : Lent
    x = lent s p.out p.work

    abbrev calls : List StoreCall
    calls = promote_calls needs bytes words p.scope p.table p.objects p.links p.left.told

    -- as its session calls leave them
    promote-leaves : p.left.left.stores ≡ left_after calls s
    promote-leaves = rw (k, ← e, ← f) (promote-listed p.scope p.table p.objects p.links x work_of)

    promotes : p.left.told.number ≡ 0 → Promotes bytes words p (ops_expected needs bytes words (trial_ops p.scope p.left.told.lookups p.table) p.objects p.links) (lent_step (pack_call_of s p) p.left.left.stores)
    promotes z = go (eqb (step_on (start p.objects p.links) s).told.number 0) refl
      where
        go : (b : Bool) → eqb (step_on (start p.objects p.links) s).told.number 0 ≡ b
            → Promotes bytes words p (ops_expected needs bytes words (trial_ops p.scope p.left.told.lookups p.table) p.objects p.links) (lent_step (pack_call_of s p) p.left.left.stores)
        go true q =
            let begins = eqb-true _ 0 q in
            let t = subst (IsTrial p.scope p.table p.objects p.links x begins) (sym k) (found-trial p.scope p.table p.objects p.links x begins (ap (λ (l : PromoteLeft). l.told.number) (sym k) ∙ z)) in
            let n = p.left.told.lookups in
            let y = before p.scope p.table p.objects p.links x n in
            let tried = trial_at p.scope p.table p.objects p.links x n in
            let read : tried.read.told ≡ ops_expected needs bytes words (trial_ops p.scope n p.table) p.objects p.links =
            read_told (trial_ops p.scope n p.table) p.objects p.links y.stores work_of
            ∙ (λ i. ops_expected needs ((t.afresh.same_bytes ∙ e) i) ((t.afresh.same_words ∙ f) i) (trial_ops p.scope n p.table) p.objects p.links) in
            let id : p.left.told.id ≡ tried.read.told.id = ap (λ (l : PromoteLeft). l.told.id) t.is in
            let stores-are : p.left.left.stores ≡ tried.read.stores = ap (λ (l : PromoteLeft). l.left.stores) t.is in
            let same : lent_step (pack_call_of s p) p.left.left.stores ≡ tried.pack = λ i. lent_step (pack (id i) 0 (sym t.afresh.output i) y.work) (stores-are i) in
            rw same record {
              readable = ap (λ (r : ReadTold). r.number) (sym read) ∙ t.read;
              id-is = id ∙ ap (λ (r : ReadTold). r.id) read;
              tally-is = ap (λ (l : PromoteLeft). l.told.tally) t.is ∙ ap (λ (r : ReadTold). r.tally) read;
              packed = t.pack;
              length-is = ap (λ (l : PromoteLeft). l.told.length) t.is;
              output-is = ap (λ (l : PromoteLeft). l.left.out) t.is;
            }
        go false q = absurd (start-refused p.scope p.table p.objects p.links x (eqb-false _ 0 q) (ap (λ (l : PromoteLeft). l.told.number) (sym k) ∙ z))

    one-promote : One (promote p) s h
    unfolding Right
    one-promote =
        let l = promote-leaves ∙ left-run calls s ∙ sym (go (eqb p.left.told.number 0)) in
        record { as-run = refl; leaves = l; right = (promotes, l) }
      where
        go : (b : Bool) → stores_after (run (map on_stores calls ++ pick b (pack_call_of s p ∷ []) []) s) s ≡ stores_after (run (map on_stores calls) s) s
        go true = pack-behind (map on_stores calls) _ _ _ _ s
        go false = ap (λ cs. stores_after (run cs s) s) (append-nil (map on_stores calls))

  one : {s : Stores} {h : History} → Holds s h → (x : AnyMade) → IsStep s x → One x s h
  unfolding IsStep
  one {h = h} z (call m) k = one-call h m k
  one {h = h} z (read r) k = one-read h r z.same_bytes z.same_words k
  one z (batch b) k = one_batch z b k
  one {s} {h} z (promote p) k = one-promote s h p z.same_bytes z.same_words k

  after-one : {s : Stores} {h : History} (x : AnyMade) → Holds s h → One x s h → Holds (left_by x) (history_after bytes words (made_by bytes words h x s) h)
  after-one {s} {h} x k o = rw (o.leaves, o.as-run) (holding-run (stands_for bytes words s h x) k)

  -- ---- a list of them

  record Listed (xs : List AnyMade) (s : Stores) (h : History) : Type 0 where
    calls : List LentCall
    as-run : as_calls bytes words xs s h ≡ run calls s
    right : AllRight bytes words xs s h

  -- one more in front
  run_more : (x : AnyMade) {xs : List AnyMade} {s : Stores} {h : History} → One x s h → (l : Listed xs (left_by x) (history_after bytes words (made_by bytes words h x s) h))
      → as_calls bytes words (x ∷ xs) s h ≡ run (stands_for bytes words s h x ++ l.calls) s
  unfolding as_calls
  run_more x {xs} {s} {h} o l =
      let ms = made_by bytes words h x s in
      ap (λ r. ms ++ r) (subst (λ t. as_calls bytes words xs t (history_after bytes words ms h) ≡ run l.calls t) o.leaves l.as-run)
      ∙ ap (λ r. r ++ run l.calls (stores_after r s)) o.as-run
      ∙ sym (run-append (stands_for bytes words s h x) l.calls s)

  right-more : (x : AnyMade) {xs : List AnyMade} {s : Stores} {h : History} → One x s h → Listed xs (left_by x) (history_after bytes words (made_by bytes words h x s) h) → AllRight bytes words (x ∷ xs) s h
  unfolding AllRight
  right-more x o l = (o.right, l.right)

  module _ {made : Stores → AnyMade → Type 0} (step : (s : Stores) (x : AnyMade) → made s x → IsStep s x) where
    all_listed : {xs : List AnyMade} {s : Stores} {h : History} → Holds s h → RanAny made s xs → Listed xs s h
    unfolding as_calls AllRight run
    all_listed k none = record { calls = []; as-run = refl; right = tt }
    all_listed {s = s} {h = h} k (more {x = x} m r) =
        let o = one k x (step s x m) in
        let l = all_listed (after-one x k o) r in
        record { calls = stands_for bytes words s h x ++ l.calls; as-run = run_more x o l; right = right-more x o l }

-- ---- from the start on

abbrev behind_first : {A : Type 0} → List A → List A
behind_first [] = []
behind_first (x ∷ xs) = xs

abbrev first_of : {A : Type 0} → A → List A → A
first_of d [] = d
first_of d (x ∷ xs) = x

-- an accepted start begins the history anew
start-begins : (objects links : ℕ) (s : Stores) (h : History) → (step_on (start objects links) s).told.number ≡ 0
    → after_one (length s.bytes) (length s.words) (on_stores (start objects links)) h ≡ begun (limits_of objects links s.bytes)
unfolding as_lent after_all after as_call judged accept
start-begins objects links s h e = rw (start-accepted objects links s e)

-- what calls behind it leave
start-run : (objects links : ℕ) (s : Stores) (h : History) (cs : List LentCall) → (step_on (start objects links) s).told.number ≡ 0
    → let bytes = length s.bytes in
    let words = length s.words in
    let ms = run (on_stores (start objects links) ∷ cs) s in
    Holding bytes words (stores_after ms s) (history_after bytes words ms h)
unfolding run stores_after history_after lent_step
start-run objects links s h cs y =
    let s₁ = (step_on (start objects links) s).stores in
    let bytes = length s.bytes in
    let words = length s.words in
    subst (λ g. Holding bytes words (stores_after (run cs s₁) s₁) (history_after bytes words (run cs s₁) g)) (sym (start-begins objects links s h y)) (holding-run bytes words cs (holding-start objects links s y))

module _ {made : Stores → AnyMade → Type 0} (step : (s : Stores) (x : AnyMade) → made s x → IsStep s x) where
  -- a list of calls behind it
  from_start : (objects links : ℕ) (s : Stores) (first : Made) (rest : List Made) (cs : List LentCall)
      → let s₁ = (step_on (start objects links) s).stores in
      (step_on (start objects links) s).told.number ≡ 0 → first.left.stores ≡ s₁ → rest ≡ run cs s₁
      → AllClaim (length s.bytes) (length s.words) rest first.left.stores (begun (limits_of objects links s.bytes))
  from_start objects links s first rest cs y e f = rw (e, f) (demand-3 objects links s y cs)

  -- what a start leaves, and the list behind it
  call-listed : (objects links : ℕ) (s : Stores) (h : History) (m : Made) {xs : List AnyMade} → m.left ≡ lent_step m.call s → m.call ≡ on_stores (start objects links)
      → (step_on (start objects links) s).told.number ≡ 0 → RanAny made m.left.stores xs
      → Listed (length s.bytes) (length s.words) xs m.left.stores (history_after (length s.bytes) (length s.words) (m ∷ []) h)
  unfolding lent_step history_after
  call-listed objects links s h m e f y r =
      let l : m.left.stores ≡ (step_on (start objects links) s).stores = ap (λ x. x.stores) (e ∙ ap (λ c. lent_step c s) f) in
      let k : Holding (length s.bytes) (length s.words) m.left.stores (after_one (length s.bytes) (length s.words) m.call h) = rw (l, f, start-begins objects links s h y) (holding-start objects links s y) in
      all_listed _ _ step k r

  -- a list that begins with a call that has a start of its own
  record Starting (x : AnyMade) (s : Stores) (h : History) : Type 0 where
    objects : ℕ
    links : ℕ
    calls : List LentCall
    is : stands_for (length s.bytes) (length s.words) s h x ≡ on_stores (start objects links) ∷ calls
    one-is : One (length s.bytes) (length s.words) x s h

  record StartListed (objects links : ℕ) (x : AnyMade) (xs : List AnyMade) (s : Stores) (h : History) : Type 0 where
    calls : List LentCall
    as-run : as_calls (length s.bytes) (length s.words) (x ∷ xs) s h ≡ run (on_stores (start objects links) ∷ calls) s
    right : AllRight (length s.bytes) (length s.words) (x ∷ xs) s h

  start-listed : (x : AnyMade) (xs : List AnyMade) (s : Stores) (h : History) (k : Starting x s h) → (step_on (start k.objects k.links) s).told.number ≡ 0 → RanAny made (left_by x) xs
      → StartListed k.objects k.links x xs s h
  start-listed x xs s h k y q =
      let bytes = length s.bytes in
      let words = length s.words in
      let o = k.one-is in
      let m : made_by bytes words h x s ≡ run (on_stores (start k.objects k.links) ∷ k.calls) s = o.as-run ∙ ap (λ cs. run cs s) k.is in
      let holds : Holding bytes words (left_by x) (history_after bytes words (made_by bytes words h x s) h) = rw (o.leaves, m) (start-run k.objects k.links s h k.calls y) in
      let l = all_listed bytes words step holds q in
      record { calls = k.calls ++ l.calls; as-run = run_more bytes words x o l ∙ ap (λ cs. run (cs ++ l.calls) s) k.is; right = right-more bytes words x o l }

  -- it is as the history says
  start-claim : (objects links : ℕ) (s : Stores) (h : History) (x : AnyMade) (xs : List AnyMade) (first : Made) (rest : List Made) (k : Starting x s h) → RanAny made (left_by x) xs
      → as_calls (length s.bytes) (length s.words) (x ∷ xs) s h ≡ first ∷ rest → first.call ≡ on_stores (start objects links) → first.left.told.number ≡ 0
      → AllClaim (length s.bytes) (length s.words) rest first.left.stores (begun (limits_of objects links s.bytes)) × AllRight (length s.bytes) (length s.words) (x ∷ xs) s h
  unfolding as_calls run stores_after lent_step
  start-claim objects links s h x xs first rest k q e f z =
      let bytes = length s.bytes in
      let words = length s.words in
      let begin : Made = record { call = on_stores (start k.objects k.links); left = lent_step (on_stores (start k.objects k.links)) s } in
      let ms = made_by bytes words h x s in
      let more_of : List Made → List Made = λ r. r ++ as_calls bytes words xs (stores_after ms s) (history_after bytes words ms h) in
      let m : ms ≡ run (on_stores (start k.objects k.links) ∷ k.calls) s = k.one-is.as-run ∙ ap (λ cs. run cs s) k.is in
      let d : begin ≡ first = ap (first_of first) (sym (ap more_of m) ∙ e) in
      let g : on_stores (start k.objects k.links) ≡ on_stores (start objects links) = ap (λ (x : Made). x.call) d ∙ f in
      let eo : k.objects ≡ objects = cc in
      let el : k.links ≡ links = cc in
      let y : (step_on (start k.objects k.links) s).told.number ≡ 0 = ap (λ (x : Made). x.left.told.number) d ∙ z in
      let l = start-listed x xs s h k y q in
      let w : run (on_stores (start k.objects k.links) ∷ l.calls) s ≡ first ∷ rest = sym l.as-run ∙ e in
      (rw (← eo, ← el) (from_start k.objects k.links s first rest l.calls y (ap (λ (x : Made). x.left.stores) (sym d)) (sym (ap behind_first w))), l.right)

  read-starts : (s : Stores) (h : History) (r : MadeRead) → r.left ≡ read_step r.scope r.table r.objects r.links s → Starting (read r) s h
  unfolding ops_calls
  read-starts s h r e = record { objects = r.objects; links = r.links; calls = _; is = refl; one-is = one-read (length s.bytes) (length s.words) h r refl refl e }

  promote-starts : (s : Stores) (h : History) (p : MadePromote) → p.left ≡ promote_step p.scope p.table p.objects p.links (lent s p.out p.work) → Starting (promote p) s h
  unfolding ops_calls
  promote-starts s h p e = go (eqb p.left.told.number 0) refl
    where
      shape : Bool → List LentCall
      shape b =
          map on_stores (pick b (ops_calls needs (length s.bytes) (length s.words) (trial_ops p.scope p.left.told.lookups p.table) p.objects p.links) (start p.objects p.links ∷ []))
          ++ pick b (pack_call_of s p ∷ []) []

      o : One (length s.bytes) (length s.words) (promote p) s h
      o = one-promote (length s.bytes) (length s.words) s h p refl refl e

      go : (b : Bool) → eqb p.left.told.number 0 ≡ b → Starting (promote p) s h
      go true q = record { objects = p.objects; links = p.links; calls = behind_first (shape true); is = ap shape q; one-is = o }
      go false q = record { objects = p.objects; links = p.links; calls = behind_first (shape false); is = ap shape q; one-is = o }

  pub any-claim : EveryAnyList made
  unfolding as_calls AllRight Right IsStep lent_step run stores_after ops_calls
  any-claim objects links s h (call m) xs first rest (more c r) b e f z =
      let q : m ≡ first = cc in
      let t : as_calls (length s.bytes) (length s.words) xs m.left.stores (history_after (length s.bytes) (length s.words) (m ∷ []) h) ≡ rest = cc in
      let g : m.call ≡ on_stores (start objects links) = ap (λ (x : Made). x.call) q ∙ f in
      let l : m.left ≡ lent_step (on_stores (start objects links)) s = step s (call m) c ∙ ap (λ c. lent_step c s) g in
      let y : (step_on (start objects links) s).told.number ≡ 0 = ap (λ x. x.told.number) (sym l) ∙ ap (λ (x : Made). x.left.told.number) q ∙ z in
      let left = ap (λ x. x.stores) l in
      let k = call-listed objects links s h m (step s (call m) c) g y r in
      (from_start objects links s first rest k.calls y (ap (λ (x : Made). x.left.stores) (sym q) ∙ left) (sym t ∙ k.as-run ∙ ap (run k.calls) left), (tt, k.right))
  any-claim objects links s h (read r) xs first rest (more c q) b e f z = start-claim objects links s h (read r) xs first rest (read-starts s h r (step s (read r) c)) q e f z
  any-claim objects links s h (promote p) xs first rest (more c q) b e f z = start-claim objects links s h (promote p) xs first rest (promote-starts s h p (step s (promote p) c)) q e f z
  any-claim objects links s h (batch x) xs first rest r b e f z = absurd b
