-- A table's ops tell no other numbers than 0, 6, 7, 8, 15 and 16: few objects are open, one is while it is written, it has a byte when it is closed, and
-- a link leads to what was closed just before.
use mathlib.Core.Path.{◌≡◌, refl, sym, ap, ◌∙◌}
use Prim.Native.Nat.{ℕ, zero, suc, ◌+◌, ◌≤◌, ◌<◌}
use mathlib.Core.List.{List, [], ◌∷◌, ◌++◌, append_assoc, append-nil}
use mathlib.Core.Bool.{Bool, true, false, true≢false}
use native.Mathlib.Omega.{arith}
use borrow.Author.Tests.{eqb-true, leb-true, le-leb}
use lib.Dec.{eqb, leb}
use lib.ListN.{length}
use Rattle.lists.specs.Lists.{pick, part}
use Rattle.lists.proofs.Same.{and_left, and_right}
use Rattle.lists.proofs.Runs.{length_part}
use Rattle.answer.specs.declared.tally.Tally.{Tally}
use Rattle.model_orders.specs.Object.{Slot, new_slot, width_ok, slot_ok}
use Rattle.model_orders.specs.Reading.{Reading, reading_at, reading_size, hopeless_reading}
use Rattle.model.specs.Judge.{Limits, most_open, Verdict, accepted, refused, number_of, Test, Tells, none, this, next, verdict, open_tests, put_tests, link_tests, close_tests}
use Rattle.model.specs.Told.{done_close}
use Rattle.model.specs.Session.{Needs}
use Rattle.model.specs.History.{History, begun, counts, innermost_reading, id_of, others, judged, accept, next as chosen, after, tell, id_told, expected}
use Rattle.model.proofs.Refusals.{told-exactly}
use Rattle.model.proofs.Verdicts.{refused-number}
use Rattle.model.proofs.Closings.{known-closed}
use Rattle.steps.specs.Runs.{StoreCall, as_call}
use Rattle.steps.specs.Runs as calls
use Rattle.steps.specs.Mirrored.{Step, by_history}
use Rattle.gsub.specs.declared.Scope.{Scope}
use Rattle.gsub.specs.declared.Kind.{Kind}
use Rattle.gsub.specs.declared.Field.{Field}
use Rattle.gsub.specs.declared.Kind.TheVariants.{Header}
use Rattle.gsub.specs.Tables.{formats, shape, fields_of, word_at, fields_at}
use Rattle.gsub.specs.Meaning.{deepest}
use Rattle.gsub.proofs.Formats.{kinds, of_all, every_kind, each_shape, every-shape}
use Rattle.gsub.specs.Ops.{Act, keep, follow, refuse, value_at, act, Op, begin, put, link, end, act_ops, fields_ops, ops_by, Outcome, outcome, go_on, perform}
use Rattle.gsub.specs.Refusals.{tellable}
use Rattle.gsub.specs.Promote.{Mode, bytes_in, place_in, child_mode, child_place, mode_ops}
use Rattle.gsub.proofs.Grows.{size-put, size-link}
use Rattle.gsub.proofs.Accepted.{act-room}
use Rattle.gsub.proofs.Fields.{all_fields, all_runs, all_laid, fields_join, has_first}

-- ---- which number a call's tests tell

open-tells : (t : Tally) (k : ℕ) → t.depth < most_open → Tells (open_tests true t) k → k ≡ 0
open-tells t k d (this e f) = absurd (true≢false (sym e))
open-tells t k d (next e (this g f)) = absurd (omega (arith, leb-true most_open t.depth g))
open-tells t k d (next e (next g (none f))) = f

put-tells : (m : Limits) (t : Tally) (n k : ℕ) → 0 < t.depth → Tells (put_tests true m t n) k → tellable k ≡ true
unfolding tellable
put-tells m t n k d (this e f) = absurd (true≢false (sym e))
put-tells m t n k d (next e (this g f)) = absurd (omega (arith, eqb-true t.depth 0 g))
put-tells m t n k d (next e (next g (this h f))) = rw f
put-tells m t n k d (next e (next g (next h (none f)))) = rw f

link-tells : (m : Limits) (t : Tally) (s : Slot) (id k : ℕ) → 0 < t.depth → slot_ok s ≡ true → id < t.objects → Tells (link_tests true m t s id) k → tellable k ≡ true
unfolding tellable
link-tells m t s id k d o c (this e f) = absurd (true≢false (sym e))
link-tells m t s id k d o c (next e (this g f)) = absurd (omega (arith, eqb-true t.depth 0 g))
link-tells m t s id k d o c (next e (next g (this h f))) = absurd (true≢false (sym (rw o at h)))
link-tells m t s id k d o c (next e (next g (next h (this i f)))) = absurd (omega (arith, leb-true t.objects id i))
link-tells m t s id k d o c (next e (next g (next h (next i (this j f))))) = rw f
link-tells m t s id k d o c (next e (next g (next h (next i (next j (this l f)))))) = rw f
link-tells m t s id k d o c (next e (next g (next h (next i (next j (next l (none f))))))) = rw f

close-tells : (m : Limits) (t : Tally) (size : ℕ) (hopeless : Bool) (twin k : ℕ) → 0 < t.depth → 0 < size → Tells (close_tests true m t size hopeless twin) k → tellable k ≡ true
unfolding tellable
close-tells m t size hopeless twin k d o (this e f) = absurd (true≢false (sym e))
close-tells m t size hopeless twin k d o (next e (this g f)) = absurd (omega (arith, eqb-true t.depth 0 g))
close-tells m t size hopeless twin k d o (next e (next g (this h f))) = absurd (omega (arith, eqb-true size 0 h))
close-tells m t size hopeless twin k d o (next e (next g (next h (this i f)))) = rw f
close-tells m t size hopeless twin k d o (next e (next g (next h (next i (this j f))))) = rw f
close-tells m t size hopeless twin k d o (next e (next g (next h (next i (next j (none f)))))) = rw f

-- ---- a field has a width that a link may have

abbrev field_ok : Field → Bool
field_ok f = width_ok f.width

shape-ok : (k : Kind) (first second : ℕ) → all_runs (all_fields field_ok) (shape k first second) ≡ true
unfolding every_kind of_all kinds each_shape formats all_runs
shape-ok = every-shape (λ k. all_runs (all_fields field_ok)) refl

all-ok : (k : Kind) (w : ℕ → ℕ) → all_fields field_ok (fields_of k w) ≡ true
unfolding fields_of
all-ok k w = all_laid (all_fields field_ok) (fields_join field_ok) w (shape k (w 0) (w 2)) 0 (shape-ok k (w 0) (w 2))

-- ---- calls on the history

others-length : (l : List Reading) (d : ℕ) → length l ≡ suc d → length (others l) ≡ d
others-length [] d e = absurd (omega arith)
others-length (r ∷ l) d e = omega arith

module _ (n : Needs) (store records : ℕ) where
  abbrev call : StoreCall → History → Step History
  call = by_history n store records

  told-by : (v : Verdict) (t u : Tally) (i : ℕ) → (tell v t (done_close i u)).number ≡ number_of v
  told-by accepted t u i = refl
  told-by (refused why) t u i = refl

  by_tests : (c : StoreCall) (h : History) (ts : List Test) → judged n (as_call store records c) h ≡ verdict ts → Tells ts (call c h).number
  unfolding expected
  by_tests c h ts e = (told-exactly ts _).only (ap number_of (sym e) ∙ sym (told-by (judged n (as_call store records c) h) _ _ _))

  -- what an accepted call leaves
  left_by : (c : StoreCall) (h : History) → (call c h).number ≡ 0 → (call c h).next ≡ accept (as_call store records c) h
  unfolding expected after
  left_by c h = go (judged n (as_call store records c) h)
    where
      go : (v : Verdict) → (tell v (counts h) (done_close (id_told (as_call store records c) h) (counts (accept (as_call store records c) h)))).number ≡ 0 → chosen v (accept (as_call store records c) h) h ≡ accept (as_call store records c) h
      go accepted z = refl
      go (refused why) z = absurd (omega (arith, refused-number why))

  -- and tells
  id-by : (c : StoreCall) (h : History) → (call c h).number ≡ 0 → (call c h).id ≡ id_told (as_call store records c) h
  unfolding expected
  id-by c h = go (judged n (as_call store records c) h)
    where
      go : (v : Verdict) → (tell v (counts h) (done_close (id_told (as_call store records c) h) (counts (accept (as_call store records c) h)))).number ≡ 0
          → (tell v (counts h) (done_close (id_told (as_call store records c) h) (counts (accept (as_call store records c) h)))).id ≡ id_told (as_call store records c) h
      go accepted z = refl
      go (refused why) z = absurd (omega (arith, refused-number why))

  -- what follows
  abbrev Fine : Outcome History → Type 0
  Fine o = tellable o.number ≡ true

  go-fine : (t : Step History) (o : Outcome History) → tellable t.number ≡ true → (t.number ≡ 0 → Fine o) → Fine (go_on t o)
  go-fine t o f l = go (eqb t.number 0) refl
    where
      go : (b : Bool) → eqb t.number 0 ≡ b → Fine (pick b o (outcome t.number 0 0 t.next))
      go true e = l (eqb-true _ 0 e)
      go false e = f

  -- the innermost of d + 1 open objects has bytes
  record Filled (d : ℕ) (h : History) : Type 0 where
    depth : length h.opens ≡ suc d
    some : 0 < reading_size (innermost_reading h.opens)

  module _ (d : ℕ) (rest : List Op) where
    -- what follows is fine with d objects open and an id that is known; inside one more; inside one that has bytes
    abbrev Behind : Type 0
    Behind = (i : ℕ) (h : History) → length h.opens ≡ d → i < length h.closed → Fine (perform call rest i h)

    abbrev Inside : Type 0
    Inside = (i : ℕ) (h : History) → Filled d h → Fine (perform call rest i h)

    begin-fine : d < most_open → ((i : ℕ) (h : History) → length h.opens ≡ suc d → Fine (perform call rest i h)) → (i : ℕ) (h : History) → length h.opens ≡ d → Fine (perform call (begin ∷ rest) i h)
    unfolding perform judged as_call accept tellable
    begin-fine l later i h e =
        let z = open-tells (counts h) _ (omega arith) (by_tests calls.open' h (open_tests true (counts h)) refl) in
        go-fine (call calls.open' h) _ (rw z) (λ q. rw (left_by calls.open' h q) (later i _ (rw e)))

    put-fine : (vs : List ℕ) → 0 < length vs → Inside → (i : ℕ) (h : History) → length h.opens ≡ suc d → Fine (perform call (put vs ∷ rest) i h)
    unfolding perform judged as_call accept
    put-fine vs some later i h e =
        go-fine (call (calls.put vs) h) _ (put-tells h.limits (counts h) (length vs) _ (omega arith) (by_tests (calls.put vs) h (put_tests true h.limits (counts h) (length vs)) refl))
        (λ q. rw (left_by (calls.put vs) h q) (later i _ (record { depth = rw (others-length h.opens d e); some = omega (arith, size-put vs (innermost_reading h.opens)) })))

    link-fine : (w : ℕ) → width_ok w ≡ true → Inside → (i : ℕ) (h : History) → length h.opens ≡ suc d → i < length h.closed → Fine (perform call (link w ∷ rest) i h)
    unfolding perform judged as_call accept
    link-fine w ok later i h e k =
        let s = new_slot (reading_size (innermost_reading h.opens)) w 0 in
        let some : 0 < w = omega (arith, leb-true 2 w (and_left (leb 2 w) _ ok)) in
        go-fine (call (calls.link w i 0) h) _
        (link-tells h.limits (counts h) s i _ (omega arith) (rw (ok, le-leb 0 s.at (omega arith))) k (by_tests (calls.link w i 0) h (link_tests true h.limits (counts h) s i) refl))
        (λ q. rw (left_by (calls.link w i 0) h q) (later i _ (record { depth = rw (others-length h.opens d e); some = omega (arith, size-link w 0 (reading_at h.closed i) (innermost_reading h.opens)) })))

    end-fine : Behind → (i : ℕ) (h : History) → Filled d h → Fine (perform call (end ∷ rest) i h)
    unfolding perform judged as_call accept expected id_told
    end-fine later i h o =
        let r = innermost_reading h.opens in
        go-fine (call calls.close h) _
        (close-tells h.limits (counts h) (reading_size r) (hopeless_reading r) (id_of h) _ (omega (arith, o.depth)) o.some (by_tests calls.close h (close_tests true h.limits (counts h) (reading_size r) (hopeless_reading r) (id_of h)) refl))
        (λ q. rw (left_by calls.close h q, id-by calls.close h q) (later (id_of h) _ (others-length h.opens d o.depth) (known-closed h).within))

  -- ---- a table

  -- ops are fine with d objects open, if what follows is
  abbrev FineAt : ℕ → List Op → Type 0
  FineAt d ops = (rest : List Op) → Behind d rest → (i : ℕ) (h : History) → length h.opens ≡ d → Fine (perform call (ops ++ rest) i h)

  module _ (ops : ℕ → Kind → ℕ → List Op) (b : List ℕ) (p d : ℕ) (below : (a : ℕ) (k : Kind) (q : ℕ) → FineAt (suc d) (ops a k q)) where
    -- one field
    act-fine : (rest : List Op) (a : ℕ) (f : Field) → field_ok f ≡ true → Inside d rest → (y : Act) → act b (p + a) f ≡ y
        → (i : ℕ) (h : History) → length h.opens ≡ suc d → Fine (perform call (act_ops (ops a) b p a f.width y ++ rest) i h)
    unfolding act_ops perform tellable
    act-fine rest a f ok later keep e i h q =
        let room = act-room b (p + a) f (λ z. let r : keep ≡ refuse = sym e ∙ z in absurd (let x : ◌≡◌ {A = ℕ} 0 1 = cc in omega arith)) in
        let long = length_part (p + a) (p + a + f.width) b room in
        put-fine d rest (part (p + a) (p + a + f.width) b) (omega (arith, long, leb-true 2 f.width (and_left (leb 2 f.width) _ ok))) later i h q
    act-fine rest a f ok later (follow k) e i h q =
        let to = p + value_at b (p + a) f.width in
        rw (append_assoc (ops a k to) (link f.width ∷ []) rest) (below a k to (link f.width ∷ rest) (link-fine d rest f.width ok later) i h q)
    act-fine rest a f ok later refuse e i h q = refl

    -- fields behind the first one
    fields-fine : (rest : List Op) (fs : List Field) (a : ℕ) → all_fields field_ok fs ≡ true → Inside d rest → Inside d (fields_ops ops b p a fs ++ rest)
    unfolding fields_ops
    fields-fine rest [] a ok later i h q = later i h q
    fields-fine rest (f ∷ fs) a ok later i h q =
        rw (append_assoc (act_ops (ops a) b p a f.width (act b (p + a) f)) (fields_ops ops b p (a + f.width) fs) rest)
        (act-fine _ a f (and_left (field_ok f) _ ok) (fields-fine rest fs (a + f.width) (and_right (field_ok f) _ ok) later) (act b (p + a) f) refl i h q.depth)

    -- all of them, of an object that has no bytes yet
    all-fine : (rest : List Op) (f : Field) (fs : List Field) → all_fields field_ok (f ∷ fs) ≡ true → Inside d rest → (i : ℕ) (h : History) → length h.opens ≡ suc d
        → Fine (perform call (fields_ops ops b p 0 (f ∷ fs) ++ rest) i h)
    unfolding fields_ops
    all-fine rest f fs ok later i h q =
        rw (append_assoc (act_ops (ops 0) b p 0 f.width (act b (p + 0) f)) (fields_ops ops b p (0 + f.width) fs) rest)
        (act-fine _ 0 f (and_left (field_ok f) _ ok) (fields-fine rest fs (0 + f.width) (and_right (field_ok f) _ ok) later) (act b (p + 0) f) refl i h q)

    table-fine : d < most_open → (k : Kind) → FineAt d (ops_by ops b k p)
    table-fine l k rest later i h q =
        let fs = fields_at b k p in
        let t = has_first (λ j. word_at b (p + j)) k in
        let ok = all-ok k (λ j. word_at b (p + j)) in
        ap (λ (x : List Op). tellable (perform call (begin ∷ x) i h).number) (append_assoc (fields_ops ops b p 0 fs) (end ∷ []) rest)
        ∙ begin-fine d (fields_ops ops b p 0 fs ++ (end ∷ rest)) l (rw t.whole (all-fine (end ∷ rest) t.first t.others (rw t.whole at ok) (end-fine d rest later))) i h q

  mode-fine : (e : ℕ) (b : List ℕ) (m : Mode) (k : Kind) (p d : ℕ) → d + e ≤ most_open → FineAt d (mode_ops e b m k p)
  unfolding mode_ops tellable perform
  mode-fine zero b m k p d l = λ rest later i h q. refl
  mode-fine (suc e) b m k p d l =
      table-fine _ (bytes_in b m p) (place_in m p) d (λ a j q. mode-fine e b (child_mode b m p a j q) j (child_place m p q) (suc d) (omega arith)) (omega arith) k

  -- with nothing open at first, and nothing behind it
  pub tells-few : (s : Scope) (b : List ℕ) (m : Mode) (limits : Limits) → tellable (perform call (mode_ops deepest b m (Header s) 0) 0 (begun limits)).number ≡ true
  unfolding perform tellable
  tells-few s b m limits =
      ap (λ (x : List Op). tellable (perform call x 0 (begun limits)).number) (sym (append-nil (mode_ops deepest b m (Header s) 0)))
      ∙ mode-fine deepest b m (Header s) 0 0 (omega arith) [] (λ i h e k. refl) 0 (begun limits) refl
