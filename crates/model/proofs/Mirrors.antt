-- A session mirrors a history: the history's readings are those of the session's objects. One law for each call that changes them.
use mathlib.Core.Path.{◌≡◌, refl, sym, ap, ◌∙◌}
use Prim.Native.Nat.{ℕ, ◌≤◌, ◌<◌}
use mathlib.Core.List.{List, [], ◌∷◌, ◌++◌, map}
use mathlib.Core.Bool.{Bool, true, false}
use native.Mathlib.Omega.{arith}
use lib.ListN.{length, length-append, length-map}
use lib.Dec.{ltb}
use borrow.Author.Tests.{ltb-false}
use Rattle.lists.specs.Lists.{pick, first_that}
use Rattle.lists.proofs.Elements.{Each, none, more, each-then, map_each, at_snoc, total-map}
use Rattle.model_orders.specs.Object.{Object, no_object, object_at, size_of, link_count, with_bytes, with_link, hopeless_object}
use Rattle.model_orders.specs.Graph.{graph_of, Ranked, Acyclic}
use Rattle.model_orders.specs.Table.{Fields}
use Rattle.model_orders.specs.Reading.{Reading, reading_size, field_count, hopeless_reading, same_reading, read_links, read_object, readings_from, readings}
use Rattle.model.specs.Judge.{Limits}
use Rattle.model.specs.Session.{Session, tally_of, started, with_opens, innermost, outer, on_innermost, twin, sealed, SessionCall, open_call, put_call, link_call, close_call, drop_call}
use Rattle.model.specs.History.{History, history_of, counts, begun, keep_opens, innermost_reading, others, id_of, accept}
use Rattle.model_orders.proofs.Readings.{read_more, readings-snoc}
use Rattle.model_orders.proofs.Twins.{Distinct, distinct_snoc, readings-count, twin-id}
use Rattle.model.proofs.Growth.{read-size, read_count, read-hopeless, read-put, read-link, total-readings, Formed, formed-none, formed-more, formed-put, formed-link}

-- ---- the counts of what a session's objects read as

module _ (s : Session) where
  -- an open object's reading
  abbrev read_open : Object → Reading
  read_open o = read_object (readings s.closed) o

  pub history-counts : tally_of s ≡ counts (history_of s)
  history-counts =
      let os = s.closed in
      let a = total-map reading_size read_open size_of (read-size (readings os)) s.opens in
      let b = total-map field_count read_open link_count (read_count (readings os)) s.opens in
      let c = total-readings reading_size size_of read-size os in
      let d = total-readings field_count link_count read_count os in
      let held : (tally_of s).bytes ≡ (counts (history_of s)).bytes = omega (arith, a, c) in
      rw (held, b, d, readings-count os, length-map s.opens read_open)

-- ---- the invariant

-- The history is the session's. Open objects have closed children, closed ones children of lower ids; fields are in order, apart and
-- inside. No two closed objects read the same.
pub record Mirrors (s : Session) (h : History) : Type 0 where
  pub read : history_of s ≡ h
  pub open-formed : Each (Formed (length s.closed)) s.opens
  pub closed-formed : (i : ℕ) → Formed i (object_at s.closed i)
  pub distinct : Distinct (readings s.closed)

pub mirrors-started : (m : Limits) → Mirrors (started m) (begun m)
unfolding readings readings_from Distinct
mirrors-started m = record { read = refl; open-formed = none; closed-formed = formed-none; distinct = λ i j a b. absurd (omega arith) }

-- ---- the innermost open object and the others

inner-map : (rs : List Reading) (os : List Object) → innermost_reading (map (read_object rs) os) ≡ read_object rs (innermost os)
unfolding read_links
inner-map rs [] = refl
inner-map rs (o ∷ os) = refl

others-map : (rs : List Reading) (os : List Object) → others (map (read_object rs) os) ≡ map (read_object rs) (outer os)
others-map rs [] = refl
others-map rs (o ∷ os) = refl

inner-formed : {n : ℕ} {os : List Object} → Each (Formed n) os → Formed n (innermost os)
inner-formed {n = n} none = formed-none n
inner-formed (more f fs) = f

outer-formed : {n : ℕ} {os : List Object} → Each (Formed n) os → Each (Formed n) (outer os)
outer-formed none = none
outer-formed (more f fs) = fs

module _ {s : Session} {h : History} (m : Mirrors s h) where
  -- the closed objects' readings, and the innermost open object
  abbrev rs : List Reading
  rs = readings s.closed

  abbrev o : Object
  o = innermost s.opens

  -- ---- what both sides judge by

  pub mirrors-limits : s.limits ≡ h.limits
  mirrors-limits = ap (λ (k : History). k.limits) m.read

  pub mirrors-counts : tally_of s ≡ counts h
  mirrors-counts = history-counts s ∙ ap (λ (k : History). counts k) m.read

  -- what an object and its reading have alike
  inner-alike : {A : Type 0} (f : Object → A) (k : Reading → A) → ((qs : List Reading) (x : Object) → k (read_object qs x) ≡ f x) → f o ≡ k (innermost_reading h.opens)
  inner-alike f k e = sym (e rs o) ∙ ap k (sym (inner-map rs s.opens)) ∙ ap (λ (x : History). k (innermost_reading x.opens)) m.read

  pub mirrors-size : size_of o ≡ reading_size (innermost_reading h.opens)
  mirrors-size = inner-alike size_of reading_size read-size

  pub mirrors-hopeless : hopeless_object o ≡ hopeless_reading (innermost_reading h.opens)
  mirrors-hopeless = inner-alike hopeless_object hopeless_reading read-hopeless

  pub mirrors-acyclic : Acyclic (graph_of s.closed)
  unfolding Ranked
  mirrors-acyclic p c k = (m.closed-formed p).low c k

  pub mirrors-fields : Fields (graph_of s.closed)
  unfolding Fields
  mirrors-fields i = (m.closed-formed i).inside

  first-twin : twin s ≡ first_that (same_reading (read_object rs o)) rs
  first-twin = twin-id s.closed mirrors-acyclic m.distinct o (inner-formed m.open-formed).low

  -- the id of the equal closed object is that of the equal closed reading
  pub mirrors-twin : twin s ≡ id_of h
  mirrors-twin =
      let read : twin s ≡ id_of (history_of s) = first-twin ∙ ap (λ (r : Reading). first_that (same_reading r) rs) (sym (inner-map rs s.opens)) in
      read ∙ ap (λ (k : History). id_of k) m.read

  -- ---- the calls that change only the open objects

  opens-mirror : (os : List Object) (c : SessionCall) → history_of (with_opens os s) ≡ accept c (history_of s) → Each (Formed (length s.closed)) os
      → Mirrors (with_opens os s) (accept c h)
  opens-mirror os c e f = record { read = e ∙ ap (accept c) m.read; open-formed = f; closed-formed = m.closed-formed; distinct = m.distinct }

  pub mirrors-open : Mirrors (with_opens (no_object ∷ s.opens) s) (accept open_call h)
  unfolding accept read_links
  mirrors-open = opens-mirror _ open_call refl (more (formed-none _) m.open-formed)

  pub mirrors-put : (vs : List ℕ) → Mirrors (on_innermost (with_bytes vs) s) (accept (put_call vs) h)
  unfolding accept
  mirrors-put vs =
      opens-mirror _ (put_call vs) (rw (inner-map rs s.opens, others-map rs s.opens, read-put))
      (more (formed-put (inner-formed m.open-formed) vs) (outer-formed m.open-formed))

  -- the child is a closed object, and the inner start is not past the field
  pub mirrors-link : (w id i : ℕ) → id < length s.closed → i ≤ size_of o → Mirrors (on_innermost (with_link w id i) s) (accept (link_call w id i) h)
  unfolding accept
  mirrors-link w id i b c =
      opens-mirror _ (link_call w id i) (rw (inner-map rs s.opens, others-map rs s.opens, read-link))
      (more (formed-link (inner-formed m.open-formed) w id i b c) (outer-formed m.open-formed))

  pub mirrors-drop : Mirrors (with_opens (outer s.opens) s) (accept drop_call h)
  unfolding accept
  mirrors-drop =
      opens-mirror (outer s.opens) drop_call (ap (λ (os : List Reading). keep_opens os (history_of s)) (sym (others-map rs s.opens))) (outer-formed m.open-formed)

  -- ---- close: a duplicate is dropped, another object is one more closed one

  abbrev added : Session
  added = record { limits = s.limits; opens = outer s.opens; closed = s.closed ++ (o ∷ []) }

  abbrev added_to : History → History
  added_to k = record { limits = k.limits; opens = others k.opens; closed = k.closed ++ (innermost_reading k.opens ∷ []) }

  added-readings : readings added.closed ≡ rs ++ (read_object rs o ∷ [])
  unfolding readings
  added-readings = readings-snoc [] s.closed o

  -- the open objects read as before
  added-opens : map (read_open added) (outer s.opens) ≡ map (read_open s) (outer s.opens)
  added-opens =
      map_each (read_open added) (read_open s)
      (λ x f. ap (λ (qs : List Reading). read_object qs x) added-readings
      ∙ sym (read_more rs (read_object rs o) x (λ c k. omega (arith, f.low c k, readings-count s.closed)))) (outer-formed m.open-formed)

  mirrors-added : length s.closed ≤ twin s → Mirrors added (added_to h)
  mirrors-added b = record {
    read = rw (added-opens, added-readings, ← inner-map rs s.opens, ← others-map rs s.opens) (ap added_to m.read);
    open-formed = each-then (λ x f. formed-more f _ (omega (arith, length-append s.closed (o ∷ [])))) (outer-formed m.open-formed);
    closed-formed = at_snoc Formed s.closed o no_object (λ i n. m.closed-formed i) (inner-formed m.open-formed);
    distinct = rw added-readings (distinct_snoc rs m.distinct (read_object rs o) (omega (arith, first-twin, readings-count s.closed)));
  }

  pub mirrors-close : Mirrors (sealed s) (accept close_call h)
  unfolding accept
  mirrors-close = rw same_test (go (ltb (twin s) (length s.closed)) refl)
    where
      same_test : ltb (id_of h) (length h.closed) ≡ ltb (twin s) (length s.closed)
      same_test = rw (mirrors-twin, ← m.read, readings-count s.closed)

      go : (b : Bool) → ltb (twin s) (length s.closed) ≡ b
          → Mirrors (record { limits = s.limits; opens = outer s.opens; closed = pick b s.closed added.closed })
          (record { limits = h.limits; opens = others h.opens; closed = pick b h.closed (added_to h).closed })
      go true e = mirrors-drop
      go false e = mirrors-added (ltb-false (twin s) (length s.closed) e)
