-- The look for an equal closed object: id by id, each by its runs of the stores.
use mathlib.Core.Path.{◌≡◌, refl, sym, ap, subst, ◌∙◌}
use Prim.Native.Nat.{ℕ, ◌+◌, ◌-◌, ◌*◌, ◌≤◌, ◌<◌}
use mathlib.Core.List.{List, [], ◌∷◌}
use mathlib.Core.Bool.{true, false, ◌&&◌, and_assoc}
use native.Mathlib.Nat.{zero-add, add-zero}
use native.Mathlib.Numerals.{add-one}
use native.Mathlib.Omega.{arith}
use lib.ListN.{length, drop, drop_of_length-le}
use lib.Seq.{drop-cons}
use lib.Dec.{eqb}
use Rattle.lists.specs.Lists.{part, same_list, first_that}
use Rattle.lists.proofs.Alike.{length_run}
use Rattle.model_orders.specs.Object.{Object, no_object, same_link, same_object}
use Rattle.layout.specs.Words.{object_limit, closed_count, open_depth, store_length, links_at, link_words, need, links_of}
use Rattle.layout.specs.Decode.{object_in, closed_at, closed_to}
use Rattle.layout.specs.Known.{Read, Tested, Innermost}
use Rattle.layout.specs.declared.state.State.{State}
use Rattle.layout.specs.declared.span.Span.{Span}
use Rattle.layout.specs.Spans.{Within, Lies}
use Rattle.layout.proofs.Facts.{size-known}
use Rattle.layout.proofs.Links.{link-words}
use Rattle.steps.specs.Steps.{innermost_in, twin_in}
use Rattle.steps.proofs.Innermost.{inner-is}
use Rattle.steps.proofs.Tallies.{length-closed, closed-at}
use Rattle.session_find.specs.declared.Runs.{Runs}
use Rattle.session_find.specs.Runs.{runs_of, HasRuns, Ground}

-- ---- the closed objects by id

module _ (b w : List ℕ) where
  -- the answer, once the ids below i are looked at
  unfoldable pub twin_from : ℕ → ℕ
  twin_from i = i + first_that (same_object (innermost_in b w)) (drop i (closed_to b w (closed_count w)))

  twin-first : twin_in b w ≡ twin_from 0
  unfolding twin_in twin_from
  twin-first = sym (zero-add _)

  module _ (i : ℕ) where
    twin-none : closed_count w ≤ i → twin_from i ≡ i
    unfolding twin_from first_that
    twin-none h = rw (drop_of_length-le (closed_to b w (closed_count w)) {i = i} (omega (arith, length-closed b w (closed_count w))), add-zero)

    module _ (h : i < closed_count w) where
      closed-left : drop i (closed_to b w (closed_count w)) ≡ closed_at b w i ∷ drop (i + 1) (closed_to b w (closed_count w))
      closed-left =
          let l : i < length (closed_to b w (closed_count w)) = omega (arith, length-closed b w (closed_count w)) in
          rw (add-one i, drop-cons (closed_to b w (closed_count w)) i no_object l, closed-at b w (closed_count w) i h)

      twin-here : same_object (innermost_in b w) (closed_at b w i) ≡ true → twin_from i ≡ i
      unfolding twin_from first_that
      twin-here e = rw (closed-left, e, add-zero)

      twin-next : same_object (innermost_in b w) (closed_at b w i) ≡ false → twin_from i ≡ twin_from (i + 1)
      unfolding twin_from first_that
      twin-next e = rw (closed-left, e) (omega arith)

-- ---- two objects as runs of the stores

-- links are the same exactly if their words are
same-links : (i k : ℕ) (v w : List ℕ) → length v ≡ i * link_words → length w ≡ k * link_words → same_list same_link (links_of v) (links_of w) ≡ same_list eqb v w
unfolding same_list links_of
same-links i k [] [] h m = refl
same-links i k [] (x ∷ []) h m = absurd (omega arith)
same-links i k [] (x ∷ y ∷ []) h m = absurd (omega arith)
same-links i k [] (x ∷ y ∷ z ∷ []) h m = absurd (omega arith)
same-links i k [] (x ∷ y ∷ z ∷ u ∷ w) h m = refl
same-links i k (x ∷ []) w h m = absurd (omega arith)
same-links i k (x ∷ y ∷ []) w h m = absurd (omega arith)
same-links i k (x ∷ y ∷ z ∷ []) w h m = absurd (omega arith)
same-links i k (x ∷ y ∷ z ∷ u ∷ v) [] h m = refl
same-links i k (x ∷ y ∷ z ∷ u ∷ v) (x' ∷ []) h m = absurd (omega arith)
same-links i k (x ∷ y ∷ z ∷ u ∷ v) (x' ∷ y' ∷ []) h m = absurd (omega arith)
same-links i k (x ∷ y ∷ z ∷ u ∷ v) (x' ∷ y' ∷ z' ∷ []) h m = absurd (omega arith)
same-links i k (x ∷ y ∷ z ∷ u ∷ v) (x' ∷ y' ∷ z' ∷ u' ∷ w) h m = rw (same-links (i - 1) (k - 1) v w (omega arith) (omega arith), and_assoc, and_assoc, and_assoc)

-- an object that lies there has these runs
module _ {w : List ℕ} {s : Span} (objects : ℕ) (e : objects ≡ object_limit w) (t : Tested w) where
  -- its links' words end inside the record store
  runs-room : Within w s → need objects s.last ≤ length w
  runs-room k = omega (arith, k.link_inside, t.head.room)

  pub has-runs : {b : List ℕ} {lies : Span} {r : Runs} → store_length w ≡ length b → r ≡ runs_of objects s → Lies w lies s → HasRuns b w (object_in b w lies) r
  has-runs {b} size z x =
      let k = x.within in
      let bytes : s.from + (s.to - s.from) ≡ s.to = omega (arith, k.order) in
      let words : links_at w + s.first * link_words + (s.last - s.first) * link_words ≡ links_at w + s.last * link_words = omega (arith, k.link_order) in
      rw z
      (record {
        bytes_in = omega (arith, k.order, k.inside);
        words_in = omega (arith, k.link_order, runs-room k);
        count = s.last - s.first;
        words_is = refl;
        object_is = rw (e, bytes, words, ← link-words w s.first s.last k.link_inside) (ap (object_in b w) (sym x.is));
      })

pub ground : {b w : List ℕ} {s : State} {own : Span} {o : Runs} → Read b w s → Innermost w s own → o ≡ runs_of s.objects own → Ground b w s.objects s.closed o
ground {b} {w} {s} {o = o} r k z =
    let own = has-runs s.objects r.objects_is k.words.tested (size-known r) z (record { is = k.is; within = k.within }) in
    let some : 0 < open_depth w = omega (arith, r.depth_is, k.some) in
    record {
      tested = k.words.tested;
      size = size-known r;
      objects_is = r.objects_is;
      closed_is = r.closed_is;
      inner_runs = subst (λ x. HasRuns b w x o) (sym (inner-is b w some)) own;
    }

module _ {b w : List ℕ} {objects closed : ℕ} {own : Runs} (g : Ground b w objects closed own) {s : Span} where
  pub closed-runs : {lies : Span} {r : Runs} → r ≡ runs_of objects s → Lies w lies s → HasRuns b w (object_in b w lies) r
  closed-runs = has-runs objects g.objects_is g.tested g.size

  pub closed-room : Within w s → need objects s.last ≤ length w
  closed-room = runs-room objects g.objects_is g.tested

module _ {b w : List ℕ} {o p : Object} {s t : Runs} (x : HasRuns b w o s) (y : HasRuns b w p t) where
  pub same_runs : same_object o p ≡ (same_list eqb (part s.from (s.from + s.size) b) (part t.from (t.from + t.size) b)
      && same_list eqb (part s.at (s.at + s.words) w) (part t.at (t.at + t.words) w))
  same_runs =
      rw (x.object_is, y.object_is)
      (rw (same-links x.count y.count (part s.at (s.at + s.words) w) (part t.at (t.at + t.words) w)
      (length_run s.at s.words w x.words_in ∙ x.words_is) (length_run t.at t.words w y.words_in ∙ y.words_is)))

-- ---- the ids below i looked at

pub record Look (b w : List ℕ) (closed i : ℕ) : Type 0 where
  pub closed_is : closed ≡ closed_count w
  pub within : i ≤ closed
  pub twin_is : twin_in b w ≡ twin_from b w i

pub look-first : {b w : List ℕ} {closed : ℕ} → closed ≡ closed_count w → Look b w closed 0
look-first {b} {w} e = record { closed_is = e; within = omega arith; twin_is = twin-first b w }

module _ {b w : List ℕ} {closed i : ℕ} (k : Look b w closed i) where
  pub look_none : closed ≤ i → i ≡ twin_in b w
  look_none h = sym (k.twin_is ∙ twin-none b w i (omega arith))

  module _ (h : i < closed) where
    pub look-here : same_object (innermost_in b w) (closed_at b w i) ≡ true → i ≡ twin_in b w
    look-here e = sym (k.twin_is ∙ twin-here b w i (omega arith) e)

    pub look-next : same_object (innermost_in b w) (closed_at b w i) ≡ false → Look b w closed (i + 1)
    look-next e = record { closed_is = k.closed_is; within = omega arith; twin_is = k.twin_is ∙ twin-next b w i (omega arith) e }
