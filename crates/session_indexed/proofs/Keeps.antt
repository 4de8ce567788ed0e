-- A close keeps the index: of nothing open, and of an object whose look is done.
use mathlib.Core.Path.{◌≡◌, sym, ap, subst, subst₂, ◌∙◌}
use Prim.Native.Nat.{ℕ, ◌≤◌, ◌<◌}
use mathlib.Core.List.{List}
use mathlib.Core.Bool.{true}
use native.Mathlib.Omega.{arith}
use borrow.Author.Tests.{eq-eqb}
use lib.ListN.{length}
use lib.Dec.{ltb}
use Rattle.lists.specs.Lists.{pick}
use Rattle.answer.specs.Answers.{Closing}
use Rattle.model.specs.Judge.{verdict}
use Rattle.layout.specs.Words.{object_limit, closed_count, open_depth}
use Rattle.layout.specs.Decode.{closed_to}
use Rattle.layout.specs.Sound.{sound}
use Rattle.layout.specs.Known.{Read}
use Rattle.layout.specs.declared.state.State.{State}
use Rattle.steps.specs.Steps.{CloseOut, closing, close_step, innermost_in}
use Rattle.steps.specs.Runs.{StoreCall, Stores, close, step_on}
use Rattle.steps.proofs.Tallies.{length-closed}
use Rattle.session_hash.specs.Hash.{hash_of}
use Rattle.session_chains.specs.Index.{Indexed, added}
use Rattle.session_chains.proofs.Indexes.{indexed-room}
use Rattle.session_indexed.proofs.Stays.{Right, still-sound, still-long, quiet, quiet-right, quiet-limit, close-limit, close-room, close-right}
use Rattle.session_indexed.specs.Close.{Keeping, Kept, More}

close-nothing : (b w : List ℕ) → sound b w ≡ true → open_depth w ≡ 0 → ((close_step b w).bytes ≡ b) × ((close_step b w).words ≡ w)
unfolding close_step verdict
close-nothing b w h e = (rw (h, eq-eqb (open_depth w) 0 e), rw (h, eq-eqb (open_depth w) 0 e))

module _ {b w m : List ℕ} {buckets : ℕ} (k : Keeping b w m buckets) where
  -- nothing is open
  pub kept-nothing : {b' w' : List ℕ} {r : Closing} → open_depth w ≡ 0 → closing r b' w' ≡ close_step b w → Kept b w b' w' m buckets r
  kept-nothing {b'} {w'} d e =
      let z = close-nothing b w k.is_sound d in
      let p : b ≡ b' = sym (ap (λ (o : CloseOut). o.bytes) e ∙ z.0) in
      let q : w ≡ w' = sym (ap (λ (o : CloseOut). o.words) e ∙ z.1) in
      record { step = e; indexed = subst₂ (λ x y. Indexed (closed_to x y (closed_count y)) buckets m) p q k.indexed }

  abbrev s : Stores
  s = record { bytes = b; words = w }

  after : (closed_count (step_on close s).stores.words ≤ object_limit w)
      × (0 < open_depth w → Right buckets (pick (ltb (closed_count w) (closed_count (step_on close s).stores.words)) (added buckets (hash_of (innermost_in b w)) (closed_count w) m) m) (step_on close s).stores.bytes (step_on close s).stores.words)
  after = (close-room s k.is_sound k.indexed, λ d. close-right s k.is_sound k.indexed d k.room)

  module _ {b' w' : List ℕ} {r : Closing} (d : 0 < open_depth w) (e : closing r b' w' ≡ close_step b w) where
    bytes-is : (close_step b w).bytes ≡ b'
    bytes-is = sym (ap (λ (o : CloseOut). o.bytes) e)

    words-is : (close_step b w).words ≡ w'
    words-is = sym (ap (λ (o : CloseOut). o.words) e)

    right : Right buckets (pick (ltb (closed_count w) (closed_count w')) (added buckets (hash_of (innermost_in b w)) (closed_count w) m) m) b' w'
    unfolding step_on
    right = subst₂ (λ x y. Right buckets (pick (ltb (closed_count w) (closed_count y)) (added buckets (hash_of (innermost_in b w)) (closed_count w) m) m) x y) bytes-is words-is (after.1 d)

    most : closed_count w' ≤ object_limit w
    unfolding step_on
    most = subst (λ y. closed_count y ≤ object_limit w) words-is after.0

    long : length w' ≡ length w
    unfolding step_on
    long = subst (λ y. length y ≡ length w) words-is (still-long s k.is_sound k.indexed close)

    pub more-new : {st : State} {h : ℕ} → Read b w st → h ≡ hash_of (innermost_in b w) → More w' m buckets h st.closed
    more-new {st} {h} r q =
        record {
          counted = omega (arith, long, r.bounds.room);
          asked = λ i.
              let n = length-closed b w (closed_count w) in
              rw (q, r.closed_is) (rw n at (indexed-room k.indexed (innermost_in b w) (omega (arith, most, k.room, r.closed_is))));
        }

    pub kept-close : {c h : ℕ} {m' : List ℕ} → c ≡ closed_count w → h ≡ hash_of (innermost_in b w) → m' ≡ pick (ltb c (closed_count w')) (added buckets h c m) m → Kept b w b' w' m' buckets r
    kept-close p q z = record { step = e; indexed = rw (z, p, q) right }

  -- ---- on to the next call

  -- open, put, link, drop and tally leave the index as it is, and right
  pub keeping-quiet : (c : StoreCall) → quiet c ≡ true → Keeping (step_on c s).stores.bytes (step_on c s).stores.words m buckets
  keeping-quiet c e =
      record {
        is_sound = still-sound s k.is_sound k.indexed c;
        indexed = quiet-right s k.is_sound k.indexed c e;
        room = omega (arith, quiet-limit s k.is_sound k.indexed c e, k.room);
      }

  pub keeping-close : {b' w' m' : List ℕ} {r : Closing} → Kept b w b' w' m' buckets r → length m' ≡ length m → Keeping b' w' m' buckets
  unfolding step_on
  keeping-close {b'} {w'} x n =
      let p : (close_step b w).bytes ≡ b' = sym (ap (λ (o : CloseOut). o.bytes) x.step) in
      let q : (close_step b w).words ≡ w' = sym (ap (λ (o : CloseOut). o.words) x.step) in
      let l : object_limit w' ≡ object_limit w = subst (λ y. object_limit y ≡ object_limit w) q (close-limit s k.is_sound k.indexed) in
      record {
        is_sound = subst₂ (λ y z. sound y z ≡ true) p q (still-sound s k.is_sound k.indexed close);
        indexed = x.indexed;
        room = omega (arith, l, k.room);
      }
