-- What the calls on a sound session do to the index of its closed objects: a close that tells a new id adds its object, and every other call leaves the index right.
use mathlib.Core.Path.{◌≡◌, refl, sym, ap, subst, ◌∙◌}
use Prim.Native.Nat.{ℕ, ◌+◌, ◌≤◌, ◌<◌}
use mathlib.Core.List.{List, [], ◌∷◌, ◌++◌}
use mathlib.Core.Bool.{Bool, true, false, false≢true}
use native.Mathlib.Omega.{arith}
use borrow.Author.Tests.{lt-ltb, le-ltb}
use lib.ListN.{length, length-append}
use lib.Dec.{ltb}
use Rattle.lists.specs.Lists.{pick}
use Rattle.model_orders.specs.Object.{Object, no_object, size_of, with_bytes, new_slot, with_link, hopeless_object}
use Rattle.model.specs.Judge.{Limits, Verdict, accepted, refused, judge_open, judge_put, judge_link, judge_close, judge_drop, judge_tally}
use Rattle.model.specs.Told.{Told, done_close}
use Rattle.model.specs.Session.{Session, Needs, Left, tally_of, with_opens, on_innermost, innermost, outer, twin, sealed, settle_call, leaves, step}
use Rattle.layout.specs.Words.{object_limit, closed_count, open_depth}
use Rattle.layout.specs.Decode.{decode, closed_to}
use Rattle.layout.specs.Sound.{sound}
use Rattle.layout.proofs.Facts.{sound-facts}
use Rattle.steps.specs.Steps.{innermost_in}
use Rattle.steps.specs.Runs.{StoreCall, start, open', put, link, close, drop, tally, Stores, step_on, as_call, needs_with}
use Rattle.steps.proofs.Tallies.{length-closed, count-decode, limits-decode}
use Rattle.steps.proofs.Innermost.{innermost-decode}
use Rattle.steps.proofs.Steps.{Follows, sound-drawn, step-drawn}
use Rattle.session_hash.specs.Hash.{hash_of}
use Rattle.session_chains.specs.Index.{index_need, Indexed, added}
use Rattle.session_chains.proofs.Indexes.{indexed-more}

-- the index m of what the stores hold closed
abbrev pub Right : ℕ → List ℕ → List ℕ → List ℕ → Type 0
Right buckets m b w = Indexed (closed_to b w (closed_count w)) buckets m

closed-decode : (b w : List ℕ) → (decode b w).closed ≡ closed_to b w (closed_count w)
unfolding decode
closed-decode b w = refl

-- ---- a call that leaves a session, by its closed objects

module _ (b w : List ℕ) {buckets : ℕ} {m : List ℕ} (k : Right buckets m b w) where
  -- the same ones
  pub kept-right : (b' w' : List ℕ) → (decode b' w').closed ≡ (decode b w).closed → Right buckets m b' w'
  kept-right b' w' e = subst (λ os. Indexed os buckets m) (sym (sym (closed-decode b' w') ∙ e ∙ closed-decode b w)) k

  -- one more
  pub more-right : (b' w' : List ℕ) (o : Object) → (decode b' w').closed ≡ (decode b w).closed ++ (o ∷ []) → index_need buckets (closed_count w + 1) ≤ length m
      → Right buckets (added buckets (hash_of o) (closed_count w) m) b' w'
  more-right b' w' o e room =
      let n = length-closed b w (closed_count w) in
      subst (λ os. Indexed os buckets (added buckets (hash_of o) (closed_count w) m))
      (sym (sym (closed-decode b' w') ∙ e ∙ ap (λ (os : List Object). os ++ (o ∷ [])) (closed-decode b w)))
      (rw n at (indexed-more k o (omega arith)))

-- ---- every call but start and close

unfoldable pub quiet : StoreCall → Bool
quiet (start objects links) = false
quiet open' = true
quiet (put vs) = true
quiet (link width id inner) = true
quiet close = false
quiet drop = true
quiet tally = true

-- what a call's outcome keeps, its settling keeps
settled-kept : {X : Type 0} (f : Session → X) (v : Verdict) (a : Session) (l : Left) → f l.after ≡ f a → f (settle_call v a l).after ≡ f a
settled-kept f accepted a l e = e
settled-kept f (refused why) a l e = refl

-- such a call changes only open objects
quiet-kept : {X : Type 0} (f : Session → X) (n : Needs) (c : StoreCall) (bytes words : ℕ) (a : Session) → quiet c ≡ true → ((os : List Object) → f (with_opens os a) ≡ f a) → f (step n (as_call bytes words c) a).after ≡ f a
unfolding quiet step as_call
quiet-kept f n (start objects links) bytes words a e k = absurd (false≢true e)
quiet-kept f n open' bytes words a e k = settled-kept f (judge_open true (tally_of a)) a (leaves (with_opens (no_object ∷ a.opens) a)) (k _)
quiet-kept f n (put vs) bytes words a e k = settled-kept f (judge_put true a.limits (tally_of a) (length vs)) a (leaves (on_innermost (with_bytes vs) a)) (k _)
quiet-kept f n (link width id inner) bytes words a e k =
    settled-kept f (judge_link true a.limits (tally_of a) (new_slot (size_of (innermost a.opens)) width inner) id) a (leaves (on_innermost (with_link width id inner) a)) (k _)
quiet-kept f n close bytes words a e k = absurd (false≢true e)
quiet-kept f n drop bytes words a e k = settled-kept f (judge_drop true (tally_of a)) a (leaves (with_opens (outer a.opens) a)) (k _)
quiet-kept f n tally bytes words a e k = settled-kept f (judge_tally true) a (leaves a) refl

module _ (s : Stores) (h : sound s.bytes s.words ≡ true) {buckets : ℕ} {m : List ℕ} (k : Right buckets m s.bytes s.words) where
  abbrev a : Session
  a = decode s.bytes s.words

  abbrev needs : Needs
  needs = needs_with (λ l n. 0)

  abbrev abstract : StoreCall → Left
  abstract c = step needs (as_call (length s.bytes) (length s.words) c) a

  abbrev after : StoreCall → Stores
  after c = (step_on c s).stores

  drawn : (c : StoreCall) → Follows s (step_on c s) (abstract c)
  drawn c = step-drawn (λ l n. 0) c s a (sound-drawn s.bytes s.words h)

  follows : (c : StoreCall) → (decode (after c).bytes (after c).words).closed ≡ (abstract c).after.closed
  follows c = ap (λ (x : Session). x.closed) (drawn c).drawn.holds

  -- the limit of objects after a call
  limit : (c : StoreCall) → (abstract c).after.limits ≡ a.limits → object_limit (after c).words ≡ object_limit s.words
  limit c e =
      ap (λ (x : Limits). x.objects)
      (limits-decode (after c).bytes (after c).words ∙ ap (λ (x : Session). x.limits) (drawn c).drawn.holds ∙ e ∙ sym (limits-decode s.bytes s.words))

  -- any call leaves sound stores, of the same lengths
  pub still-sound : (c : StoreCall) → sound (after c).bytes (after c).words ≡ true
  still-sound c = (drawn c).drawn.is_sound

  pub still-long : (c : StoreCall) → length (after c).words ≡ length s.words
  still-long c = (drawn c).same_words

  pub quiet-right : (c : StoreCall) → quiet c ≡ true → Right buckets m (after c).bytes (after c).words
  quiet-right c e = kept-right s.bytes s.words k (after c).bytes (after c).words (follows c ∙ quiet-kept (λ x. x.closed) needs c (length s.bytes) (length s.words) a e (λ os. refl))

  pub quiet-limit : (c : StoreCall) → quiet c ≡ true → object_limit (after c).words ≡ object_limit s.words
  quiet-limit c e = limit c (quiet-kept (λ x. x.limits) needs c (length s.bytes) (length s.words) a e (λ os. refl))

  -- ---- close: the object is added where the count has risen

  same : (b' w' : List ℕ) (o : Object) → (decode b' w').closed ≡ a.closed
      → Right buckets (pick (ltb (closed_count s.words) (closed_count w')) (added buckets (hash_of o) (closed_count s.words) m) m) b' w'
  same b' w' o e =
      let c : closed_count w' ≤ closed_count s.words = omega (arith, count-decode b' w' ∙ ap length e ∙ sym (count-decode s.bytes s.words)) in
      rw (le-ltb _ _ c) (kept-right s.bytes s.words k b' w' e)

  -- by the closed objects after it: as many, or one more
  closes : (v : Verdict) (duplicate : Bool) (told : Told) (o : Object)
      → let l = settle_call v a (record { told = told; after = record { limits = a.limits; opens = outer a.opens; closed = pick duplicate a.closed (a.closed ++ (o ∷ [])) } }) in
      (b' w' : List ℕ) → (decode b' w').closed ≡ l.after.closed → (closed_count s.words < closed_count w' → index_need buckets (closed_count s.words + 1) ≤ length m)
      → Right buckets (pick (ltb (closed_count s.words) (closed_count w')) (added buckets (hash_of o) (closed_count s.words) m) m) b' w'
  closes accepted true told o b' w' e room = same b' w' o e
  closes accepted false told o b' w' e room =
      let n = count-decode s.bytes s.words in
      let c : closed_count s.words < closed_count w' = omega (arith, count-decode b' w' ∙ ap length e ∙ length-append a.closed (o ∷ [])) in
      rw (lt-ltb _ _ c) (more-right s.bytes s.words k b' w' o e (room c))
  closes (refused why) duplicate told o b' w' e room = same b' w' o e

  pub close-limit : object_limit (after close).words ≡ object_limit s.words
  unfolding step as_call
  close-limit =
      limit close
      (settled-kept (λ x. x.limits) (judge_close true a.limits (tally_of a) (size_of (innermost a.opens)) (hopeless_object (innermost a.opens)) (twin a)) a
      (record { told = done_close (twin a) (tally_of (sealed a)); after = sealed a }) refl)

  -- there is room for it in the session
  pub close-room : closed_count (after close).words ≤ object_limit s.words
  close-room = omega (arith, close-limit, (sound-facts (after close).bytes (after close).words (still-sound close)).head.closed)

  pub close-right : 0 < open_depth s.words → index_need buckets (object_limit s.words) ≤ length m
      → Right buckets (pick (ltb (closed_count s.words) (closed_count (after close).words)) (added buckets (hash_of (innermost_in s.bytes s.words)) (closed_count s.words) m) m)
      (after close).bytes (after close).words
  unfolding step as_call
  close-right d room =
      rw (innermost-decode s.bytes s.words d) at
      (closes (judge_close true a.limits (tally_of a) (size_of (innermost a.opens)) (hopeless_object (innermost a.opens)) (twin a)) (ltb (twin a) (length a.closed)) (done_close (twin a) (tally_of (sealed a))) (innermost a.opens)
      (after close).bytes (after close).words (follows close) (λ i. omega (arith, close-room)))
