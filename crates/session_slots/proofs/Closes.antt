-- What the calls on a sound session do to its closed objects: a close that tells a new id adds the innermost open one, and every other call leaves them as they are.
use mathlib.Core.Path.{◌≡◌, refl, sym, ap, subst, subst₂, ◌∙◌}
use Prim.Native.Nat.{ℕ, ◌≤◌, ◌<◌}
use mathlib.Core.List.{List, [], ◌∷◌, ◌++◌}
use mathlib.Core.Bool.{Bool, true, false, false≢true}
use native.Mathlib.Omega.{arith}
use borrow.Author.Tests.{eq-eqb, lt-ltb, le-ltb, ltb-false}
use lib.ListN.{length, length-append}
use lib.Dec.{ltb}
use Rattle.lists.specs.Lists.{pick}
use Rattle.answer.specs.Answers.{Closing}
use Rattle.model_orders.specs.Object.{Object, no_object, size_of, with_bytes, new_slot, with_link, hopeless_object}
use Rattle.model.specs.Judge.{Limits, Verdict, accepted, refused, verdict, judge_open, judge_put, judge_link, judge_close, judge_drop, judge_tally}
use Rattle.model.specs.Told.{Told, done_close}
use Rattle.model.specs.Session.{Session, Needs, Left, tally_of, with_opens, on_innermost, innermost, outer, twin, sealed, settle_call, leaves, step}
use Rattle.layout.specs.Words.{object_limit, closed_count, open_depth}
use Rattle.layout.specs.Decode.{decode, closed_to}
use Rattle.layout.specs.Sound.{sound}
use Rattle.steps.specs.Steps.{CloseOut, closing, close_step, innermost_in, twin_in}
use Rattle.steps.specs.Runs.{StoreCall, start, open', put, link, close, drop, tally, Stores, step_on, as_call, needs_with}
use Rattle.steps.proofs.Tallies.{length-closed, limits-decode}
use Rattle.steps.proofs.Innermost.{innermost-decode, twin-decode}
use Rattle.steps.proofs.Steps.{Follows, sound-drawn, step-drawn}

-- what the stores hold closed
abbrev pub closed_in : List ℕ → List ℕ → List Object
closed_in b w = closed_to b w (closed_count w)

closed-decode : (b w : List ℕ) → (decode b w).closed ≡ closed_in b w
unfolding decode
closed-decode b w = refl

-- ---- every call but start and close

unfoldable pub quiet : StoreCall → Bool
quiet (start objects links) = false
quiet open' = true
quiet (put vs) = true
quiet (link width id inner) = true
quiet close = false
quiet drop = true
quiet tally = true

-- what a call's outcome keeps, its settling keeps
settled-kept : {X : Type 0} (f : Session → X) (v : Verdict) (a : Session) (l : Left) → f l.after ≡ f a → f (settle_call v a l).after ≡ f a
settled-kept f accepted a l e = e
settled-kept f (refused why) a l e = refl

-- such a call changes only open objects
quiet-kept : {X : Type 0} (f : Session → X) (n : Needs) (c : StoreCall) (bytes words : ℕ) (a : Session) → quiet c ≡ true → ((os : List Object) → f (with_opens os a) ≡ f a) → f (step n (as_call bytes words c) a).after ≡ f a
unfolding quiet step as_call
quiet-kept f n (start objects links) bytes words a e k = absurd (false≢true e)
quiet-kept f n open' bytes words a e k = settled-kept f (judge_open true (tally_of a)) a (leaves (with_opens (no_object ∷ a.opens) a)) (k _)
quiet-kept f n (put vs) bytes words a e k = settled-kept f (judge_put true a.limits (tally_of a) (length vs)) a (leaves (on_innermost (with_bytes vs) a)) (k _)
quiet-kept f n (link width id inner) bytes words a e k =
    settled-kept f (judge_link true a.limits (tally_of a) (new_slot (size_of (innermost a.opens)) width inner) id) a (leaves (on_innermost (with_link width id inner) a)) (k _)
quiet-kept f n close bytes words a e k = absurd (false≢true e)
quiet-kept f n drop bytes words a e k = settled-kept f (judge_drop true (tally_of a)) a (leaves (with_opens (outer a.opens) a)) (k _)
quiet-kept f n tally bytes words a e k = settled-kept f (judge_tally true) a (leaves a) refl

-- ---- the closed objects after a close: the same ones, or also the innermost open one, which equals none of them

pub data Closes (b w b' w' : List ℕ) : Type 0 where
  same : closed_in b' w' ≡ closed_in b w → Closes b w b' w'
  more : closed_in b' w' ≡ closed_in b w ++ (innermost_in b w ∷ []) → closed_count w ≤ twin_in b w → Closes b w b' w'

module _ (b w b' w' : List ℕ) where
  -- by the abstract session after it
  closes_as : (v : Verdict) (told : Told) (duplicate : Bool) (o : Object)
      → let a = decode b w in
      let l = settle_call v a (record { told = told; after = record { limits = a.limits; opens = outer a.opens; closed = pick duplicate a.closed (a.closed ++ (o ∷ [])) } }) in
      closed_in b' w' ≡ l.after.closed → o ≡ innermost_in b w → (duplicate ≡ false → closed_count w ≤ twin_in b w) → Closes b w b' w'
  closes_as accepted told true o e q n = same (e ∙ closed-decode b w)
  closes_as accepted told false o e q n = more (rw (← q) (e ∙ ap (λ (os : List Object). os ++ (o ∷ [])) (closed-decode b w))) (n refl)
  closes_as (refused why) told duplicate o e q n = same (e ∙ closed-decode b w)

  -- what holds of the closed objects and of words m, and with one object more of the words that m becomes, where the count has risen
  pub closes-keep : (P : List Object → List ℕ → Type 0) {m m' : List ℕ} → Closes b w b' w' → P (closed_in b w) m
      → (closed_count w < closed_count w' → closed_count w ≤ twin_in b w → P (closed_in b w ++ (innermost_in b w ∷ [])) m')
      → P (closed_in b' w') (pick (ltb (closed_count w) (closed_count w')) m' m)
  closes-keep P {m} {m'} x k grown = go x
    where
      n : length (closed_in b w) ≡ closed_count w
      n = length-closed b w (closed_count w)

      n' : length (closed_in b' w') ≡ closed_count w'
      n' = length-closed b' w' (closed_count w')

      go : Closes b w b' w' → P (closed_in b' w') (pick (ltb (closed_count w) (closed_count w')) m' m)
      go (same e) =
          let c : closed_count w' ≤ closed_count w = omega (arith, n, n', ap length e) in
          rw (le-ltb _ _ c) (subst (λ os. P os m) (sym e) k)
      go (more e t) =
          let c : closed_count w < closed_count w' = omega (arith, n, n', ap length e ∙ length-append (closed_in b w) (innermost_in b w ∷ [])) in
          rw (lt-ltb _ _ c) (subst (λ os. P os m') (sym e) (grown c t))

-- ---- a call on sound stores

module _ (s : Stores) (h : sound s.bytes s.words ≡ true) where
  abbrev a : Session
  a = decode s.bytes s.words

  abbrev needs : Needs
  needs = needs_with (λ l n. 0)

  abbrev abstract : StoreCall → Left
  abstract c = step needs (as_call (length s.bytes) (length s.words) c) a

  abbrev after : StoreCall → Stores
  after c = (step_on c s).stores

  drawn : (c : StoreCall) → Follows s (step_on c s) (abstract c)
  drawn c = step-drawn (λ l n. 0) c s a (sound-drawn s.bytes s.words h)

  follows : (c : StoreCall) → closed_in (after c).bytes (after c).words ≡ (abstract c).after.closed
  follows c = sym (closed-decode (after c).bytes (after c).words) ∙ ap (λ (x : Session). x.closed) (drawn c).drawn.holds

  -- the limit of objects after a call
  limit : (c : StoreCall) → (abstract c).after.limits ≡ a.limits → object_limit (after c).words ≡ object_limit s.words
  limit c e =
      ap (λ (x : Limits). x.objects)
      (limits-decode (after c).bytes (after c).words ∙ ap (λ (x : Session). x.limits) (drawn c).drawn.holds ∙ e ∙ sym (limits-decode s.bytes s.words))

  -- any call leaves sound stores, of the same lengths
  pub still-sound : (c : StoreCall) → sound (after c).bytes (after c).words ≡ true
  still-sound c = (drawn c).drawn.is_sound

  still-long : (c : StoreCall) → length (after c).words ≡ length s.words
  still-long c = (drawn c).same_words

  pub quiet-closed : (c : StoreCall) → quiet c ≡ true → closed_in s.bytes s.words ≡ closed_in (after c).bytes (after c).words
  quiet-closed c e =
      sym (follows c ∙ quiet-kept (λ x. x.closed) needs c (length s.bytes) (length s.words) a e (λ os. refl) ∙ closed-decode s.bytes s.words)

  pub quiet-limit : (c : StoreCall) → quiet c ≡ true → object_limit (after c).words ≡ object_limit s.words
  quiet-limit c e = limit c (quiet-kept (λ x. x.limits) needs c (length s.bytes) (length s.words) a e (λ os. refl))

  close-limit : object_limit (after close).words ≡ object_limit s.words
  unfolding step as_call
  close-limit =
      limit close
      (settled-kept (λ x. x.limits) (judge_close true a.limits (tally_of a) (size_of (innermost a.opens)) (hopeless_object (innermost a.opens)) (twin a)) a
      (record { told = done_close (twin a) (tally_of (sealed a)); after = sealed a }) refl)

  close-closes : 0 < open_depth s.words → Closes s.bytes s.words (after close).bytes (after close).words
  unfolding step as_call
  close-closes d =
      let t = twin-decode s.bytes s.words d in
      let n = length-closed s.bytes s.words (closed_count s.words) in
      let m = ap length (closed-decode s.bytes s.words) in
      closes_as s.bytes s.words (after close).bytes (after close).words
      (judge_close true a.limits (tally_of a) (size_of (innermost a.opens)) (hopeless_object (innermost a.opens)) (twin a)) (done_close (twin a) (tally_of (sealed a))) (ltb (twin a) (length a.closed))
      (innermost a.opens) (follows close) (innermost-decode s.bytes s.words d) (λ e. omega (arith, ltb-false (twin a) (length a.closed) e, t, n, m))

close-nothing : (b w : List ℕ) → sound b w ≡ true → open_depth w ≡ 0 → ((close_step b w).bytes ≡ b) × ((close_step b w).words ≡ w)
unfolding close_step verdict
close-nothing b w h e = (rw (h, eq-eqb (open_depth w) 0 e), rw (h, eq-eqb (open_depth w) 0 e))

-- ---- a close that told r

module _ (b w : List ℕ) {b' w' : List ℕ} {r : Closing} (h : sound b w ≡ true) (e : closing r b' w' ≡ close_step b w) where
  abbrev s : Stores
  s = record { bytes = b; words = w }

  bytes-is : (close_step b w).bytes ≡ b'
  bytes-is = sym (ap (λ (o : CloseOut). o.bytes) e)

  words-is : (close_step b w).words ≡ w'
  words-is = sym (ap (λ (o : CloseOut). o.words) e)

  pub closed-sound : sound b' w' ≡ true
  unfolding step_on
  closed-sound = subst₂ (λ x y. sound x y ≡ true) bytes-is words-is (still-sound s h close)

  pub closed-long : length w' ≡ length w
  unfolding step_on
  closed-long = subst (λ y. length y ≡ length w) words-is (still-long s h close)

  pub closed-limit : object_limit w' ≡ object_limit w
  unfolding step_on
  closed-limit = subst (λ y. object_limit y ≡ object_limit w) words-is (close-limit s h)

  -- nothing was open
  pub closed-nothing : open_depth w ≡ 0 → closed_in b w ≡ closed_in b' w'
  closed-nothing d =
      let z = close-nothing b w h d in
      λ i. closed_in ((sym z.0 ∙ bytes-is) i) ((sym z.1 ∙ words-is) i)

  pub closed-closes : 0 < open_depth w → Closes b w b' w'
  unfolding step_on
  closed-closes d = subst₂ (λ x y. Closes b w x y) bytes-is words-is (close-closes s h d)
