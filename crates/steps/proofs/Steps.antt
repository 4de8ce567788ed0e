-- Every call on stores that hold a session tells what the abstract call tells, and leaves stores that hold the session that the abstract call leaves.
use Rattle.std.specs.Prelude.{Ok}
use mathlib.Core.Path.{◌≡◌, refl, sym, ap, subst, ◌∙◌}
use Prim.Native.Nat.{ℕ, ◌+◌, ◌-◌, ◌≤◌, ◌<◌}
use mathlib.Core.List.{List, [], ◌∷◌, ◌++◌}
use mathlib.Core.Bool.{Bool, true, false}
use native.Mathlib.Decide.{dec_le}
use native.Mathlib.Omega.{arith}
use borrow.Author.Tests.{leb-false, ltb-false, eqb-false, not-false, le-leb}
use lib.Dec.{ltb}
use lib.ListN.{length, replicate}
use Rattle.lists.specs.Lists.{pick}
use Rattle.answer.specs.Number.{beside, no_tally}
use Rattle.answer.specs.declared.tally.Tally.{Tally}
use Rattle.answer.specs.declared.Refusal.{Refusal}
use Rattle.answer.specs.declared.Refusal.TheVariants as Refusal
use Rattle.model_orders.specs.Object.{size_of, slot_ok, new_slot, hopeless_object}
use Rattle.model.specs.Judge.{most_open, Limits, Verdict, accepted, refused, verdict, judge_start, judge_open, judge_put, judge_link, judge_close, judge_drop, judge_tally}
use Rattle.model.specs.Told.{done_close, refusal, refused_told}
use Rattle.model.specs.Session.{Session, tally_of, started, innermost, outer, twin, leaves, step}
use Rattle.model.specs.Session.{Left as AbstractLeft, settle_call}
use Rattle.model.proofs.Verdicts.{passes, refused-number}
use Rattle.layout.specs.Words.{object_limit, closed_count, open_depth, need, limits_in, top, link_top, low, link_low}
use Rattle.layout.specs.Decode.{decode}
use Rattle.layout.specs.Sound.{sound}
use Rattle.layout.specs.Known.{Sound}
use Rattle.layout.proofs.Facts.{sound-facts}
use Rattle.steps.specs.Steps.{Out, outcome, tally_in, settle_step, limits_of, start_words, start_step, open_step, put_step, innermost_in, made_link, link_step, close_step, drop_step, tally_step, under, close_twin, close_new, settle_close, twin_in}
use Rattle.steps.specs.Runs.{StoreCall, start, open', put, link, close, drop, tally, Stores, Left, left_by, left_by_close, step_on, as_call, needs_with, Drawn}
use Rattle.steps.proofs.Tallies.{tally-decode, count-decode, limits-decode}
use Rattle.steps.proofs.Innermost.{twin-most, size-decode, hopeless-decode, twin-decode}
use Rattle.steps.proofs.Sides.{Leaves}
use Rattle.steps.proofs.Opened.{open-leaves}
use Rattle.steps.proofs.Grown.{put-leaves, link-leaves}
use Rattle.steps.proofs.Dropped.{drop-leaves}
use Rattle.steps.proofs.Sealed.{seal-leaves}
use Rattle.steps.proofs.Started.{startable, start-leaves}

pub sound-drawn : (b w : List ℕ) → sound b w ≡ true → Drawn (record { bytes = b; words = w }) (decode b w)
sound-drawn b w h = record { is_sound = h; holds = refl }

-- a call on stores s tells what the abstract call tells, and leaves stores of the same lengths that hold what it leaves
pub record Follows (s : Stores) (l : Left) (m : AbstractLeft) : Type 0 where
  pub told : l.told ≡ m.told
  pub drawn : Drawn l.stores m.after
  pub same_bytes : length l.stores.bytes ≡ length s.bytes
  pub same_words : length l.stores.words ≡ length s.words

-- an accepted call, which tells id i
leaves-follow : {b w b' w' : List ℕ} {t : Tally} {a : Session} (i : ℕ) → Leaves b w b' w' t a
    → Follows (record { bytes = b; words = w }) (record { told = done_close i t; stores = record { bytes = b'; words = w' } }) (record { told = done_close i (tally_of a); after = a })
leaves-follow i l = record { told = ap (done_close i) l.counted; drawn = l.drawn; same_bytes = l.same_bytes; same_words = l.same_words }

-- a close with nothing open
nothing-closes : (m : Limits) (t : Tally) (size : ℕ) (hopeless : Bool) (twin : ℕ) → t.depth ≡ 0 → judge_close true m t size hopeless twin ≡ refused Refusal.NothingOpen
unfolding verdict
nothing-closes m t size hopeless twin e = rw e

module _ (b w : List ℕ) (h : sound b w ≡ true) where
  abbrev s : Stores
  s = record { bytes = b; words = w }

  abbrev a : Session
  a = decode b w

  refused-follows : (why : Refusal) → Follows s (record { told = refused_told why (beside why (tally_in b w)); stores = s }) (record { told = refusal why (tally_of a); after = a })
  refused-follows why = record { told = ap (refusal why) (tally-decode b w h); drawn = sound-drawn b w h; same_bytes = refl; same_words = refl }

  -- two calls that are judged alike
  judged-alike : (l : Verdict → Left) (m : Verdict → AbstractLeft) (v u : Verdict) → v ≡ u → (v ≡ accepted → Follows s (l accepted) (m accepted))
      → ((why : Refusal) → Follows s (l (refused why)) (m (refused why))) → Follows s (l v) (m u)
  judged-alike l m v u e k r = subst (λ x. Follows s (l v) (m x)) e (go v k)
    where
      go : (v : Verdict) → (v ≡ accepted → Follows s (l accepted) (m accepted)) → Follows s (l v) (m v)
      go accepted k = k refl
      go (refused why) k = r why

  settled : (v u : Verdict) (out : Out) (m : AbstractLeft) → v ≡ u → (v ≡ accepted → Follows s (left_by out) m) → Follows s (left_by (settle_step v b w out)) (settle_call u a m)
  settled v u out m e k = judged-alike (λ x. left_by (settle_step x b w out)) (λ x. settle_call x a m) v u e k refused-follows

  -- ---- what the tests of an accepted call say

  known : Sound b w
  known = sound-facts b w h

  some-open : (open_depth w ≡ 0 → ⊥) → 0 < open_depth w
  some-open e = omega arith

  -- n bytes more, and a link more, reach no closed object
  room : (n : ℕ) → (tally_in b w).bytes + n ≤ (limits_in w).bytes → top w + n ≤ low w
  room n e = let k = known in omega arith

  link-room : (tally_in b w).links < (limits_in w).links → link_top w < link_low w
  link-room e = let k = known in omega arith

  some_bytes : (top w - under w ≡ 0 → ⊥) → under w < top w
  some_bytes e = omega arith

  -- ---- the calls

  counts : tally_in b w ≡ tally_of a
  counts = tally-decode b w h

  limits : limits_in w ≡ a.limits
  limits = limits-decode b w

  -- a close, judged by the stores and by the session
  abbrev judged_in : Verdict
  judged_in = judge_close (sound b w) (limits_in w) (tally_in b w) (top w - under w) (hopeless_object (innermost_in b w)) (twin_in b w)

  abbrev judged_of : Verdict
  judged_of = judge_close true a.limits (tally_of a) (size_of (innermost a.opens)) (hopeless_object (innermost a.opens)) (twin a)

  judged-close : judged_in ≡ judged_of
  judged-close = go (dec_le 1 (open_depth w))
    where
      go : Dec (1 ≤ open_depth w) → judged_in ≡ judged_of
      go (yes k) = λ i. judge_close (h i) (limits i) (counts i) (size-decode b w h i) (hopeless-decode b w k i) (twin-decode b w k i)
      go (no k) =
          let e : (tally_of a).depth ≡ 0 = sym (ap (λ (x : Tally). x.depth) counts) ∙ omega arith in
          (λ i. judge_close (h i) (limits i) (counts i) (top w - under w) (hopeless_object (innermost_in b w)) (twin_in b w))
          ∙ nothing-closes a.limits (tally_of a) (top w - under w) (hopeless_object (innermost_in b w)) (twin_in b w) e
          ∙ sym (nothing-closes a.limits (tally_of a) (size_of (innermost a.opens)) (hopeless_object (innermost a.opens)) (twin a) e)

  -- a close that tells id i, of a duplicate or of a new object
  abbrev closing : ℕ → Bool → AbstractLeft
  closing i duplicate =
      let new : Session = record {
        limits = a.limits;
        opens = outer a.opens;
        closed = pick duplicate a.closed (a.closed ++ (innermost a.opens ∷ []));
      } in
      record { told = done_close i (tally_of new); after = new }

  close-accepted : judged_in ≡ accepted
      → Follows s (left_by_close (pick (ltb (twin_in b w) (closed_count w)) (close_twin b w) (close_new b w))) (closing (twin a) (ltb (twin a) (length a.closed)))
  close-accepted e =
      let k = some-open (eqb-false _ _ (passes _ e 1)) in
      let id = twin-decode b w k in
      let count = count-decode b w in
      subst (λ m. Follows s (left_by_close (pick (ltb (twin_in b w) (closed_count w)) (close_twin b w) (close_new b w))) m) (λ i. closing (id i) (ltb (id i) (count i)))
      (go k (ltb (twin_in b w) (closed_count w)) refl)
    where
      go : 0 < open_depth w → (x : Bool) → ltb (twin_in b w) (closed_count w) ≡ x → Follows s (left_by_close (pick x (close_twin b w) (close_new b w))) (closing (twin_in b w) x)
      go k true f = leaves-follow (twin_in b w) (drop-leaves known k)
      go k false f =
          let j : closed_count w ≤ twin_in b w = ltb-false _ _ f in
          let q : closed_count w ≡ twin_in b w = omega (arith, twin-most b w) in
          let full = passes _ e 4 in
          subst (λ i. Follows s (left_by_close (close_new b w)) (closing i false)) q
          (leaves-follow (closed_count w)
          (seal-leaves known k (some_bytes (eqb-false _ _ (passes _ e 2))) (leb-false (object_limit w) (closed_count w) (rw (le-leb _ _ j) at full)) (passes _ e 3)))

  step_follows : (work : Limits → ℕ → ℕ) (c : StoreCall) → Follows s (step_on c s) (step (needs_with work) (as_call (length s.bytes) (length s.words) c) a)
  unfolding step_on as_call step start_step open_step put_step link_step close_step drop_step tally_step
  step_follows work (start objects links) =
      let m : Limits = limits_of objects links b in
      settled (judge_start m (need objects links) (length w)) (judge_start m (need objects links) (length w)) _ _ refl
      (λ e. leaves-follow 0 (start-leaves m w (startable m w e) b refl))
  step_follows work open' =
      settled (judge_open (sound b w) (tally_in b w)) (judge_open true (tally_of a)) _ _ (λ i. judge_open (h i) (counts i))
      (λ e. leaves-follow 0 (open-leaves known (leb-false most_open (open_depth w) (passes _ e 1))))
  step_follows work (put vs) =
      settled (judge_put (sound b w) (limits_in w) (tally_in b w) (length vs)) (judge_put true a.limits (tally_of a) (length vs)) _ _
      (λ i. judge_put (h i) (limits i) (counts i) (length vs))
      (λ e. leaves-follow 0 (put-leaves vs known (some-open (eqb-false _ _ (passes _ e 1))) (room (length vs) (ltb-false _ _ (passes _ e 2)))))
  step_follows work (link width id inner) =
      let slot = (made_link width id inner w).slot in
      settled (judge_link (sound b w) (limits_in w) (tally_in b w) slot id) (judge_link true a.limits (tally_of a) (new_slot (size_of (innermost a.opens)) width inner) id) _ _
      (λ i. judge_link (h i) (limits i) (counts i) (new_slot (size-decode b w h i) width inner) id)
      (λ e. leaves-follow 0
      (link-leaves width id inner known (some-open (eqb-false _ _ (passes _ e 1))) (room width (ltb-false _ _ (passes _ e 5))) (link-room (leb-false _ _ (passes _ e 4)))
      (not-false (slot_ok slot) (passes _ e 2)) (leb-false _ _ (passes _ e 3))))
  step_follows work close =
      judged-alike (λ x. left_by_close (settle_close x b w (pick (ltb (twin_in b w) (closed_count w)) (close_twin b w) (close_new b w)))) (λ x. settle_call x a (closing (twin a) (ltb (twin a) (length a.closed))))
      _ _ judged-close close-accepted refused-follows
  step_follows work drop =
      settled (judge_drop (sound b w) (tally_in b w)) (judge_drop true (tally_of a)) _ _ (λ i. judge_drop (h i) (counts i))
      (λ e. leaves-follow 0 (drop-leaves known (some-open (eqb-false _ _ (passes _ e 1)))))
  step_follows work tally =
      settled (judge_tally (sound b w)) (judge_tally true) _ _ (λ i. judge_tally (h i))
      (λ e. leaves-follow 0 (record { drawn = sound-drawn b w h; counted = counts; same_bytes = refl; same_words = refl }))

-- ---- the theorems

pub step-drawn : (work : Limits → ℕ → ℕ) (c : StoreCall) (s : Stores) (a : Session) → Drawn s a → Follows s (step_on c s) (step (needs_with work) (as_call (length s.bytes) (length s.words) c) a)
step-drawn work c s a d = subst (λ x. Follows s (step_on c s) (step (needs_with work) (as_call (length s.bytes) (length s.words) c) x)) d.holds (step_follows s.bytes s.words d.is_sound work c)

-- an accepted start, whatever the stores held
pub start-drawn : (objects links : ℕ) (s : Stores) → (step_on (start objects links) s).told.number ≡ 0
    → Follows s (step_on (start objects links) s) (leaves (started (limits_of objects links s.bytes)))
unfolding step_on start_step
start-drawn objects links s e = go (judge_start m (need objects links) (length s.words)) refl e
  where
    m : Limits
    m = limits_of objects links s.bytes

    left : Verdict → Left
    left v = left_by (settle_step v s.bytes s.words (outcome (Ok no_tally) (replicate (length s.bytes) 0) (start_words m s.words)))

    go : (v : Verdict) → judge_start m (need objects links) (length s.words) ≡ v → (left v).told.number ≡ 0 → Follows s (left v) (leaves (started m))
    go accepted f z = leaves-follow 0 (start-leaves m s.words (startable m s.words f) s.bytes refl)
    go (refused why) f z = absurd (omega (arith, refused-number why))
