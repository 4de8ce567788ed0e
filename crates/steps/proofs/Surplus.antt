-- Words of the record store past its need, which no call touches, and the limits that say it, which only an accepted start changes.
use mathlib.Core.Path.{◌≡◌, refl, sym, ap, ◌∙◌}
use Prim.Native.Nat.{ℕ, ◌+◌, ◌-◌, ◌*◌, ◌<◌}
use mathlib.Core.List.{List, ◌∷◌}
use mathlib.Core.Bool.{Bool, true, false, ◌&&◌, false≢true}
use native.Mathlib.Omega.{arith}
use borrow.Author.Tests.{leb-false, ltb-false, le-leb, not-false}
use lib.ListN.{length, set, drop, replicate, length-replicate}
use lib.Seq.{drop-set-lt}
use lib.Dec.{leb, ltb}
use Rattle.lists.specs.Lists.{pick, part}
use Rattle.lists.proofs.Over.{over-drop}
use Rattle.lists.proofs.Runs.{length_part}
use Rattle.model_orders.specs.Object.{Link, size_of, new_slot, hopeless_object}
use Rattle.model.specs.Judge.{Limits, Verdict, accepted, refused, Test, verdict, unsound, judge_open, judge_put, judge_link, judge_close, judge_drop, judge_tally}
use Rattle.model.specs.Session.{Needs, Session, tally_of, innermost, twin, settle_call, step}
use Rattle.model.specs.Session.{Left as AbstractLeft}
use Rattle.model.proofs.Verdicts.{passes}
use Rattle.layout.specs.Words.{object_limit_at, closed_count_at, open_depth_at, object_limit, closed_count, open_depth, ends_at, link_ends_at, begins_at, link_begins_base, link_begins_at, links_at, link_words, need, link_limit, limits_in, top, link_top, words_of}
use Rattle.layout.specs.Sound.{sound}
use Rattle.layout.specs.Decode.{decode}
use Rattle.layout.specs.Known.{Sound}
use Rattle.layout.proofs.Facts.{sound-facts}
use Rattle.steps.specs.Steps.{Out, tally_in, settle_step, limits_of, start_words, start_step, open_step, put_step, under, link_under, innermost_in, made_link, link_words_of, link_step, dropped_words, drop_step, tally_step, new_link_low, sealed_words, CloseOut, settle_close, twin_in, close_twin, close_new, close_step}
use Rattle.steps.specs.Runs.{StoreCall, start, open', put, link, close, drop as drop', tally, Stores, Left, step_on, as_call, needs_with}
use Rattle.steps.proofs.Tallies.{limits-decode}
use Rattle.steps.proofs.Started.{Startable, startable}
use Rattle.steps.proofs.Steps.{sound-drawn, step-drawn, start-drawn}
use Rattle.steps.proofs.Works.{asks, unsound-told}

-- how many words the record store needs for limits m
abbrev pub need_of : Limits → ℕ
need_of m = need m.objects m.links

-- ---- the limits of an abstract session stay, but at a start

same-limits : (v : Verdict) (a : Session) (l : AbstractLeft) → l.after.limits ≡ a.limits → (settle_call v a l).after.limits ≡ a.limits
same-limits accepted a l e = e
same-limits (refused why) a l e = refl

step-limits : (needs : Needs) (bytes words : ℕ) (c : StoreCall) (a : Session) → asks c ≡ true → (step needs (as_call bytes words c) a).after.limits ≡ a.limits
unfolding step as_call
step-limits needs bytes words (start objects links) a k = absurd (false≢true k)
step-limits needs bytes words open' a k = same-limits (judge_open true (tally_of a)) a _ refl
step-limits needs bytes words (put vs) a k = same-limits (judge_put true a.limits (tally_of a) (length vs)) a _ refl
step-limits needs bytes words (link width id inner) a k =
    same-limits (judge_link true a.limits (tally_of a) (new_slot (size_of (innermost a.opens)) width inner) id) a _ refl
step-limits needs bytes words close a k = same-limits (judge_close true a.limits (tally_of a) (size_of (innermost a.opens)) (hopeless_object (innermost a.opens)) (twin a)) a _ refl
step-limits needs bytes words drop' a k = same-limits (judge_drop true (tally_of a)) a _ refl
step-limits needs bytes words tally a k = same-limits (judge_tally true) a _ refl

module _ (s : Stores) where
  abbrev b : List ℕ
  b = s.bytes

  abbrev w : List ℕ
  w = s.words

  -- past the need for limits m, words are as they were
  abbrev pub Past : Limits → StoreCall → Type 0
  Past m c = drop (need_of m) (step_on c s).stores.words ≡ drop (need_of m) w

  -- ---- by a verdict: a refused call leaves the words

  module _ (n : ℕ) where
    settled : (v : Verdict) (out : Out) → (v ≡ accepted → drop n out.words ≡ drop n w) → drop n (settle_step v b w out).words ≡ drop n w
    settled accepted out h = h refl
    settled (refused why) out h = refl

    settled-close : (v : Verdict) (out : CloseOut) → (v ≡ accepted → drop n out.words ≡ drop n w) → drop n (settle_close v b w out).words ≡ drop n w
    settled-close accepted out h = h refl
    settled-close (refused why) out h = refl

  -- ---- a start, accepted or refused

  start-below : (m : Limits) → Startable m w → drop (need_of m) (start_words m w) ≡ drop (need_of m) w
  start-below m k =
      let n : ℕ = need_of m in
      let zeros : List ℕ = replicate n 0 in
      let long : length zeros ≡ n = length-replicate n 0 in
      drop-set-lt n _ (link_begins_base + m.objects) m.links (omega arith)
      ∙ drop-set-lt n _ begins_at m.bytes (omega arith)
      ∙ drop-set-lt n _ object_limit_at m.objects (omega arith)
      ∙ over-drop 0 zeros w (omega arith) n (omega arith)

  module _ (objects links : ℕ) where
    abbrev m : Limits
    m = limits_of objects links b

    pub start-past : Past m (start objects links)
    unfolding step_on start_step
    start-past = settled (need_of m) _ _ (λ e. start-below m (startable m w e))

    -- an accepted one notes its limits
    pub limits-noted : (step_on (start objects links) s).told.number ≡ 0 → limits_in (step_on (start objects links) s).stores.words ≡ m
    limits-noted z =
        let l : Stores = (step_on (start objects links) s).stores in
        limits-decode l.bytes l.words ∙ ap (λ (a : Session). a.limits) (start-drawn objects links s z).drawn.holds

  -- ---- what the other calls write lies below the need

  abbrev n : ℕ
  n = need_of (limits_in w)

  module _ (k : Sound b w) where
    open-below : (x y z : ℕ) → drop n (set (set (set w (ends_at + open_depth w + 1) x) (link_ends_at + open_depth w + 1) y) open_depth_at z) ≡ drop n w
    open-below x y z =
        drop-set-lt n _ open_depth_at z (omega arith)
        ∙ drop-set-lt n _ (link_ends_at + open_depth w + 1) y (omega arith)
        ∙ drop-set-lt n w (ends_at + open_depth w + 1) x (omega arith)

    put-below : (x : ℕ) → drop n (set w (ends_at + open_depth w) x) ≡ drop n w
    put-below x = drop-set-lt n w (ends_at + open_depth w) x (omega arith)

    link-below : (l : Link) → (tally_in b w).links < link_limit w → drop n (link_words_of l w) ≡ drop n w
    link-below l h =
        drop-set-lt n _ (link_ends_at + open_depth w) (link_top w + 1) (omega arith)
        ∙ drop-set-lt n _ (ends_at + open_depth w) (top w + l.slot.width) (omega arith)
        ∙ over-drop (links_at w + link_top w * link_words) (words_of l) w (omega arith) n (omega arith)

    drop-below : drop n (dropped_words w) ≡ drop n w
    drop-below = drop-set-lt n w open_depth_at _ (omega arith)

    seal-below : closed_count w < object_limit w → drop n (sealed_words w) ≡ drop n w
    seal-below h =
        let c : ℕ = closed_count w in
        let from : ℕ = links_at w + link_under w * link_words in
        let to : ℕ = links_at w + link_top w * link_words in
        let long = length_part from to w (omega arith) in
        drop-set-lt n _ open_depth_at _ (omega arith)
        ∙ drop-set-lt n _ closed_count_at _ (omega arith)
        ∙ drop-set-lt n _ (link_begins_at w + c + 1) _ (omega arith)
        ∙ drop-set-lt n _ (begins_at + c + 1) _ (omega arith)
        ∙ over-drop (links_at w + new_link_low w * link_words) (part from to w) w (omega arith) n (omega arith)

    close-below : (x : Bool) → ltb (twin_in b w) (closed_count w) ≡ x → (leb (closed_count w) (twin_in b w) && leb (object_limit w) (closed_count w)) ≡ false
        → drop n (pick x (close_twin b w) (close_new b w)).words ≡ drop n w
    close-below true e h = drop-below
    close-below false e h = seal-below (leb-false _ _ (rw (le-leb (closed_count w) (twin_in b w) (ltb-false _ _ e)) at h))

  -- ---- any call but start, whatever the stores hold

  -- they are sound where it is accepted
  accepted-sound : (ts : List Test) → verdict (unsound (sound b w) ∷ ts) ≡ accepted → Sound b w
  accepted-sound ts e = sound-facts b w (not-false _ (passes _ e 0))

  pub past-stands : (c : StoreCall) → asks c ≡ true → Past (limits_in w) c
  unfolding step_on open_step put_step link_step close_step drop_step tally_step
  past-stands (start objects links) k = absurd (false≢true k)
  past-stands open' k = settled n (judge_open (sound b w) (tally_in b w)) _ (λ e. open-below (accepted-sound _ e) _ _ _)
  past-stands (put vs) k = settled n (judge_put (sound b w) (limits_in w) (tally_in b w) (length vs)) _ (λ e. put-below (accepted-sound _ e) _)
  past-stands (link width id inner) k =
      let l : Link = made_link width id inner w in
      settled n (judge_link (sound b w) (limits_in w) (tally_in b w) l.slot id) _ (λ e. link-below (accepted-sound _ e) l (leb-false _ _ (passes _ e 4)))
  past-stands close k =
      settled-close n (judge_close (sound b w) (limits_in w) (tally_in b w) (top w - under w) (hopeless_object (innermost_in b w)) (twin_in b w)) _
      (λ e. close-below (accepted-sound _ e) (ltb (twin_in b w) (closed_count w)) refl (passes _ e 4))
  past-stands drop' k = settled n (judge_drop (sound b w) (tally_in b w)) _ (λ e. drop-below (accepted-sound _ e))
  past-stands tally k = settled n (judge_tally (sound b w)) _ (λ e. refl)

  pub limits-stay : (c : StoreCall) → asks c ≡ true → limits_in (step_on c s).stores.words ≡ limits_in w
  limits-stay c k = go (sound b w) refl
    where
      go : (x : Bool) → sound b w ≡ x → limits_in (step_on c s).stores.words ≡ limits_in w
      go true h =
          let l : Stores = (step_on c s).stores in
          let f = step-drawn (λ m copies. 0) c s (decode b w) (sound-drawn b w h) in
          limits-decode l.bytes l.words
          ∙ ap (λ (a : Session). a.limits) f.drawn.holds
          ∙ step-limits (needs_with (λ m copies. 0)) (length b) (length w) c (decode b w) k
          ∙ sym (limits-decode b w)
      go false h = ap (λ (l : Left). limits_in l.stores.words) (sym (unsound-told c k refl h))
