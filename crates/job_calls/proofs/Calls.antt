-- Each call on sound stores goes as the abstract call does: what it tells, and what the stores hold then.
use mathlib.Core.Path.{◌≡◌, refl, sym, ap, ◌∙◌}
use Prim.Native.Nat.{ℕ}
use mathlib.Core.List.{List, ◌∷◌}
use mathlib.Core.Bool.{true}
use lib.ListN.{length}
use borrow.Author.Tests.{eq-eqb, ne_eqb}
use Rattle.answer.specs.Answers.{Answer, Closing}
use Rattle.model.specs.Told.{Told, done_close, told_by, told_by_close}
use Rattle.model.specs.Session.{Needs, Session, tally_of, with_opens, innermost, on_innermost, twin, sealed, leaves, SessionCall, open_call, put_call, link_call, close_call, Left, settle_call, step}
use Rattle.model_orders.specs.Object.{no_object, size_of, with_bytes, new_slot, with_link, hopeless_object}
use Rattle.model.specs.Judge.{Verdict, accepted, refused, judge_open, judge_put, judge_link, judge_close}
use Rattle.layout.specs.Words.{limits_in}
use Rattle.layout.specs.Sound.{sound}
use Rattle.layout.specs.Decode.{decode}
use Rattle.steps.specs.Steps.{outcome, closing, open_step, put_step, link_step, close_step}
use Rattle.steps.specs.Runs.{StoreCall, open', put, link, close, Stores, stores, left, left_by, left_by_close, step_on, as_call, needs_with}
use Rattle.steps.specs.Runs.{Left as StoresLeft}
use Rattle.steps.proofs.Tallies.{limits-decode}
use Rattle.steps.proofs.Steps.{Follows, step-drawn, sound-drawn}
use Rattle.job_rules.specs.Job.{Turn, stop, no_needs, call}

-- a call on the stores b and w told t and left b' and w', as the abstract call told and left
pub record After (c : SessionCall) (b w : List ℕ) (t : Told) (b' w' : List ℕ) : Type 0 where
  pub told : t ≡ (step no_needs c (decode b w)).told
  pub is_sound : sound b' w' ≡ true
  pub holds : decode b' w' ≡ (step no_needs c (decode b w)).after
  pub limits : limits_in w' ≡ limits_in w

module _ {c : SessionCall} {b w : List ℕ} {t : Told} {b' w' : List ℕ} (a : After c b w t b' w') (next : Left → Turn) where
  pub goes : t.number ≡ 0 → call c (decode b w) next ≡ next (step no_needs c (decode b w))
  goes e =
      let n = (step no_needs c (decode b w)).told.number in
      let f : n ≡ 0 = sym (ap (λ (x : Told). x.number) a.told) ∙ e in
      rw (eq-eqb n 0 f)

  pub stops : (t.number ≡ 0 → ⊥) → call c (decode b w) next ≡ stop t.number
  stops e =
      let n = (step no_needs c (decode b w)).told.number in
      let f : t.number ≡ n = ap (λ (x : Told). x.number) a.told in
      rw (f, ne_eqb n 0 (λ z. e (f ∙ z)))

-- no call but start changes the limits
keeps : (v : Verdict) (s : Session) (l : Left) → l.after.limits ≡ s.limits → (settle_call v s l).after.limits ≡ s.limits
keeps accepted s l e = e
keeps (refused why) s l e = refl

module _ (n : Needs) (s : Session) where
  open-limits : (step n open_call s).after.limits ≡ s.limits
  unfolding step
  open-limits = keeps (judge_open true (tally_of s)) s (leaves (with_opens (no_object ∷ s.opens) s)) refl

  put-limits : (vs : List ℕ) → (step n (put_call vs) s).after.limits ≡ s.limits
  unfolding step
  put-limits vs = keeps (judge_put true s.limits (tally_of s) (length vs)) s (leaves (on_innermost (with_bytes vs) s)) refl

  link-limits : (w id i : ℕ) → (step n (link_call w id i) s).after.limits ≡ s.limits
  unfolding step
  link-limits w id i =
      keeps (judge_link true s.limits (tally_of s) (new_slot (size_of (innermost s.opens)) w i) id) s (leaves (on_innermost (with_link w id i) s)) refl

  close-limits : (step n close_call s).after.limits ≡ s.limits
  unfolding step
  close-limits =
      keeps (judge_close true s.limits (tally_of s) (size_of (innermost s.opens)) (hopeless_object (innermost s.opens)) (twin s)) s
      (record { told = done_close (twin s) (tally_of (sealed s)); after = sealed s }) refl

-- by the call on the stores
module _ (b w : List ℕ) (h : sound b w ≡ true) where
  abbrev held : Stores
  held = stores b w

  follows : (c : StoreCall) {l : StoresLeft} → l ≡ step_on c held → Follows held l (step (needs_with (λ m copies. 0)) (as_call (length b) (length w) c) (decode b w))
  follows c e = rw e (step-drawn (λ m copies. 0) c held (decode b w) (sound-drawn b w h))

  settles : (d : SessionCall) (t : Told) (b' w' : List ℕ) → Follows held (left t b' w') (step no_needs d (decode b w))
      → (step no_needs d (decode b w)).after.limits ≡ (decode b w).limits → After d b w t b' w'
  settles d t b' w' f k = record {
    told = f.told;
    is_sound = f.drawn.is_sound;
    holds = f.drawn.holds;
    limits = limits-decode b' w' ∙ ap (λ (x : Session). x.limits) f.drawn.holds ∙ k ∙ sym (limits-decode b w);
  }

  pub open_after : {r : Answer} {w' : List ℕ} → outcome r b w' ≡ open_step b w → After open_call b w (told_by r) b w'
  unfolding step_on as_call step
  open_after {r} {w'} e = settles open_call (told_by r) b w' (follows open' (ap left_by e)) (open-limits no_needs (decode b w))

  pub put-after : (vs : List ℕ) {r : Answer} {b' w' : List ℕ} → outcome r b' w' ≡ put_step vs b w → After (put_call vs) b w (told_by r) b' w'
  unfolding step_on as_call step
  put-after vs {r} {b'} {w'} e = settles (put_call vs) (told_by r) b' w' (follows (put vs) (ap left_by e)) (put-limits no_needs (decode b w) vs)

  pub link-after : (width id inner : ℕ) {r : Answer} {w' : List ℕ} → outcome r b w' ≡ link_step width id inner b w → After (link_call width id inner) b w (told_by r) b w'
  unfolding step_on as_call step
  link-after width id inner {r} {w'} e =
      settles (link_call width id inner) (told_by r) b w' (follows (link width id inner) (ap left_by e)) (link-limits no_needs (decode b w) width id inner)

  pub close-after : {r : Closing} {b' w' : List ℕ} → closing r b' w' ≡ close_step b w → After close_call b w (told_by_close r) b' w'
  unfolding step_on as_call step
  close-after {r} {b'} {w'} e = settles close_call (told_by_close r) b' w' (follows close (ap left_by_close e)) (close-limits no_needs (decode b w))
