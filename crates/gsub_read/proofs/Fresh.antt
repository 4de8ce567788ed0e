-- A start anew, with the limits of the first one: it leaves what that one left.
use mathlib.Core.Path.{◌≡◌, refl, sym, ap, ◌∙◌}
use Prim.Native.Nat.{ℕ, ◌+◌}
use mathlib.Core.List.{List, ◌++◌}
use native.Mathlib.Omega.{arith}
use lib.ListN.{length, drop, set, replicate, length-replicate}
use Rattle.lists.specs.Lists.{over}
use Rattle.model.specs.Judge.{Limits, Verdict, accepted, refused, number_of, judge_start}
use Rattle.model.proofs.Verdicts.{refused-number}
use Rattle.layout.specs.Words.{object_limit_at, begins_at, link_begins_base, need}
use Rattle.steps.specs.Steps.{Out, settle_step, limits_of, start_words, start_step}
use Rattle.steps.specs.Runs.{Stores, stores, start, left_by, step_on}
use Rattle.steps.proofs.Steps.{start-drawn}
use Rattle.steps.proofs.Surplus.{need_of, start-past, limits-noted}
use Rattle.gsub_read.proofs.Surplus.{Begun}

-- ---- a start's words

-- they hang on the surplus alone
surplus-words : (m : Limits) (w u : List ℕ) → drop (need_of m) u ≡ drop (need_of m) w → start_words m u ≡ start_words m w
unfolding over
surplus-words m w u e =
    let k = need_of m in
    let f : 0 + length {A = ℕ} (replicate k 0) ≡ k = omega (arith, length-replicate {A = ℕ} k 0) in
    ap (λ z. set (set (set (replicate k 0 ++ z) object_limit_at m.objects) begins_at m.bytes) (link_begins_base + m.objects) m.links)
    (ap (λ j. drop j u) f ∙ e ∙ sym (ap (λ j. drop j w) f))

-- ---- a start

module _ (objects links : ℕ) where
  module _ (s : Stores) where
    abbrev m : Limits
    m = limits_of objects links s.bytes

    abbrev judged : Verdict
    judged = judge_start m (need objects links) (length s.words)

    pub start-number : (step_on (start objects links) s).told.number ≡ number_of judged
    unfolding step_on start_step
    start-number = go judged _ refl
      where
        go : (v : Verdict) (out : Out) → (left_by out).told.number ≡ 0 → (left_by (settle_step v s.bytes s.words out)).told.number ≡ number_of v
        go accepted out e = e
        go (refused why) out e = refl

    pub start-accepted : (step_on (start objects links) s).told.number ≡ 0 → judged ≡ accepted
    start-accepted z = go judged (sym start-number ∙ z)
      where
        go : (v : Verdict) → number_of v ≡ 0 → v ≡ accepted
        go accepted e = refl
        go (refused why) e = absurd (omega (arith, refused-number why))

    start-leaves : judged ≡ accepted → (step_on (start objects links) s).stores ≡ stores (replicate (length s.bytes) 0) (start_words m s.words)
    unfolding step_on start_step
    start-leaves e = rw e

    pub refused-stands : ((step_on (start objects links) s).told.number ≡ 0 → ⊥) → (step_on (start objects links) s).stores ≡ s
    unfolding step_on start_step
    refused-stands n = go judged _ (λ e. n (start-number ∙ ap number_of e))
      where
        go : (v : Verdict) (out : Out) → (v ≡ accepted → ⊥) → (left_by (settle_step v s.bytes s.words out)).stores ≡ s
        go accepted out n = absurd (n refl)
        go (refused why) out n = refl

  -- of two pairs of stores only the lengths count
  pub same_number : (s t : Stores) → length t.bytes ≡ length s.bytes → length t.words ≡ length s.words → (step_on (start objects links) t).told.number ≡ (step_on (start objects links) s).told.number
  same_number s t p q =
      start-number t ∙ (λ i. number_of (judge_start (record { objects = objects; links = links; bytes = p i }) (need objects links) (q i))) ∙ sym (start-number s)

  module _ (s : Stores) (z : (step_on (start objects links) s).told.number ≡ 0) where
    pub start-begun : Begun (m s) (length s.words) (drop (need_of (m s)) s.words) (step_on (start objects links) s).stores
    start-begun =
        let f = start-drawn objects links s z in
        record {
          is_sound = f.drawn.is_sound;
          limits = limits-noted s objects links z;
          same_bytes = f.same_bytes;
          same_words = f.same_words;
          past = start-past s objects links;
        }

    pub fresh : (t : Stores) → Begun (m s) (length s.words) (drop (need_of (m s)) s.words) t → (step_on (start objects links) t).stores ≡ (step_on (start objects links) s).stores
    fresh t k =
        let v = start-accepted s z in
        let same : m t ≡ m s = ap (λ j. record { objects = objects; links = links; bytes = j }) k.same_bytes in
        start-leaves t (rw (k.same_bytes, k.same_words) v)
        ∙ (λ i. stores (replicate (k.same_bytes i) 0) (start_words (same i) t.words))
        ∙ ap (λ x. stores (replicate (length s.bytes) 0) x) (surplus-words (m s) s.words t.words k.past)
        ∙ sym (start-leaves s v)
