-- Each call of a job, on the stores that it is lent: it tells the number that the abstract call tells, and where that is 0 the stores hold what that leaves.
use Rattle.std.specs.Prelude.{Ok}
use mathlib.Core.Path.{◌≡◌, refl, sym, ap, ◌∙◌}
use Prim.Native.Nat.{ℕ, ◌≤◌}
use mathlib.Core.List.{List}
use mathlib.Core.Bool.{Bool, true, false, not, ◌&&◌, false≢true}
use borrow.Author.Tests.{le-leb, le-ltb}
use lib.Dec.{leb}
use lib.ListN.{length, replicate}
use Rattle.lists.specs.Lists.{pick, total, holds}
use Rattle.answer.specs.Number.{no_tally}
use Rattle.answer.specs.declared.Refusal.TheVariants as Refusal
use Rattle.model.specs.Judge.{Limits, Verdict, accepted, refused, verdict, in_range, judge_start}
use Rattle.model.specs.Told.{Told}
use Rattle.model.specs.Session.{Session, started, start_call, Left, leaves, settle_call, step, pack}
use Rattle.layout.specs.Words.{need, limits_in}
use Rattle.steps.specs.Steps.{limits_of, outcome, settle_step, start_words, start_step}
use Rattle.steps.specs.Runs.{StoreCall, start, open', put, link, close, drop, tally, Stores, left_by, step_on, as_call, needs_with, Drawn}
use Rattle.steps.proofs.Tallies.{limits-decode}
use Rattle.steps.proofs.Works.{asks}
use Rattle.steps.proofs.Steps.{step-drawn, start-drawn}
use Rattle.steps.proofs.Surplus.{limits-stay}
use Rattle.claims.specs.Demand.{needs}
use Rattle.job_rules.specs.Job.{no_needs, copies_allowed}
use Rattle.job_claims.specs.Claim.{Lent}

abbrev no_work : Limits → ℕ → ℕ
no_work m copies = 0

-- only a start looks at the stores' lengths and the needs
same_step : (c : StoreCall) → asks c ≡ true → (bytes words : ℕ) (a : Session) → step (needs_with no_work) (as_call bytes words c) a ≡ step no_needs (as_call a.limits.bytes 0 c) a
unfolding step as_call
same_step (start objects links) k bytes words a = absurd (false≢true k)
same_step open' k bytes words a = refl
same_step (put vs) k bytes words a = refl
same_step (link width id inner) k bytes words a = refl
same_step close k bytes words a = refl
same_step drop k bytes words a = refl
same_step tally k bytes words a = refl

-- ---- with enough work memory a pack is told the same

pub pack-enough : (a : Session) (root copies room work : ℕ) → needs.work a.limits copies ≤ work → pack needs root copies room work a ≡ pack no_needs root copies room 0 a
unfolding pack
pack-enough a root copies room work h = rw (le-ltb work (needs.work a.limits copies) h)

module _ (work : List ℕ) where
  -- the stores hold the session, and the work memory is enough to pack it
  pub record Held (s : Stores) (a : Session) : Type 0 where
    pub drawn : Drawn s a
    pub memory : needs.work a.limits copies_allowed ≤ length work

  pub record Goes (c : StoreCall) (s : Stores) (l : Left) : Type 0 where
    pub told : (step_on c s).told ≡ l.told
    pub held : l.told.number ≡ 0 → Held (step_on c s).stores l.after

  drawn-limits : {s : Stores} {a : Session} → Drawn s a → limits_in s.words ≡ a.limits
  drawn-limits {s} d = limits-decode s.bytes s.words ∙ ap (λ (x : Session). x.limits) d.holds

  pub later-goes : (c : StoreCall) {s : Stores} {a : Session} → asks c ≡ true → Held s a → Goes c s (step no_needs (as_call a.limits.bytes 0 c) a)
  later-goes c {s} {a} k h =
      let f = rw (same_step c k (length s.bytes) (length s.words) a) at (step-drawn no_work c s a h.drawn) in
      let e = sym (drawn-limits f.drawn) ∙ limits-stay s c k ∙ drawn-limits h.drawn in
      record { told = f.told; held = λ z. record { drawn = f.drawn; memory = rw e h.memory } }

  -- ---- the start, whatever the stores hold

  module _ (m : Limits) (s : Stores) (h : Lent m s work) where
    abbrev first : Left
    first = step no_needs (start_call m 0) (started m)

    judged : judge_start (limits_of m.objects m.links s.bytes) (need m.objects m.links) (length s.words) ≡ judge_start m 0 0
    judged = rw (h.bytes, le-leb (need m.objects m.links) (length s.words) h.words)

    begun : first.after ≡ started m
    unfolding step
    begun = go (judge_start m 0 0)
      where
        go : (v : Verdict) → (settle_call v (started m) (leaves (started m))).after ≡ started m
        go accepted = refl
        go (refused why) = refl

    start-told : (step_on (start m.objects m.links) s).told ≡ first.told
    unfolding step_on start_step step verdict total
    start-told = rw judged (go (not (holds (in_range m) && leb 0 0)))
      where
        v : Bool → Verdict
        v x = pick x (refused Refusal.OutOfRange) accepted

        go : (x : Bool) → (left_by (settle_step (v x) s.bytes s.words (outcome (Ok no_tally) (replicate (length s.bytes) 0) (start_words (limits_of m.objects m.links s.bytes) s.words)))).told
            ≡ (settle_call (v x) (started m) (leaves (started m))).told
        go true = refl
        go false = refl

    pub start-goes : Goes (start m.objects m.links) s first
    start-goes = record {
      told = start-told;
      held = λ z.
          let d = rw h.bytes at (start-drawn m.objects m.links s (ap (λ (t : Told). t.number) start-told ∙ z)).drawn in
          record { drawn = rw begun d; memory = rw begun h.memory };
    }
