-- A session started with a job's limits, in memory that is enough for any job.
use Rattle.std.specs.Prelude.{Ok, Err, IsErr}
use Rattle.answer.specs.Answers.{Answer}
use mathlib.Core.Path.{◌≡◌, refl, sym, ap, subst, ◌∙◌}
use Prim.Native.Nat.{ℕ, ◌≤◌}
use mathlib.Core.List.{List}
use mathlib.Core.Bool.{true, false}
use native.Mathlib.Omega.{arith}
use lib.ListN.{length, replicate}
use borrow.Author.Tests.{ne_eqb, le-leb}
use Rattle.lists.specs.Lists.{holds}
use Rattle.answer.specs.Number.{number, no_tally}
use Rattle.model.specs.Judge.{Limits, Verdict, accepted, refused, verdict, number_of, judge_start}
use Rattle.model.specs.Told.{Told, told_by}
use Rattle.model.specs.Session.{Session, started, leaves, Left, settle_call, step}
use Rattle.model.proofs.Verdicts.{refused-number}
use Rattle.layout.specs.Words.{need, limits_in}
use Rattle.layout.specs.Sound.{sound}
use Rattle.layout.specs.Decode.{decode}
use Rattle.steps.specs.Steps.{outcome, settle_step, start_step, start_words, limits_of}
use Rattle.steps.specs.Runs.{start, stores, left, left_by, step_on}
use Rattle.steps.specs.Runs.{Left as StoresLeft}
use Rattle.steps.proofs.Steps.{Follows, start-drawn}
use Rattle.steps.proofs.Tallies.{limits-decode}
use Rattle.job_rules.specs.Job.{Turn, on, stop, piece_due, accepted as accepted_by, out_of_range, in_job, starts}

-- a limit above a job's
pub limit-above : (m : Limits) → holds (in_job m) ≡ false → starts m ≡ stop out_of_range
limit-above m e = rw e

-- what is refused is not done
pub not_started : (r : Answer) → IsErr r → (told_by r).number ≡ 0 → ⊥
not_started (Err r) v e = omega (arith, refused-number r.why)
not_started (Ok t) v e = cc

-- the stores hold a session just started with these limits
pub record Started (m : Limits) (b w : List ℕ) : Type 0 where
  pub is_sound : sound b w ≡ true
  pub limits : limits_in w ≡ m
  pub turn : starts m ≡ on (piece_due (decode b w))

module _ (o l : ℕ) (b w : List ℕ) (fits : need o l ≤ length w) (k : holds (in_job (limits_of o l b)) ≡ true) where
  abbrev m : Limits
  m = limits_of o l b

  abbrev next : Left → Turn
  next x = on (piece_due x.after)

  abbrev verdict_on : Verdict
  verdict_on = judge_start m (need o l) (length w)

  -- enough record words are no matter
  same-verdict : judge_start m 0 0 ≡ verdict_on
  unfolding verdict
  same-verdict = rw (le-leb (need o l) (length w) fits)

  starts_by : (v : Verdict) → verdict_on ≡ v → starts m ≡ accepted_by (settle_call v (started m) (leaves (started m))) next
  unfolding step
  starts_by v f = rw k (ap (λ (x : Verdict). accepted_by (settle_call x (started m) (leaves (started m))) next) (same-verdict ∙ f))

  number-of : (v : Verdict) → (left_by (settle_step v b w (outcome (Ok no_tally) (replicate (length b) 0) (start_words m w)))).told.number ≡ number_of v
  number-of accepted = refl
  number-of (refused why) = refl

  module _ {t : Told} {b' w' : List ℕ} (e : left t b' w' ≡ step_on (start o l) (stores b w)) where
    number_by : (v : Verdict) → verdict_on ≡ v → t.number ≡ number_of v
    unfolding step_on start_step
    number_by v f = ap (λ (x : StoresLeft). x.told.number) e ∙ number-of verdict_on ∙ ap number_of f

    pub start-stops : (t.number ≡ 0 → ⊥) → starts m ≡ stop t.number
    start-stops n = go verdict_on refl
      where
        go : (v : Verdict) → verdict_on ≡ v → starts m ≡ stop t.number
        go accepted f = absurd (n (number_by accepted f))
        go (refused why) f =
            let z = number_by (refused why) f in
            starts_by (refused why) f ∙ rw (ne_eqb (number why) 0 (λ y. n (z ∙ y))) (ap stop (sym z))

    pub start-goes : t.number ≡ 0 → Started m b' w'
    start-goes z = go verdict_on refl
      where
        follows : Follows (stores b w) (left t b' w') (leaves (started m))
        follows = subst (λ (x : StoresLeft). Follows (stores b w) x (leaves (started m))) (sym e) (start-drawn o l (stores b w) (sym (ap (λ (x : StoresLeft). x.told.number) e) ∙ z))

        go : (v : Verdict) → verdict_on ≡ v → Started m b' w'
        go accepted f = record {
          is_sound = follows.drawn.is_sound;
          limits = limits-decode b' w' ∙ ap (λ (x : Session). x.limits) follows.drawn.holds;
          turn = starts_by accepted f ∙ ap (λ (x : Session). on (piece_due x)) (sym follows.drawn.holds);
        }
        go (refused why) f = absurd (omega (arith, refused-number why, number_by (refused why) f))
