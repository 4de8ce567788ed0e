-- docs/RULES.md, 12.9: open this file first. A job is its calls:
--   of the calls made in turn, as the functions' promises say: `job_is`
--   of calls of the public functions, and of the C functions, by their contracts alone: `job-run`, `job-run-c`
--   what section 8 says of lists of calls holds of them: `job-list`, `job-list-c`
--   which calls they are, of two jobs: `cases-right` (Cases)
--   the numbers that it may tell: `job-tells` (Numbers)
--   there is memory that suits each text: `suited-just`
use mathlib.Core.Path.{◌≡◌, sym, ap, subst, ◌∙◌}
use Prim.Native.Nat.{ℕ}
use mathlib.Core.List.{List, [], ◌∷◌}
use mathlib.Core.Bool.{Bool, true, false}
use lib.Dec.{ltb}
use native.Mathlib.Omega.{arith}
use lib.ListN.{length, length-replicate}
use Rattle.lists.specs.Lists.{pick}
use Rattle.answer.specs.Number.{no_tally}
use Rattle.model.specs.Judge.{Limits}
use Rattle.model.specs.Told.{Told, done}
use Rattle.layout.specs.Words.{need}
use Rattle.work.specs.Areas.{work_need}
use Rattle.steps.specs.Runs.{start, Stores, LentCall, on_stores, lent_step}
use Rattle.claims.specs.Demand.{Made, run}
use Rattle.claims_program.specs.Chain.{more}
use Rattle.claims_program.specs.Program.{Called}
use Rattle.claims_program.specs.FromC.{CalledC}
use Rattle.claims_program.proofs.Chain.{ran-run, steps-claim}
use Rattle.claims_program.proofs.Program.{called-step}
use Rattle.claims_program.proofs.FromC.{c-step}
use Rattle.job_lines.specs.Lines.{cut}
use Rattle.job_rules.specs.Job.{most_text, bytes_due, on, breach, copies_allowed, Ended, refused_at, job, Ending, refused}
use Rattle.job_rules.specs.Job.{run as job_run}
use Rattle.job_claims.specs.Calls.{made, JobCall, calls_from, job_calls, calls}
use Rattle.job_claims.specs.Claim.{says_from, says, Asks, asks, Suited, asked, just_stores, just_work, IsJob, EveryJob, EveryJobList}
use Rattle.job_claims.proofs.Opening.{Opened, refuses, begins, opened}
use Rattle.job_claims.proofs.Lists.{Right, right-none}
use Rattle.job_claims.proofs.Lines.{opened-right}

module _ (text out work : List ℕ) (s : Stores) (h : Suited text s work) where
  job-right : Right out work (says text) (job_calls out work text) (job (length out) text) s
  unfolding says job_calls job
  job-right = go (ltb most_text (length text))
    where
      go : (x : Bool) → Right out work (λ t. pick x (refused breach 1) (says_from 0 (cut text) (on bytes_due) t)) (pick x [] (calls_from out work 0 (cut text) (on bytes_due)))
          (pick x (refused_at breach 1) (job_run (length out) 0 (cut text) (on bytes_due))) s
      go true = right-none out work breach 1 s
      go false = opened-right out work s h.lent (opened out work 0 (cut text))

  pub job_is : IsJob text out work (run (calls (job_calls out work text)) s)
  job_is = record { in_turn = job-right.in_turn; told = job-right.tells; ending = job-right.answers (done no_tally); table = job-right.table }

-- ---- the first call is a start

abbrev Begins : List (List ℕ) → LentCall → Type 0
Begins ls c = (m : Limits) × Asks ls m × (c ≡ on_stores (start m.objects m.links))

opened-begins : (out work : List ℕ) {ls : List (List ℕ)} {ds : List JobCall} {rest : Told → Ending} {e : Ended} {c : LentCall} {cs : List LentCall} → Opened out work ls ds rest e → c ∷ cs ≡ calls ds → Begins ls c
unfolding made
opened-begins out work (refuses why n) q = absurd (let z : ◌≡◌ {A = ℕ} 0 1 = cc in omega arith)
opened-begins out work (begins n ls m k) q = (m, k, cc)

job-begins : (text out work : List ℕ) {c : LentCall} {cs : List LentCall} → c ∷ cs ≡ calls (job_calls out work text) → Begins (cut text) c
unfolding job_calls
job-begins text out work {c} {cs} = go (ltb most_text (length text))
  where
    go : (x : Bool) → c ∷ cs ≡ calls (pick x [] (calls_from out work 0 (cut text) (on bytes_due))) → Begins (cut text) c
    go true q = opened-begins out work (refuses breach 1) q
    go false q = opened-begins out work (opened out work 0 (cut text)) q

-- ---- by contracts alone

module _ {called : Stores → Made → Type 0} (step : (s : Stores) (m : Made) → called s m → m.left ≡ lent_step m.call s) where
  steps-job : EveryJob called
  steps-job text out work s ms h r e = subst (IsJob text out work) (sym (ran-run step r ∙ ap (λ cs. run cs s) e)) (job_is text out work s h)

  steps-list : EveryJobList called
  steps-list text out work s first ms (more c r) e z =
      let b = job-begins text out work e in
      (b.0, b.1, steps-claim step b.0.objects b.0.links s first ms c b.2 z r)

pub job-run : EveryJob Called
job-run = steps-job called-step

pub job-run-c : EveryJob CalledC
job-run-c = steps-job c-step

pub job-list : EveryJobList Called
job-list = steps-list called-step

pub job-list-c : EveryJobList CalledC
job-list-c = steps-list c-step

-- ---- memory that suits

asks-asked : (ls : List (List ℕ)) (m : Limits) → Asks ls m → m ≡ asked ls
asks-asked _ m (asks e f g i) = rw (e, f, g)

pub suited-just : (text : List ℕ) → let m = asked (cut text) in Suited text (just_stores m) (just_work m)
suited-just text = record {
  lent = λ m k.
      rw (asks-asked (cut text) m k) record {
        bytes = length-replicate {A = ℕ} _ 0;
        words = omega (arith, length-replicate {A = ℕ} (need (asked (cut text)).objects (asked (cut text)).links) 0);
        memory = omega (arith, length-replicate {A = ℕ} (work_need (asked (cut text)).objects (asked (cut text)).links copies_allowed) 0);
      };
}
