-- The parts of a job's run joined.
use mathlib.Core.Path.{◌≡◌, sym, ap, ◌∙◌}
use Prim.Native.Nat.{ℕ, ◌≤◌, ◌<◌}
use mathlib.Core.List.{List}
use mathlib.Core.Bool.{true, false}
use native.Mathlib.Omega.{arith}
use borrow.Author.Tests.{leb-true, lt-ltb, le-ltb}
use lib.ListN.{length, take, drop, length-take}
use Rattle.lists.specs.Lists.{holds}
use Rattle.lists.proofs.Holds.{holds_at}
use Rattle.job_lines.specs.Lines.{cut}
use Rattle.model.specs.Judge.{Limits}
use Rattle.layout.specs.Words.{need, limits_in}
use Rattle.layout.specs.Decode.{decode}
use Rattle.job_rules.specs.Job.{most_text, on, stop, most_bytes, most_objects, most_links, out_of_range, in_job, bytes_due, piece_due, starts, breach, Ending, refused, run, job}
use Rattle.steps.specs.Steps.{limits_of as limits_by}
use Rattle.job_header.specs.Header.{links_line, limits_of, headed, Reads}
use Rattle.job_rest.specs.Halts.{Halts}
use Rattle.job_finish.specs.Ends.{Ends, Finishing, Finishes}
use Rattle.job_run.specs.Lent.{Lends, Ranged}
use Rattle.job_header.specs.declared.Limits.{Limits as Read}
use Rattle.job_header.specs.declared.Header.{Header}
use Rattle.job_rules.specs.declared.Breach.{Breach}
use Rattle.std.specs.Prelude.{Result, Ok, Err}
use Rattle.job_rest.specs.declared.Halt.{Halt}
use Rattle.job_header.proofs.Lined.{run-stop}
use Rattle.job_finish.proofs.Ending.{ends-refused, ends_as}
use Rattle.job_run.proofs.Starting.{limit-above, Started}

-- a job's limits are in it
module _ (m : Limits) (k : holds (in_job m) ≡ true) where
  within-objects : m.objects ≤ most_objects
  within-objects = leb-true m.objects most_objects (holds_at (in_job m) k 1)

  within-links : m.links ≤ most_links
  within-links = leb-true m.links most_links (holds_at (in_job m) k 2)

  pub within-bytes : m.bytes ≤ most_bytes
  within-bytes = leb-true m.bytes most_bytes (holds_at (in_job m) k 0)

module _ {text : List ℕ} {h : Header} {b w ids space mem : List ℕ} (k : Ranged text h × Lends b w ids space mem) where
  abbrev m : Read
  m = h.limits

  abbrev rest : List (List ℕ)
  rest = cut (drop h.end text)

  -- the part of the byte store that the job asks for
  abbrev store : List ℕ
  store = take m.bytes b

  pub store-fits : m.bytes ≤ length b
  store-fits = omega (arith, within-bytes (limits_of m) k.0.within, k.1.bytes)

  pub store-long : m.bytes ≡ length store
  store-long = omega (arith, length-take m.bytes b, store-fits)

  pub words-fit : need m.objects m.links ≤ length w
  words-fit = omega (arith, within-objects (limits_of m) k.0.within, within-links (limits_of m) k.0.within, k.1.words)

  same-limits : limits_by m.objects m.links store ≡ limits_of m
  same-limits = ap (λ (n : ℕ). record { objects = m.objects; links = m.links; bytes = n }) (sym store-long)

  pub started-within : holds (in_job (limits_by m.objects m.links store)) ≡ true
  started-within = ap (λ (x : Limits). holds (in_job x)) same-limits ∙ k.0.within

  pub refused-there : (out : List ℕ) (n : ℕ) → starts (limits_by m.objects m.links store) ≡ stop n → Ends (run (length out) links_line rest (starts (limits_of m))) (refused n links_line) out out
  refused-there out n e = ends-refused n links_line out (ap (run (length out) links_line rest) (sym (ap starts same-limits) ∙ e) ∙ run-stop (length out) links_line rest n)

  module _ {b₁ w₁ : List ℕ} (s : Started (limits_by m.objects m.links store) b₁ w₁) {x : Halt} {b₂ w₂ ids₂ : List ℕ} (z : Halts text links_line h.end (on (piece_due (decode b₁ w₁))) w₁ x b₂ w₂ ids₂) where
    limits : limits_in w₂ ≡ limits_of m
    limits = z.limits ∙ s.limits ∙ same-limits

    pub finishing : {mem' : List ℕ} → length mem' ≡ length mem → Finishing text x b₂ w₂ mem'
    finishing f = record {
      packable = record {
        is_sound = z.is_sound;
        long = omega (
          arith,
          ap (λ (x : Limits). x.objects) limits,
          ap (λ (x : Limits). x.links) limits,
          within-objects (limits_of m) k.0.within,
          within-links (limits_of m) k.0.within,
          k.1.work,
        );
        small = omega (arith, z.short, z.inside, k.0.short);
      };
      over = z.over;
    }

    pub finished-there : {out : List ℕ} {r : Ending} {out' : List ℕ} → Finishes text x b₂ w₂ r out out' → Ends (run (length out) links_line rest (starts (limits_of m))) r out out'
    finished-there {out} f = ends_as (f.ends ids₂) (z.leads (length out) ∙ ap (run (length out) links_line rest) (sym s.turn ∙ ap starts same-limits))

-- a limit above a job's
pub above-there : (text : List ℕ) (at : ℕ) (m : Read) (out : List ℕ) → holds (in_job (limits_of m)) ≡ false
    → Ends (run (length out) links_line (cut (drop at text)) (starts (limits_of m))) (refused out_of_range links_line) out out
above-there text at m out e =
    ends-refused out_of_range links_line out
    (ap (run (length out) links_line (cut (drop at text))) (limit-above (limits_of m) e) ∙ run-stop (length out) links_line (cut (drop at text)) out_of_range)

-- ---- the header

module _ {text : List ℕ} {r : Result Header Breach} (z : Reads text r) where
  pub read-inside : {h : Header} → r ≡ Ok h → h.end ≤ length text
  read-inside e = rw e at z.inside

  pub read-there : {h : Header} → r ≡ Ok h → {out : List ℕ} {x : Ending} {out' : List ℕ}
      → Ends (run (length out) links_line (cut (drop h.end text)) (starts (limits_of h.limits))) x out out' → Ends (run (length out) 0 (cut text) (on bytes_due)) x out out'
  read-there e {out} y = ends_as y (ap (headed (length out) text) (sym e) ∙ z.leads (length out))

  pub breach-there : {b : Breach} → r ≡ Err b → (out : List ℕ) → Ends (run (length out) 0 (cut text) (on bytes_due)) (refused breach b.0) out out
  breach-there {b} e out = ends-refused breach b.0 out (sym (ap (headed (length out) text) (sym e) ∙ z.leads (length out)))

-- ---- the whole job

module _ (text out : List ℕ) where
  pub job-long : most_text < length text → Ends (job (length out) text) (refused breach 1) out out
  unfolding job
  job-long h = ends-refused breach 1 out (rw (lt-ltb most_text (length text) h))

  pub job-run : length text ≤ most_text → {x : Ending} {out' : List ℕ} → Ends (run (length out) 0 (cut text) (on bytes_due)) x out out' → Ends (job (length out) text) x out out'
  unfolding job
  job-run h y = ends_as y (sym (rw (le-ltb most_text (length text) h)))
