-- docs/RULES.md, 12.9: a job's answer by what its calls tell, and the memory that they are lent.
use Rattle.std.specs.Prelude.{ℕ, ◌+◌, ◌≤◌, ◌≡◌, List, [], ◌∷◌, map, true, eqb, ltb, length, get_or, replicate, Option, Some, unwrap_or}
use Rattle.lists.specs.Lists.{pick, over, holds}
use Rattle.answer.specs.Number.{no_tally}
use Rattle.model.specs.Judge.{Limits}
use Rattle.model.specs.Told.{Told, done}
use Rattle.model.specs.History.{begun}
use Rattle.layout.specs.Words.{need}
use Rattle.work.specs.Areas.{work_need}
use Rattle.steps.specs.Steps.{limits_of}
use Rattle.steps.specs.Runs.{Stores, stores, LentCall, on_stores, pack, LentLeft}
use Rattle.claims.specs.Demand.{Made, AllClaim}
use Rattle.claims_program.specs.Chain.{Ran, calls_of}
use Rattle.job_lines.specs.Lines.{cut}
use Rattle.job_items.specs.Item.{codes, limit}
use Rattle.job_rules.specs.Job.{most_text, Stage, bytes_due, Turn, on, stop, packs, in_job, breach, copies_allowed, turn, behind_end, job, Ending, refused}
use Rattle.job_claims.specs.Calls.{JobCall, job_calls, calls}

-- ---- the answer

-- where every call is accepted: line n led to a turn, these lines are left, and the last call told t
abbrev pub says_after : ℕ → List (List ℕ) → Turn → Told → (Stage → Ending) → Ending
says_after n ls (on s) t next = next s
says_after n ls (stop why) t next = refused why n
says_after n ls (packs s root) t next = behind_end n ls t

unfoldable pub says_from : ℕ → List (List ℕ) → Turn → Told → Ending
says_from n [] u t = says_after n [] u t (λ s. refused breach (n + 1))
says_from n (l ∷ ls) u t = says_after n (l ∷ ls) u t (λ s. says_from (n + 1) ls (turn l s) t)

unfoldable pub says : List ℕ → Told → Ending
says text t = pick (ltb most_text (length text)) (refused breach 1) (says_from 0 (cut text) (on bytes_due) t)

-- the first refusal, at its call's line; else the rest, by what was told last
unfoldable pub answer_by : (Told → Ending) → List JobCall → List Made → Told → Ending
answer_by rest [] ms t = rest t
answer_by rest (c ∷ cs) [] t = rest t
answer_by rest (c ∷ cs) (m ∷ ms) t =
    let told = m.left.told in
    pick (eqb told.number 0) (answer_by rest cs ms told) (refused told.number c.line)

-- ---- what the calls leave

-- of an output that held `out`
abbrev pub out_by : LentCall → LentLeft → List ℕ → List ℕ
out_by (on_stores c) l out = out
out_by (pack id copies given work) l out = l.out

unfoldable pub out_after : List Made → List ℕ → List ℕ
out_after [] out = out
out_after (m ∷ ms) out = out_after ms (out_by m.call m.left out)

-- no call but the last is refused
unfoldable pub InTurn : List Made → Type 0
InTurn [] = Unit {0}
InTurn (m ∷ []) = Unit {0}
InTurn (m ∷ k ∷ ms) = (m.left.told.number ≡ 0) × InTurn (k ∷ ms)

-- ---- the memory that is lent: what the text asks for, and what that needs

-- the first three lines have these limits, which are within the job's own
pub data Asks : List (List ℕ) → Limits → Type 0 where
  asks : {x y z : List ℕ} {ls : List (List ℕ)} {m : Limits} → limit (codes "bytes=") x ≡ Some m.bytes → limit (codes "objects=") y ≡ Some m.objects
      → limit (codes "links=") z ≡ Some m.links → holds (in_job m) ≡ true → Asks (x ∷ y ∷ z ∷ ls) m

-- a byte store just as long as asked for; record words and work memory no shorter than needed
pub record Lent (m : Limits) (s : Stores) (work : List ℕ) : Type 0 where
  pub bytes : length s.bytes ≡ m.bytes
  pub words : need m.objects m.links ≤ length s.words
  pub memory : work_need m.objects m.links copies_allowed ≤ length work

pub record Suited (text : List ℕ) (s : Stores) (work : List ℕ) : Type 0 where
  pub lent : (m : Limits) → Asks (cut text) m → Lent m s work

-- the limits of the first three lines; one that is absent or has none counts as 0
abbrev value_of : Option ℕ → ℕ
value_of n = unwrap_or n 0

abbrev pub asked : List (List ℕ) → Limits
asked ls =
    record {
      objects = value_of (limit (codes "objects=") (get_or ls 1 []));
      links = value_of (limit (codes "links=") (get_or ls 2 []));
      bytes = value_of (limit (codes "bytes=") (get_or ls 0 []));
    }

-- stores and work memory just as long as that
abbrev pub just_stores : Limits → Stores
just_stores m = stores (replicate m.bytes 0) (replicate (need m.objects m.links) 0)

abbrev pub just_work : Limits → List ℕ
just_work m = replicate (work_need m.objects m.links copies_allowed) 0

-- ---- the claim: a job is its calls

-- these were made, with that told and left
pub record IsJob (text out work : List ℕ) (ms : List Made) : Type 0 where
  pub in_turn : InTurn ms
  -- each tells what the text says; so the ids in links and in the pack are those that the closes before them told
  pub told : map (λ (m : Made). m.left.told) ms ≡ map (λ (c : JobCall). c.told) (job_calls out work text)
  pub ending : (job (length out) text).ending ≡ answer_by (says text) (job_calls out work text) ms (done no_tally)
  pub table : over 0 (job (length out) text).table out ≡ out_after ms out

-- of every text, by calls that are made as `called` says
abbrev pub EveryJob : (Stores → Made → Type 0) → Type 0
EveryJob called =
    (text out work : List ℕ) (s : Stores) (ms : List Made) → Suited text s work → Ran called s ms → calls_of ms ≡ calls (job_calls out work text)
    → IsJob text out work ms

-- what section 8 says of lists of calls: behind an accepted start, which is a job's first call, all are as the history says
abbrev pub EveryJobList : (Stores → Made → Type 0) → Type 0
EveryJobList called =
    (text out work : List ℕ) (s : Stores) (first : Made) (ms : List Made) → Ran called s (first ∷ ms) → calls_of (first ∷ ms) ≡ calls (job_calls out work text) → first.left.told.number ≡ 0
    → (m : Limits) × Asks (cut text) m × AllClaim (length s.bytes) (length s.words) ms first.left.stores (begun (limits_of m.objects m.links s.bytes))
