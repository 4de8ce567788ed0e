-- The first three lines of a job: the text is refused there before any call, or its calls begin with a start.
use Rattle.std.specs.Prelude.{None, Option, Some}
use mathlib.Core.Path.{◌≡◌, refl}
use Prim.Native.Nat.{ℕ, ◌+◌}
use mathlib.Core.List.{List, [], ◌∷◌, ◌++◌}
use mathlib.Core.Bool.{Bool, true, false}
use lib.ListN.{length}
use Rattle.lists.specs.Lists.{pick, holds}
use Rattle.model.specs.Judge.{Limits}
use Rattle.model.specs.Told.{Told}
use Rattle.model.specs.Session.{started, start_call, Left}
use Rattle.steps.specs.Runs.{start}
use Rattle.job_items.specs.Item.{codes, limit}
use Rattle.job_rules.specs.Job.{bytes_due, objects_due, links_due, piece_due, writing, Turn, on, stop, call, in_job, out_of_range, starts, breach, given, Ended, refused_at, turn, Ending, refused}
use Rattle.job_rules.specs.Job.{run as job_run}
use Rattle.job_claims.specs.Calls.{made, start_made, line_calls, JobCall, calls_from}
use Rattle.job_claims.specs.Claim.{says_from, Asks, asks}

-- what a call leads to that leaves an object open
abbrev pub wrote : List ℕ → Left → Turn
wrote ids l = on (writing l.after ids)

-- what a start leads to
abbrev start_turn : Limits → Turn
start_turn m = call (start_call m 0) (started m) (λ l. on (piece_due l.after))

module _ (out work : List ℕ) where
  -- of a text of these lines: its calls, what it says where all are accepted, and what it comes to
  pub data Opened (text : List (List ℕ)) : List JobCall → (Told → Ending) → Ended → Type 0 where
    refuses : (why n : ℕ) → Opened text [] (λ t. refused why n) (refused_at why n)
    begins : (n : ℕ) (ls : List (List ℕ)) (m : Limits) → Asks text m
        → Opened text (made n (start m.objects m.links ∷ []) (started m) ++ calls_from out work n ls (start_turn m)) (says_from n ls (start_turn m)) (job_run (length out) n ls (start_turn m))

  module _ (text : List (List ℕ)) where
    abbrev Opens : ℕ → List (List ℕ) → Turn → Type 0
    Opens n ls t = Opened text (calls_from out work n ls t) (says_from n ls t) (job_run (length out) n ls t)

    stops : (n : ℕ) (ls : List (List ℕ)) (why : ℕ) → Opens n ls (stop why)
    unfolding says_from calls_from job_run
    stops n [] why = refuses why n
    stops n (l ∷ ls) why = refuses why n

    at-links : (n : ℕ) (ls : List (List ℕ)) (b o : ℕ) (v : Option ℕ) → ((k : ℕ) → v ≡ Some k → let m : Limits = record { objects = o; links = k; bytes = b } in holds (in_job m) ≡ true → Asks text m)
        → let t = given v (λ k. starts (record { objects = o; links = k; bytes = b })) in
        Opened text (start_made n v b o ++ calls_from out work n ls t) (says_from n ls t) (job_run (length out) n ls t)
    unfolding made
    at-links n ls b o None h = stops n ls breach
    at-links n ls b o (Some k) h = go (holds (in_job m)) (h k refl)
      where
        m : Limits
        m = record { objects = o; links = k; bytes = b }

        go : (x : Bool) → (x ≡ true → Asks text m)
            → let t = pick x (start_turn m) (stop out_of_range) in
            Opened text (made n (pick x (start o k ∷ []) []) (started m) ++ calls_from out work n ls t) (says_from n ls t) (job_run (length out) n ls t)
        go true h = begins n ls m (h refl)
        go false h = stops n ls out_of_range

  -- ---- line by line

  links-opened : (n : ℕ) (x y : List ℕ) (b o : ℕ) → limit (codes "bytes=") x ≡ Some b → limit (codes "objects=") y ≡ Some o → (ls : List (List ℕ)) → Opens (x ∷ y ∷ ls) n ls (on (links_due b o))
  unfolding says_from calls_from job_run line_calls turn
  links-opened n x y b o e f [] = refuses breach (n + 1)
  links-opened n x y b o e f (z ∷ ls) = at-links (x ∷ y ∷ z ∷ ls) (n + 1) ls b o (limit (codes "links=") z) (λ k g i. asks e f g i)

  objects-opened : (n : ℕ) (x : List ℕ) (b : ℕ) → limit (codes "bytes=") x ≡ Some b → (ls : List (List ℕ)) → Opens (x ∷ ls) n ls (on (objects_due b))
  unfolding says_from calls_from job_run line_calls turn
  objects-opened n x b e [] = refuses breach (n + 1)
  objects-opened n x b e (y ∷ ls) = go (limit (codes "objects=") y) refl
    where
      go : (v : Option ℕ) → limit (codes "objects=") y ≡ v → Opens (x ∷ y ∷ ls) (n + 1) ls (given v (λ o. on (links_due b o)))
      go (Some o) f = links-opened (n + 1) x y b o e f ls
      go None f = stops (x ∷ y ∷ ls) (n + 1) ls breach

  pub opened : (n : ℕ) (ls : List (List ℕ)) → Opens ls n ls (on bytes_due)
  unfolding says_from calls_from job_run line_calls turn
  opened n [] = refuses breach (n + 1)
  opened n (x ∷ ls) = go (limit (codes "bytes=") x) refl
    where
      go : (v : Option ℕ) → limit (codes "bytes=") x ≡ v → Opens (x ∷ ls) (n + 1) ls (given v (λ b. on (objects_due b)))
      go (Some b) e = objects-opened (n + 1) x b e ls
      go None e = stops (x ∷ ls) (n + 1) ls breach
