-- A job's lines in turn: the calls of each, on the stores that those before it left.
use Rattle.std.specs.Prelude.{None, Option, Some}
use mathlib.Core.Path.{refl}
use Prim.Native.Nat.{ℕ, suc, ◌+◌}
use mathlib.Core.List.{List, [], ◌∷◌, ◌++◌}
use mathlib.Core.Bool.{Bool, true, false}
use lib.Dec.{eqb}
use lib.ListN.{length}
use Rattle.lists.specs.Lists.{pick}
use Rattle.text_hex.specs.Hex.{bytes_of}
use Rattle.model.specs.Judge.{Limits}
use Rattle.model.specs.Told.{Told}
use Rattle.model.specs.Session.{Session, started, put_call, close_call, step}
use Rattle.steps.specs.Runs.{start, open', put, link, close, Stores, as_call}
use Rattle.job_items.specs.Item.{pairs, item}
use Rattle.job_items.specs.declared.Item.{Item}
use Rattle.job_rules.specs.Job.{bytes_due, objects_due, links_due, piece_due, writing, Turn, on, stop, packs, no_needs, call, breach, inner_start, writes, child_at, first_item, next_item, Ended, turn, Ending}
use Rattle.job_rules.specs.Job.{run as job_run}
use Rattle.job_claims.specs.Calls.{first_calls, next_calls, made, line_calls, JobCall, calls_from}
use Rattle.job_claims.specs.Claim.{says_from, Asks, Lent}
use Rattle.job_claims.proofs.Goes.{Held, later-goes, start-goes}
use Rattle.job_claims.proofs.Opening.{wrote, Opened, refuses, begins}
use Rattle.job_claims.proofs.Lists.{Right, right-none, right-pack, Line, line-stop, line-call}

module _ (out work : List ℕ) where
  -- the stores hold the session of a turn, if it has one
  abbrev Ready : Turn → Stores → Type 0
  Ready (on bytes_due) s = ⊥
  Ready (on (objects_due b)) s = ⊥
  Ready (on (links_due b o)) s = ⊥
  Ready (on (piece_due a)) s = Held work s a
  Ready (on (writing a ids)) s = Held work s a
  Ready (stop why) s = Unit {0}
  Ready (packs a root) s = Held work s a

  -- ---- a line behind the limits, where all that follows is right

  module _ (n : ℕ) (ls : List (List ℕ)) (follows : (t : Turn) (s : Stores) → Ready t s → Line out work n ls [] t s) where
    writes_line : (vs ids : List ℕ) {a : Session} {s : Stores} → Held work s a → Line out work n ls (made n (open' ∷ put vs ∷ []) a) (writes vs ids a) s
    unfolding made as_call
    writes_line vs ids {a} h =
        line-call out work n ls open' (put vs ∷ []) a (λ o. call (put_call vs) o.after (wrote ids)) (later-goes work open' refl h)
        (λ o. line-call out work n ls (put vs) [] _ (wrote ids) (later-goes work (put vs) refl o) (follows (on (writing _ ids)) _))

    first-line : (it : Option Item) (l : List ℕ) {a : Session} {s : Stores} → Held work s a → Line out work n ls (made n (first_calls it l) a) (first_item it l a) s
    unfolding made
    first-line (Some Item.Piece) l h = writes_line (bytes_of (pairs l)) [] h
    first-line (Some (Item.Link w i)) l h = line-stop out work n ls breach _
    first-line (Some (Item.End k)) l h = line-stop out work n ls breach _
    first-line None l h = line-stop out work n ls breach _

    end_line : (x : Bool) {a : Session} {s : Stores} → Held work s a
        → Line out work n ls (made n (pick x (close ∷ []) []) a) (pick x (call close_call a (λ c. packs c.after c.told.id)) (stop breach)) s
    unfolding made as_call
    end_line true {a} h = line-call out work n ls close [] a (λ c. packs c.after c.told.id) (later-goes work close refl h) (follows (packs _ (step no_needs close_call a).told.id) _)
    end_line false h = line-stop out work n ls breach _

    next-line : (it : Option Item) (l : List ℕ) {a : Session} (ids : List ℕ) {s : Stores} → Held work s a → Line out work n ls (made n (next_calls it l ids) a) (next_item it l a ids) s
    unfolding made as_call
    next-line (Some Item.Piece) l {a} ids h =
        let vs = bytes_of (pairs l) in
        line-call out work n ls close (open' ∷ put vs ∷ []) a (λ c. writes vs (ids ++ (c.told.id ∷ [])) c.after) (later-goes work close refl h)
        (writes_line vs (ids ++ ((step no_needs close_call a).told.id ∷ [])))
    next-line (Some (Item.Link w i)) l {a} ids h =
        let c = link w (child_at ids i) inner_start in line-call out work n ls c [] a (wrote ids) (later-goes work c refl h) (follows (on (writing _ ids)) _)
    next-line (Some (Item.End k)) l ids h = end_line (eqb k (suc (length ids))) h
    next-line None l ids h = line-stop out work n ls breach _

  -- ---- the lines that are left

  none_left : (n : ℕ) (t : Turn) (s : Stores) → Ready t s → Line out work n [] [] t s
  unfolding says_from calls_from job_run
  none_left n (on bytes_due) s h = elim h [ ]
  none_left n (on (objects_due _)) s h = elim h [ ]
  none_left n (on (links_due _ _)) s h = elim h [ ]
  none_left n (on (piece_due a)) s h = right-none out work breach (n + 1) s
  none_left n (on (writing a ids)) s h = right-none out work breach (n + 1) s
  none_left n (stop why) s h = line-stop out work n [] why s
  none_left n (packs a root) s h = right-pack out work n [] root h

  some_left : (l : List ℕ) (ls : List (List ℕ)) (n : ℕ) → ((t : Turn) (s : Stores) → Ready t s → Line out work (n + 1) ls [] t s) → (t : Turn) (s : Stores) → Ready t s → Line out work n (l ∷ ls) [] t s
  unfolding says_from calls_from job_run line_calls turn
  some_left l ls n follows (on bytes_due) s h = elim h [ ]
  some_left l ls n follows (on (objects_due _)) s h = elim h [ ]
  some_left l ls n follows (on (links_due _ _)) s h = elim h [ ]
  some_left l ls n follows (on (piece_due a)) s h = first-line (n + 1) ls follows (item l) l h
  some_left l ls n follows (on (writing a ids)) s h = next-line (n + 1) ls follows (item l) l ids h
  some_left l ls n follows (stop why) s h = line-stop out work n (l ∷ ls) why s
  some_left l ls n follows (packs a root) s h = right-pack out work n (l ∷ ls) root h

  lines-right : (ls : List (List ℕ)) (n : ℕ) (t : Turn) (s : Stores) → Ready t s → Line out work n ls [] t s
  lines-right [] n t s h = none_left n t s h
  lines-right (l ∷ ls) n t s h = some_left l ls n (λ t s h. lines-right ls (n + 1) t s h) t s h

  -- ---- the whole text: either it is refused before any call, or it begins with a start

  pub opened-right : {ls : List (List ℕ)} {cs : List JobCall} {rest : Told → Ending} {e : Ended} (s : Stores) → ((m : Limits) → Asks ls m → Lent m s work)
      → Opened out work ls cs rest e → Right out work rest cs e s
  unfolding made as_call
  opened-right s h (refuses why n) = right-none out work why n s
  opened-right s h (begins n ls m k) =
      line-call out work n ls (start m.objects m.links) [] (started m) (λ l. on (piece_due l.after)) (start-goes work m s (h m k)) (lines-right ls n (on (piece_due _)) _)
