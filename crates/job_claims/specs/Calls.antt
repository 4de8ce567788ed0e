-- docs/RULES.md, 12.9: the calls of the functions of section 5 that a job makes, by its text alone, each with its line.
use Rattle.std.specs.Prelude.{ℕ, suc, ◌+◌, List, [], ◌∷◌, ◌++◌, map, eqb, ltb, length, Option, Some, None}
use Rattle.lists.specs.Lists.{pick, holds}
use Rattle.text_hex.specs.Hex.{bytes_of}
use Rattle.model.specs.Judge.{Limits}
use Rattle.model.specs.Told.{Told}
use Rattle.model.specs.Session.{Session, started, step}
use Rattle.model.specs.Session.{pack as pack_of}
use Rattle.steps.specs.Runs.{StoreCall, start, open', put, link, close, LentCall, on_stores, pack, as_call}
use Rattle.job_lines.specs.Lines.{cut}
use Rattle.job_items.specs.Item.{codes, limit, pairs, item}
use Rattle.job_items.specs.declared.Item.{Item}
use Rattle.job_rules.specs.Job.{most_text, Stage, bytes_due, objects_due, links_due, piece_due, writing, Turn, on, stop, packs, no_needs, in_job, inner_start, copies_allowed, child_at, turn}

-- ---- the calls of a line (12.2), were they all accepted

-- of a `links` line, where the limits are within the job's own
abbrev pub start_calls : Limits → List StoreCall
start_calls m = pick (holds (in_job m)) (start m.objects m.links ∷ []) []

abbrev pub piece_calls : List ℕ → List StoreCall
piece_calls l = open' ∷ put (bytes_of (pairs l)) ∷ []

-- of the first line behind the limits
abbrev pub first_calls : Option Item → List ℕ → List StoreCall
first_calls (Some Item.Piece) l = piece_calls l
first_calls (Some (Item.Link w i)) l = []
first_calls (Some (Item.End n)) l = []
first_calls None l = []

-- of any other, by the ids of the piece lines before it
abbrev pub next_calls : Option Item → List ℕ → List ℕ → List StoreCall
next_calls (Some Item.Piece) l ids = close ∷ piece_calls l
next_calls (Some (Item.Link w i)) l ids = link w (child_at ids i) inner_start ∷ []
next_calls (Some (Item.End n)) l ids = pick (eqb n (suc (length ids))) (close ∷ []) []
next_calls None l ids = []

-- ---- the calls that are made: the first that is refused is the last

-- a call, its line, and what it tells
pub record JobCall : Type 0 where
  pub line : ℕ
  pub call : LentCall
  pub told : Told

-- of line n; of the stores only how many bytes there are plays a part, which the session knows
unfoldable pub made : ℕ → List StoreCall → Session → List JobCall
made n [] s = []
made n (c ∷ cs) s =
    let l = step no_needs (as_call s.limits.bytes 0 c) s in
    record { line = n; call = on_stores c; told = l.told } ∷ pick (eqb l.told.number 0) (made n cs l.after) []

abbrev pub start_made : ℕ → Option ℕ → ℕ → ℕ → List JobCall
start_made n (Some k) b o = let m : Limits = record { objects = o; links = k; bytes = b } in made n (start_calls m) (started m)
start_made n None b o = []

unfoldable pub line_calls : ℕ → List ℕ → Stage → List JobCall
line_calls n l bytes_due = []
line_calls n l (objects_due b) = []
line_calls n l (links_due b o) = start_made n (limit (codes "links=") l) b o
line_calls n l (piece_due s) = made n (first_calls (item l) l) s
line_calls n l (writing s ids) = made n (next_calls (item l) l ids) s

-- ---- of all lines; the pack is lent `out` and `work`

module _ (out work : List ℕ) where
  abbrev pub pack_made : ℕ → Session → ℕ → JobCall
  pack_made n s root = record { line = n; call = pack root copies_allowed out work; told = (pack_of no_needs root copies_allowed (length out) 0 s).told }

  -- line n led to a turn; where that is on, the next line's calls follow
  abbrev pub calls_after : ℕ → Turn → (Stage → List JobCall) → List JobCall
  calls_after n (on s) next = next s
  calls_after n (stop why) next = []
  calls_after n (packs s root) next = pack_made n s root ∷ []

  -- and these lines are left
  unfoldable pub calls_from : ℕ → List (List ℕ) → Turn → List JobCall
  calls_from n [] t = calls_after n t (λ s. [])
  calls_from n (l ∷ ls) t = calls_after n t (λ s. line_calls (n + 1) l s ++ calls_from (n + 1) ls (turn l s))

  unfoldable pub job_calls : List ℕ → List JobCall
  job_calls text = pick (ltb most_text (length text)) [] (calls_from 0 (cut text) (on bytes_due))

abbrev pub calls : List JobCall → List LentCall
calls cs = map (λ (c : JobCall). c.call) cs
