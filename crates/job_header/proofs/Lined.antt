-- One line after another: the job goes on behind the line with the turn that it leads to.
use mathlib.Core.Path.{◌≡◌, refl, sym, ap, ◌∙◌}
use Prim.Native.Nat.{ℕ, suc, ◌+◌, ◌≤◌, ◌<◌}
use mathlib.Core.List.{List, [], ◌∷◌}
use native.Mathlib.Omega.{arith}
use native.Mathlib.Decide.{dec_le}
use lib.ListN.{length, drop, length-drop, drop_of_length-le}
use lib.Seq.{drop-drop}
use Rattle.job_lines.specs.Lines.{cut, line_length, first_line}
use Rattle.job_lines.proofs.Cutting.{cut-first, line-long, line-most, line-least}
use Rattle.job_items.specs.Item.{limit, item}
use Rattle.job_rules.specs.Job.{Stage, bytes_due, objects_due, links_due, piece_due, writing, on, stop, refused_at, breach, turn, run}

-- a refusal ends the job, whatever follows
pub run-stop : (room n : ℕ) (ls : List (List ℕ)) (why : ℕ) → run room n ls (stop why) ≡ refused_at why n
unfolding run
run-stop room n [] why = refl
run-stop room n (l ∷ ls) why = refl

-- no line is a breach wherever one is due
turn-none : (s : Stage) → turn [] s ≡ stop breach
unfolding turn limit item
turn-none bytes_due = refl
turn-none (objects_due b) = refl
turn-none (links_due b o) = refl
turn-none (piece_due s) = refl
turn-none (writing s ids) = refl

pub run_none : (room n : ℕ) (s : Stage) → run room n [] (on s) ≡ refused_at breach (n + 1)
unfolding run
run_none room n s = refl

run-line : (room n : ℕ) (l : List ℕ) (ls : List (List ℕ)) (s : Stage) → run room n (l ∷ ls) (on s) ≡ run room (n + 1) ls (turn l s)
unfolding run
run-line room n l ls s = refl

pub cut-none : cut [] ≡ []
unfolding cut
cut-none = refl

module _ (text : List ℕ) (at : ℕ) where
  abbrev part : List ℕ
  part = first_line (drop at text)

  pub part-inside : at ≤ length text → at + length part ≤ length text
  part-inside h = omega (arith, line-long (drop at text), line-most (drop at text), length-drop at text)

  pub part-some : at < length text → 0 < length part
  part-some h = omega (arith, line-long (drop at text), line-least (drop at text) (omega (arith, length-drop at text)))

  pub part-short : length part ≤ length text
  part-short = omega (arith, line-long (drop at text), line-most (drop at text), length-drop at text)

  pub line-turn : (room n : ℕ) (s : Stage) → run room (n + 1) (cut (drop (at + length part) text)) (turn part s) ≡ run room n (cut (drop at text)) (on s)
  unfolding line_length
  line-turn room n s = go (dec_le (suc at) (length text))
    where
      go : Dec (at < length text) → run room (n + 1) (cut (drop (at + length part) text)) (turn part s) ≡ run room n (cut (drop at text)) (on s)
      go (yes h) =
          ap (λ (k : ℕ). run room (n + 1) (cut (drop (at + k) text)) (turn part s)) (line-long (drop at text))
          ∙ sym (rw (cut-first (drop at text) (omega (arith, length-drop at text)), run-line, drop-drop (line_length (drop at text)) at text))
      go (no h) =
          let k : length text ≤ at = omega arith in
          let e : drop at text ≡ [] = drop_of_length-le text k in
          rw (e, turn-none s, run-stop, cut-none, run_none)
