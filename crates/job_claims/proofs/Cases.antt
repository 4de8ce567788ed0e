-- The calls of two jobs, by hand: one with a duplicate, which a link names by the id that it shares; and one with an empty piece, whose close is refused, so that its line's other
-- calls are not made.
use mathlib.Core.Path.{◌≡◌, refl}
use Prim.Native.Nat.{ℕ}
use mathlib.Core.List.{List, [], ◌∷◌, ◌++◌, map}
use Rattle.lists.specs.Lists.{same_list, total, first_that, holds}
use Rattle.text.specs.Digits.{all_digits, read_on}
use Rattle.text.specs.Decimal.{padded}
use Rattle.text_hex.specs.Hex.{bytes_of}
use Rattle.model_orders.specs.Object.{any_hopeless}
use Rattle.model.specs.Judge.{verdict}
use Rattle.model.specs.Session.{step}
use Rattle.steps.specs.Runs.{LentCall, start, open', put, link, close, on_stores, pack, as_call}
use Rattle.job_lines.specs.Lines.{in_front, cut}
use Rattle.job_items.specs.Item.{codes, starts_with, limit, piece_item, link_item, end_item, item}
use Rattle.job_rules.specs.Job.{turn}
use Rattle.job_claims.specs.Calls.{JobCall, made, line_calls, calls_from, job_calls, calls}

abbrev lines_of : List JobCall → List ℕ
lines_of cs = map (λ (c : JobCall). c.line) cs

module _ (out work : List ℕ) where
  abbrev twice : List JobCall
  twice = job_calls out work (codes "bytes=20\nobjects=8\nlinks=8\npiece=61\npiece=61\npiece=62\nlink=2,1\nend=3\n")

  abbrev empty : List JobCall
  empty = job_calls out work (codes "bytes=20\nobjects=8\nlinks=8\npiece=\npiece=61\nend=2\n")

  abbrev piece : ℕ → List LentCall
  piece b = on_stores open' ∷ on_stores (put (b ∷ [])) ∷ []

  pub cases-right :
      (calls twice ≡ on_stores (start 8 8) ∷ (piece 0x61 ++ (on_stores close ∷ (piece 0x61 ++ (on_stores close ∷ (piece 0x62 ++ (on_stores (link 2 0 0) ∷ on_stores close ∷ pack 1 0 out work ∷ [])))))))
      × (lines_of twice ≡ 3 ∷ 4 ∷ 4 ∷ 5 ∷ 5 ∷ 5 ∷ 6 ∷ 6 ∷ 6 ∷ 7 ∷ 8 ∷ 8 ∷ [])
      × (calls empty ≡ on_stores (start 8 8) ∷ on_stores open' ∷ on_stores (put []) ∷ on_stores close ∷ [])
      × (lines_of empty ≡ 3 ∷ 4 ∷ 4 ∷ 5 ∷ [])
  unfolding job_calls calls_from line_calls made turn item piece_item link_item end_item limit starts_with codes cut in_front all_digits read_on padded bytes_of step as_call verdict any_hopeless same_list total first_that holds
  cases-right = (refl, refl, refl, refl)
