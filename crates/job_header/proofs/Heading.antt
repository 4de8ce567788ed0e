-- The three lines of the limits, one after another.
use mathlib.Core.Path.{◌≡◌, refl, sym, ap, ◌∙◌}
use Prim.Native.Nat.{ℕ, ◌+◌, ◌≤◌}
use mathlib.Core.List.{List}
use native.Mathlib.Omega.{arith}
use lib.ListN.{length, drop}
use Rattle.job_lines.specs.Lines.{cut, first_line}
use Rattle.job_items.specs.Item.{codes, limit}
use Rattle.std.specs.Prelude.{Some, None, Ok, Err}
use Rattle.job_rules.specs.Job.{Stage, bytes_due, objects_due, links_due, on, stop, starts, breach, turn, run}
use Rattle.job_header.specs.Header.{limits_of, Reads}
use Rattle.job_header.specs.declared.Limits.{Limits}
use Rattle.job_header.proofs.Lined.{part-inside, line-turn, run-stop}

-- behind line n, at `at`, the job is at s
record Due (text : List ℕ) (n at : ℕ) (s : Stage) : Type 0 where
  inside : at ≤ length text
  leads : (room : ℕ) → run room n (cut (drop at text)) (on s) ≡ run room 0 (cut text) (on bytes_due)

due-none : (text : List ℕ) → Due text 0 0 bytes_due
due-none text = record { inside = omega arith; leads = λ room. refl }

module _ {text : List ℕ} {n at : ℕ} {s : Stage} (d : Due text n at s) {p : List ℕ} (q : p ≡ first_line (drop at text)) where
  behind : (room : ℕ) → run room (n + 1) (cut (drop (at + length p) text)) (turn p s) ≡ run room 0 (cut text) (on bytes_due)
  behind room = rw q (line-turn text at room n s) ∙ d.leads room

  inside : at + length p ≤ length text
  inside = rw q (part-inside text at d.inside)

  due-next : {s' : Stage} → turn p s ≡ on s' → Due text (n + 1) (at + length p) s'
  due-next e = record { inside = inside; leads = λ room. ap (run room (n + 1) (cut (drop (at + length p) text))) (sym e) ∙ behind room }

  due-breach : turn p s ≡ stop breach → Reads text (Err (record { 0 = n + 1 }))
  due-breach e = record { inside = omega arith; leads = λ room. sym (run-stop room (n + 1) (cut (drop (at + length p) text)) breach) ∙ ap (run room (n + 1) (cut (drop (at + length p) text))) (sym e) ∙ behind room }

  due-read : (m : Limits) → n ≡ 2 → turn p s ≡ starts (limits_of m) → Reads text (Ok (record { limits = m; end = at + length p }))
  due-read m f e = record {
    inside = inside;
    leads = λ room. ap (λ (k : ℕ). run room (k + 1) (cut (drop (at + length p) text)) (starts (limits_of m))) (sym f) ∙ ap (run room (n + 1) (cut (drop (at + length p) text))) (sym e) ∙ behind room;
  }

-- what each of the three lines leads to
module _ (l : List ℕ) where
  bytes-is : {n : ℕ} → limit (codes "bytes=") l ≡ Some n → turn l bytes_due ≡ on (objects_due n)
  unfolding turn
  bytes-is e = rw e

  bytes-not : limit (codes "bytes=") l ≡ None → turn l bytes_due ≡ stop breach
  unfolding turn
  bytes-not e = rw e

  module _ (b : ℕ) where
    objects-is : {n : ℕ} → limit (codes "objects=") l ≡ Some n → turn l (objects_due b) ≡ on (links_due b n)
    unfolding turn
    objects-is e = rw e

    objects-not : limit (codes "objects=") l ≡ None → turn l (objects_due b) ≡ stop breach
    unfolding turn
    objects-not e = rw e

    module _ (o : ℕ) where
      links-is : {n : ℕ} → limit (codes "links=") l ≡ Some n → turn l (links_due b o) ≡ starts (record { objects = o; links = n; bytes = b })
      unfolding turn
      links-is e = rw e

      links-not : limit (codes "links=") l ≡ None → turn l (links_due b o) ≡ stop breach
      unfolding turn
      links-not e = rw e

-- ---- the whole header, as its code goes: the lines, and the places behind them

module _ (text : List ℕ) {p : List ℕ} (q : p ≡ first_line (drop 0 text)) where
  pub first-not : limit (codes "bytes=") p ≡ None → Reads text (Err (record { 0 = 1 }))
  first-not e = due-breach (due-none text) q (bytes-not p e)

  module _ {b : ℕ} (e : limit (codes "bytes=") p ≡ Some b) where
    due-one : Due text 1 (length p) (objects_due b)
    due-one = let z : 0 + length p ≡ length p = omega arith in rw z at (due-next (due-none text) q (bytes-is p e))

    module _ {p₂ : List ℕ} (q₂ : p₂ ≡ first_line (drop (length p) text)) where
      pub second-not : limit (codes "objects=") p₂ ≡ None → Reads text (Err (record { 0 = 2 }))
      second-not e = due-breach due-one q₂ (objects-not p₂ b e)

      module _ {o : ℕ} (e₂ : limit (codes "objects=") p₂ ≡ Some o) where
        due-two : Due text 2 (length p + length p₂) (links_due b o)
        due-two = due-next due-one q₂ (objects-is p₂ b e₂)

        module _ {p₃ : List ℕ} (q₃ : p₃ ≡ first_line (drop (length p + length p₂) text)) where
          pub third-not : limit (codes "links=") p₃ ≡ None → Reads text (Err (record { 0 = 3 }))
          third-not e = due-breach due-two q₃ (links-not p₃ b o e)

          pub third-read : {k : ℕ} → limit (codes "links=") p₃ ≡ Some k
              → Reads text (Ok (record { limits = record { bytes = b; objects = o; links = k }; end = length p + length p₂ + length p₃ }))
          third-read {k} e = due-read due-two q₃ (record { bytes = b; objects = o; links = k }) refl (links-is p₃ b o e)
