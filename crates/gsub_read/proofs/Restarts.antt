-- The start of a read, what its ops came to after it, and the start anew.
use Rattle.std.specs.Prelude.{Ok, Err}
use mathlib.Core.Path.{◌≡◌, sym, ap, subst, ◌∙◌}
use Prim.Native.Nat.{ℕ}
use mathlib.Core.List.{List}
use mathlib.Core.Bool.{true}
use native.Mathlib.Omega.{arith}
use borrow.Author.Tests.{ne_eqb}
use Rattle.answer.specs.Number.{number}
use Rattle.answer.specs.declared.ObjectId.{ObjectId}
use Rattle.answer.specs.declared.Refused.{Refused}
use Rattle.answer.specs.declared.tally.Tally.{Tally}
use Rattle.answer.specs.Answers.{Answer}
use Rattle.model.specs.Told.{Told, told_by}
use Rattle.model.proofs.Verdicts.{refused-number}
use Rattle.layout.specs.Sound.{sound}
use Rattle.steps.specs.Steps.{tally_in}
use Rattle.steps.specs.Runs.{Stores, Left, left, start, step_on}
use Rattle.steps.proofs.Steps.{start-drawn}
use Rattle.gsub.specs.Ops.{Op}
use Rattle.gsub_read.specs.declared.answers.Unread.{Unread}
use Rattle.gsub_read.specs.declared.answers.Unread.TheVariants.{BadTable, Refused as refused}
use Rattle.gsub_read.specs.Answers.{ReadAnswer, Performed, unread_number}
use Rattle.gsub_read.specs.Perform.{outcome_of, RanBy}
use Rattle.gsub_read.specs.Read.{ReadLeft, told_by_read, read_left, settled, begun_step, ops_step}

abbrev left_read : ReadAnswer → Stores → ReadLeft
left_read r s = read_left (told_by_read r) s.bytes s.words

-- a refusal's number is none of an accepted call
pub unread-number : (u : Unread) → unread_number u ≡ 0 → ⊥
unread-number (BadTable p) e = omega arith
unread-number (refused why) e = omega (arith, refused-number why)

-- ---- a read, whose first start answers a and leaves s₁ of s

module _ (objects links : ℕ) (s : Stores) where
  abbrev Started : Answer → Stores → Type 0
  Started a t = left (told_by a) t.bytes t.words ≡ step_on (start objects links) s

  pub start-sound : {k : Tally} {s₁ : Stores} → Started (Ok k) s₁ → sound s₁.bytes s₁.words ≡ true
  start-sound e =
      let told : (step_on (start objects links) s).told.number ≡ 0 = ap (λ (l : Left). l.told.number) (sym e) in
      subst (λ (l : Left). sound l.stores.bytes l.stores.words ≡ true) (sym e) (start-drawn objects links s told).drawn.is_sound

  module _ (ops : List Op) {s₁ : Stores} where
    begun-by : (a : Answer) → Started a s₁ → ops_step ops objects links s ≡ begun_step ops objects links (told_by a).number s₁
    unfolding ops_step
    begun-by a e = ap (λ (l : Left). begun_step ops objects links l.told.number l.stores) (sym e)

    pub start-refused : (r : Refused) → Started (Err r) s₁ → left_read (Err (refused r.why)) s₁ ≡ ops_step ops objects links s
    start-refused r e = sym (begun-by (Err r) e ∙ rw (ne_eqb (number r.why) 0 (λ q. omega (arith, refused-number r.why))))

    module _ {k : Tally} (e : Started (Ok k) s₁) {t : Stores} where
      settled-by : {p : Performed} → RanBy ops 0 s₁ p t → ops_step ops objects links s ≡ settled objects links (outcome_of p t)
      settled-by x = begun-by (Ok k) e ∙ ap (λ o. settled objects links o) x.ran

      pub read_done : {i : ObjectId} → RanBy ops 0 s₁ (Ok i) t → {c : Tally} → c ≡ tally_in t.bytes t.words → left_read (Ok (record { root = i; tally = c })) t ≡ ops_step ops objects links s
      read_done {i} x h = sym (settled-by x ∙ ap (λ z. left_read (Ok (record { root = i; tally = z })) t) (sym h))

      pub read-refused : {u : Unread} → RanBy ops 0 s₁ (Err u) t → {s₂ : Stores} {again : Told} → left again s₂.bytes s₂.words ≡ step_on (start objects links) t → left_read (Err u) s₂ ≡ ops_step ops objects links s
      read-refused {u} x g = sym (settled-by x ∙ rw (ne_eqb (unread_number u) 0 (unread-number u), ← g))
