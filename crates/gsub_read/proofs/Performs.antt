-- A session call made on sound stores, by its answer.
use Rattle.std.specs.Prelude.{Ok, Err}
use mathlib.Core.Path.{◌≡◌, refl, sym, ap, ◌∙◌}
use Prim.Native.Nat.{ℕ}
use mathlib.Core.List.{List, [], ◌∷◌}
use mathlib.Core.Bool.{true}
use native.Mathlib.Omega.{arith}
use borrow.Author.Tests.{ne_eqb}
use Rattle.answer.specs.Number.{number}
use Rattle.answer.specs.declared.ObjectId.{ObjectId}
use Rattle.answer.specs.Answers.{Answer, Closing}
use Rattle.model.specs.Told.{told_by, told_by_close}
use Rattle.model.proofs.Verdicts.{refused-number}
use Rattle.layout.specs.Decode.{decode}
use Rattle.layout.specs.Sound.{sound}
use Rattle.steps.specs.Steps.{outcome, closing, open_step, put_step, link_step, close_step}
use Rattle.steps.specs.Runs.{StoreCall, Stores, stores, Left, left, left_by, left_by_close, step_on}
use Rattle.steps.specs.Runs as calls
use Rattle.steps.specs.Mirrored.{Step, by_stores}
use Rattle.steps.proofs.Steps.{sound-drawn, step-drawn}
use Rattle.gsub.specs.Ops.{Op, begin, put, link, end, go_on, perform}
use Rattle.gsub_read.specs.declared.answers.Unread.TheVariants.{Refused}
use Rattle.gsub_read.specs.Answers.{Performed}
use Rattle.gsub_read.specs.Perform.{continued, PerformedBy}

-- every call leaves sound stores
stays-sound : (c : StoreCall) (s : Stores) {l : Left} → sound s.bytes s.words ≡ true → step_on c s ≡ l → sound l.stores.bytes l.stores.words ≡ true
stays-sound c s h e = rw (← e) (step-drawn (λ m copies. 0) c s (decode s.bytes s.words) (sound-drawn s.bytes s.words h)).drawn.is_sound

abbrev as_step : Left → Step Stores
as_step l = record { number = l.told.number; id = l.told.id; next = l.stores }

-- what an answer comes to: an accepted call closes nothing, and the last id stands
abbrev after : Answer → ObjectId → Performed
after (Ok k) i = Ok i
after (Err r) i = Err (Refused r.why)

-- a close tells the id
abbrev closed : Closing → Performed
closed (Ok c) = Ok c.id
closed (Err r) = Err (Refused r.why)

module _ (s t : Stores) where
  by_answer : (i : ObjectId) (c : StoreCall) (a : Answer) → step_on c s ≡ record { told = told_by a; stores = t } → (ops : List Op)
      → go_on (by_stores c s) (perform by_stores ops i.0 (by_stores c s).next) ≡ continued (after a i) ops t
  by_answer i c a e ops = ap (λ (l : Left). go_on (as_step l) (perform by_stores ops i.0 l.stores)) e ∙ go a
    where
      go : (a : Answer) → go_on (as_step (record { told = told_by a; stores = t })) (perform by_stores ops i.0 t) ≡ continued (after a i) ops t
      go (Ok k) = refl
      go (Err r) = rw (ne_eqb (number r.why) 0 (λ q. omega (arith, refused-number r.why)))

  by-closing : (c : StoreCall) (a : Closing) → step_on c s ≡ record { told = told_by_close a; stores = t } → (ops : List Op)
      → go_on (by_stores c s) (perform by_stores ops (by_stores c s).id (by_stores c s).next) ≡ continued (closed a) ops t
  by-closing c a e ops = ap (λ (l : Left). go_on (as_step l) (perform by_stores ops l.told.id l.stores)) e ∙ go a
    where
      go : (a : Closing) → go_on (as_step (record { told = told_by_close a; stores = t })) (perform by_stores ops (told_by_close a).id t) ≡ continued (closed a) ops t
      go (Ok c) = refl
      go (Err r) = rw (ne_eqb (number r.why) 0 (λ q. omega (arith, refused-number r.why)))

module _ {b w b' w' : List ℕ} (h : sound b w ≡ true) (i : ObjectId) (a : Answer) where
  answered : (o : Op) (c : StoreCall) → ((ops : List Op) → perform by_stores (o ∷ ops) i.0 (stores b w) ≡ go_on (by_stores c (stores b w)) (perform by_stores ops i.0 (by_stores c (stores b w)).next))
      → step_on c (stores b w) ≡ left (told_by a) b' w' → PerformedBy (o ∷ []) i.0 (stores b w) (after a i) (stores b' w')
  answered o c p q = record {
    made = λ ops. p ops ∙ by_answer (stores b w) (stores b' w') i c a q ops;
    stays = stays-sound c (stores b w) h q;
  }

  pub begin-performed : outcome a b' w' ≡ open_step b w → PerformedBy (begin ∷ []) i.0 (stores b w) (after a i) (stores b' w')
  unfolding perform step_on
  begin-performed q = answered begin calls.open' (λ ops. refl) (ap left_by (sym q))

  pub put-performed : (vs : List ℕ) → outcome a b' w' ≡ put_step vs b w → PerformedBy (put vs ∷ []) i.0 (stores b w) (after a i) (stores b' w')
  unfolding perform step_on
  put-performed vs q = answered (put vs) (calls.put vs) (λ ops. refl) (ap left_by (sym q))

  pub link-performed : (width : ℕ) → outcome a b' w' ≡ link_step width i.0 0 b w → PerformedBy (link width ∷ []) i.0 (stores b w) (after a i) (stores b' w')
  unfolding perform step_on
  link-performed width q = answered (link width) (calls.link width i.0 0) (λ ops. refl) (ap left_by (sym q))

module _ {b w b' w' : List ℕ} (h : sound b w ≡ true) (a : Closing) where
  pub end-performed : closing a b' w' ≡ close_step b w → (i : ℕ) → PerformedBy (end ∷ []) i (stores b w) (closed a) (stores b' w')
  unfolding perform step_on
  end-performed q i = record {
    made = by-closing (stores b w) (stores b' w') calls.close a (ap left_by_close (sym q));
    stays = stays-sound calls.close (stores b w) h (ap left_by_close (sym q));
  }
