-- The calls that ops make: accepted ops leave what their calls leave, and on stores and history they are the same.
use mathlib.Core.Path.{◌≡◌, refl, sym, ap, ◌∙◌}
use Prim.Native.Nat.{ℕ}
use mathlib.Core.List.{List, [], ◌∷◌}
use native.Mathlib.Omega.{arith}
use Rattle.model.specs.Judge.{Limits}
use Rattle.model.specs.History.{History}
use Rattle.steps.specs.Runs.{StoreCall, Stores, step_on, left_after, as_call, needs_with}
use Rattle.steps.specs.Runs as calls
use Rattle.steps.specs.Mirrored.{by_stores, by_history}
use Rattle.steps.proofs.Mirrored.{Stands, one-agrees}
use Rattle.gsub.specs.Ops.{Op, begin, put, link, end, stop, go_on, perform}
use Rattle.gsub.proofs.Accepted.{goes_on}
use Rattle.gsub_read.specs.Read.{calls_in}

-- ---- accepted ops leave what their calls leave

record Listed (ops : List Op) : Type 0 where
  listed : (i : ℕ) (s : Stores) → (perform by_stores ops i s).number ≡ 0 → left_after (calls_in by_stores ops i s) s ≡ (perform by_stores ops i s).next

module _ (ops : List Op) (later : Listed ops) where
  one-listed : (i : ℕ) (s : Stores) (c : StoreCall) → (go_on (by_stores c s) (perform by_stores ops i (by_stores c s).next)).number ≡ 0
      → left_after (calls_in by_stores ops i (step_on c s).stores) (step_on c s).stores ≡ (go_on (by_stores c s) (perform by_stores ops i (by_stores c s).next)).next
  one-listed i s c z =
      let e = goes_on (by_stores c s) (perform by_stores ops i (by_stores c s).next) z in
      later.listed i (step_on c s).stores (ap (λ o. o.number) (sym e) ∙ z) ∙ ap (λ o. o.next) (sym e)

  begin-listed : Listed (begin ∷ ops)
  unfolding perform calls_in left_after
  begin-listed = record { listed = λ i s z. one-listed i s calls.open' z }

  put-listed : (vs : List ℕ) → Listed (put vs ∷ ops)
  unfolding perform calls_in left_after
  put-listed vs = record { listed = λ i s z. one-listed i s (calls.put vs) z }

  link-listed : (w : ℕ) → Listed (link w ∷ ops)
  unfolding perform calls_in left_after
  link-listed w = record { listed = λ i s z. one-listed i s (calls.link w i 0) z }

  end-listed : Listed (end ∷ ops)
  unfolding perform calls_in left_after
  end-listed = record { listed = λ i s z. one-listed (by_stores calls.close s).id s calls.close z }

none-listed : Listed []
unfolding perform calls_in left_after
none-listed = record { listed = λ i s z. refl }

stop-listed : (p : ℕ) (ops : List Op) → Listed (stop p ∷ ops)
unfolding perform
stop-listed p ops = record { listed = λ i s z. absurd (omega arith) }

listing : (ops : List Op) → Listed ops
listing [] = none-listed
listing (begin ∷ ops) = begin-listed ops (listing ops)
listing (put vs ∷ ops) = put-listed ops (listing ops) vs
listing (link w ∷ ops) = link-listed ops (listing ops) w
listing (end ∷ ops) = end-listed ops (listing ops)
listing (stop p ∷ ops) = stop-listed p ops

pub ops-listed : (ops : List Op) (i : ℕ) (s : Stores) → (perform by_stores ops i s).number ≡ 0 → left_after (calls_in by_stores ops i s) s ≡ (perform by_stores ops i s).next
ops-listed ops = (listing ops).listed

-- ---- the calls made on stores that hold a history are those made on it

module _ (work : Limits → ℕ → ℕ) (store records : ℕ) where
  pub same-calls : (ops : List Op) (i : ℕ) {s : Stores} {h : History} → Stands s h → calls_in by_stores ops i s ≡ calls_in (by_history (needs_with work) store records) ops i h
  unfolding calls_in as_call
  same-calls [] i k = refl
  same-calls (begin ∷ ops) i k = ap (λ cs. calls.open' ∷ cs) (same-calls ops i (one-agrees work store records calls.open' k refl).stands)
  same-calls (put vs ∷ ops) i k = ap (λ cs. calls.put vs ∷ cs) (same-calls ops i (one-agrees work store records (calls.put vs) k refl).stands)
  same-calls (link w ∷ ops) i k = ap (λ cs. calls.link w i 0 ∷ cs) (same-calls ops i (one-agrees work store records (calls.link w i 0) k refl).stands)
  same-calls (end ∷ ops) i {s} {h} k =
      let z = one-agrees work store records calls.close k refl in
      ap (λ cs. calls.close ∷ cs) (ap (λ j. calls_in by_stores ops j (by_stores calls.close s).next) z.id_same ∙ same-calls ops _ z.stands)
  same-calls (stop p ∷ ops) i k = refl
