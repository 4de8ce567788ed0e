-- docs/RULES.md, section 8, sentence by sentence: what the claim about a whole list of calls says of the calls in it, and of two lists. `xs` are
-- the calls made so far, and `m` is the one that comes next; `stores_after` and `history_after` are what the stores and the history are by then.
use mathlib.Core.Path.{◌≡◌, refl, ap}
use Prim.Native.Nat.{ℕ, ◌+◌, ◌<◌}
use mathlib.Core.List.{List, [], ◌∷◌, ◌++◌, append-nil}
use mathlib.Core.Bool.{true}
use native.Mathlib.Omega.{arith}
use borrow.Author.Tests.{ltb-true, eqb-false, leb-false, lt-ltb, ne_eqb, lt-leb, not-false}
use lib.ListN.{length}
use Rattle.lists.specs.Lists.{Exactly}
use Rattle.answer.specs.Number.{number}
use Rattle.answer.specs.declared.Refusal.TheVariants as Refusal
use Rattle.model_orders.specs.Object.{Slot, slot_ok, new_slot}
use Rattle.model_orders.specs.Reading.{Reading, reading_size}
use Rattle.model.specs.Judge.{Test, Tells, none, this, next, verdict, put_tests, link_tests}
use Rattle.model.specs.Told.{Told}
use Rattle.model.specs.History.{History, innermost_reading, sum, counts, judged, expected, AllDifferent, Alike}
use Rattle.model.proofs.Refusals.{tell-number, told-exactly}
use Rattle.steps.specs.Runs.{StoreCall, put, link, tally, Stores, step_on, on_stores, pack, as_call, lent_step}
use Rattle.steps.proofs.Held.{some-open}
use Rattle.claims.specs.Demand.{needs, Made, stores_after, Table, Closes, NoStarts, after_one, history_after, Agree, Claim, KeepsId, AllClaim}
use Rattle.claims.specs.Same.{SameBytes}
use Rattle.claims.proofs.Same.{agree_same}

-- the claim about a list holds of what is left of it
all_after : (bytes words : ℕ) (xs ys : List Made) (s : Stores) (h : History) → AllClaim bytes words (xs ++ ys) s h → AllClaim bytes words ys (stores_after xs s) (history_after bytes words xs h)
unfolding AllClaim stores_after history_after
all_after bytes words [] ys s h k = k
all_after bytes words (x ∷ xs) ys s h k = all_after bytes words xs ys x.left.stores (after_one bytes words x.call h) k.4

agree-first : (bytes words : ℕ) (ys : List Made) (s : Stores) (h : History) → AllClaim bytes words ys s h → Agree bytes words s h
unfolding AllClaim
agree-first bytes words [] s h k = k
agree-first bytes words (y ∷ ys) s h k = k.0

agree-last : (bytes words : ℕ) (xs : List Made) (s : Stores) (h : History) → AllClaim bytes words xs s h → Agree bytes words (stores_after xs s) (history_after bytes words xs h)
agree-last bytes words xs s h k = agree-first bytes words [] (stores_after xs s) (history_after bytes words xs h) (all_after bytes words xs [] s h (rw append-nil k))

-- ---- after any calls of the list

module _ (bytes words : ℕ) (s : Stores) (h : History) (xs ys : List Made) (all : AllClaim bytes words (xs ++ ys) s h) where
  agree : Agree bytes words (stores_after xs s) (history_after bytes words xs h)
  agree = agree-first bytes words ys (stores_after xs s) (history_after bytes words xs h) (all_after bytes words xs ys s h all)

  -- the bytes held, as a tally call would tell them next, are the history's sum
  pub held : (step_on tally (stores_after xs s)).told.tally.bytes ≡ sum (history_after bytes words xs h)
  held = ap (λ (t : Told). t.tally.bytes) agree.counted

  -- no two closed readings of the history are the same
  pub all-different : AllDifferent (history_after bytes words xs h).closed
  all-different = agree.apart

-- ---- any call of the list

module _ (bytes words : ℕ) (s : Stores) (h : History) (xs : List Made) (m : Made) (ys : List Made) (all : AllClaim bytes words (xs ++ (m ∷ ys)) s h) where
  -- the history before it
  abbrev now : History
  now = history_after bytes words xs h

  claim : Claim bytes words m.call now m.left
  unfolding AllClaim
  claim = (all_after bytes words xs (m ∷ ys) s h all).2

  -- an accepted pack leaves a table that shows the root's reading, as long as the different readings in it and the copies made
  pub table : (id copies : ℕ) (out work : List ℕ) → m.call ≡ pack id copies out work → m.left.told.number ≡ 0 → Table now id out m.left
  unfolding Claim
  table id copies out work e z = (rw e at claim).table z

  -- what a call on the stores tells is the first of its tests that applies, by the history's counts
  tells : (c : StoreCall) (ts : List Test) → m.call ≡ on_stores c → judged needs (as_call bytes words c) now ≡ verdict ts → (k : ℕ) → Exactly (m.left.told.number ≡ k) (Tells ts k)
  unfolding Claim expected
  tells c ts e f k = rw (rw e at claim, f, tell-number (verdict ts) (counts now)) (told-exactly ts k)

  -- 6 is told by a put exactly where an object is open and the sum with the new bytes passes the store
  pub no-room-put : (vs : List ℕ) → m.call ≡ on_stores (put vs) → Exactly (m.left.told.number ≡ number Refusal.StoreFull) ((0 < length now.opens) × (now.limits.bytes < sum now + length vs))
  unfolding judged as_call
  no-room-put vs e =
      let t = tells (put vs) (put_tests true now.limits (counts now) (length vs)) e refl (number Refusal.StoreFull) in
      record { only = λ z. from (t.only z); when = λ p. t.when (next refl (next (ne_eqb (length now.opens) 0 (λ z. omega (arith, p.0))) (this (lt-ltb _ _ p.1) refl))) }
    where
      from : Tells (put_tests true now.limits (counts now) (length vs)) 6 → (0 < length now.opens) × (now.limits.bytes < sum now + length vs)
      from (this i z) = absurd (omega arith)
      from (next i (this j z)) = absurd (omega arith)
      from (next i (next j (this k z))) = (some-open (eqb-false _ _ j), ltb-true _ _ k)
      from (next i (next j (next k (none z)))) = absurd (omega arith)

  -- the field that a link would append
  abbrev slot_on : ℕ → ℕ → Slot
  slot_on width inner = new_slot (reading_size (innermost_reading now.opens)) width inner

  -- by a link exactly where an object is open, the field is allowed, the id is a closed object's, a link is left, and the sum with the field passes the store
  pub no-room-link : (width id inner : ℕ) → m.call ≡ on_stores (link width id inner)
      → Exactly (m.left.told.number ≡ number Refusal.StoreFull) ((0 < length now.opens) × (slot_ok (slot_on width inner) ≡ true) × (id < length now.closed) × ((counts now).links < now.limits.links) × (now.limits.bytes < sum now + width))
  unfolding judged as_call
  no-room-link width id inner e =
      let t = tells (link width id inner) (link_tests true now.limits (counts now) (slot_on width inner) id) e refl (number Refusal.StoreFull) in
      record {
        only = λ z. from (t.only z);
        when = λ p. t.when
            (next refl
            (next (ne_eqb (length now.opens) 0 (λ z. omega (arith, p.0)))
            (next (rw p.1) (next (lt-leb _ _ p.2) (next (lt-leb _ _ p.3) (this (lt-ltb _ _ p.4) refl))))));
      }
    where
      from : Tells (link_tests true now.limits (counts now) (slot_on width inner) id) 6
          → (0 < length now.opens) × (slot_ok (slot_on width inner) ≡ true) × (id < length now.closed) × ((counts now).links < now.limits.links) × (now.limits.bytes < sum now + width)
      from (this i z) = absurd (omega arith)
      from (next i (this j z)) = absurd (omega arith)
      from (next i (next j (this k z))) = absurd (omega arith)
      from (next i (next j (next k (this l z)))) = absurd (omega arith)
      from (next i (next j (next k (next l (this n z))))) = absurd (omega arith)
      from (next i (next j (next k (next l (next n (this o z)))))) =
          (some-open (eqb-false _ _ j), not-false (slot_ok (slot_on width inner)) k, leb-false _ _ l, leb-false _ _ n, ltb-true _ _ o)
      from (next i (next j (next k (next l (next n (next o (none z))))))) = absurd (omega arith)

-- ---- two accepted closings, with no accepted start between them, tell the same id exactly if their objects read the same

kept-id : (bytes words : ℕ) (r : Reading) (i : ℕ) (ms : List Made) (k : Made) (ys : List Made) (h : History) → KeepsId bytes words r i (ms ++ (k ∷ ys)) h → NoStarts bytes words ms h → Closes k
    → Alike (innermost_reading (history_after bytes words ms h).opens) r k.left.told.id i
unfolding KeepsId NoStarts history_after
kept-id bytes words r i [] k ys h q n c = q.0 c
kept-id bytes words r i (m ∷ ms) k ys h q n c = kept-id bytes words r i ms k ys (after_one bytes words m.call h) (q.1 n.0) n.1 c

pub same_id : (bytes words : ℕ) (s : Stores) (h : History) (xs : List Made) (m : Made) (ms : List Made) (k : Made) (ys : List Made) → AllClaim bytes words (xs ++ (m ∷ (ms ++ (k ∷ ys)))) s h
    → let h₁ = history_after bytes words xs h in
    let h₂ = after_one bytes words m.call h₁ in
    Closes m → NoStarts bytes words ms h₂ → Closes k → Alike (innermost_reading (history_after bytes words ms h₂).opens) (innermost_reading h₁.opens) k.left.told.id m.left.told.id
unfolding AllClaim
same_id bytes words s h xs m ms k ys all c n d =
    let h₁ = history_after bytes words xs h in
    kept-id bytes words (innermost_reading h₁.opens) m.left.told.id ms k ys (after_one bytes words m.call h₁) ((all_after bytes words xs (m ∷ (ms ++ (k ∷ ys))) s h all).3 c) n d

-- ---- same root, same bytes

-- after two lists of calls, packs of roots that read the same, with as many copies allowed, leave the same table, or overflow at the same field by the same offset
module _ (bytes words : ℕ) (s : Stores) (h : History) (xs : List Made) (all : AllClaim bytes words xs s h)
    (bytes' words' : ℕ) (s' : Stores) (h' : History) (xs' : List Made) (all' : AllClaim bytes' words' xs' s' h') where
  pub same_bytes : (id id' copies : ℕ) (out out' work work' : List ℕ)
      → SameBytes (history_after bytes words xs h) (history_after bytes' words' xs' h') id id' copies work work'
      (lent_step (pack id copies out work) (stores_after xs s)) (lent_step (pack id' copies out' work') (stores_after xs' s'))
  same_bytes = agree_same (agree-last bytes words xs s h all) (agree-last bytes' words' xs' s' h' all')
