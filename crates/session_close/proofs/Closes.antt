-- Each way through close's code, as its definition has it.
use Rattle.std.specs.Prelude.{Ok, Err}
use mathlib.Core.Path.{◌≡◌, sym, ap}
use Prim.Native.Nat.{ℕ, ◌-◌, ◌≤◌, ◌<◌}
use mathlib.Core.List.{List}
use mathlib.Core.Bool.{true, false}
use native.Mathlib.Omega.{arith}
use borrow.Author.Tests.{eq-eqb, ne_eqb, le-leb, lt-leb, lt-ltb, le-ltb}
use lib.Dec.{eqb}
use Rattle.answer.specs.Tally.{added, released}
use Rattle.answer.specs.declared.tally.Tally.{Tally}
use Rattle.answer.specs.declared.Refusal.TheVariants as Refusal
use Rattle.model_orders.specs.Object.{Object, any_hopeless, slots_of, hopeless_object}
use Rattle.model.specs.Judge.{verdict}
use Rattle.layout.specs.Words.{object_limit, closed_count, open_depth, top}
use Rattle.layout.specs.Fields.{slots_ok}
use Rattle.layout.specs.Decode.{links_from}
use Rattle.layout.specs.Known.{Innermost}
use Rattle.layout.specs.declared.state.State.{State}
use Rattle.layout.specs.declared.span.Span.{Span}
use Rattle.layout.proofs.Facts.{sound-known}
use Rattle.layout.proofs.FieldTests.{fields-slots}
use Rattle.steps.specs.Steps.{under, innermost_in, dropped_bytes, dropped_words, closing, twin_in, sealed_bytes, sealed_words, close_step}
use Rattle.steps.proofs.Innermost.{twin-most, inner-is, inner-size, inner-right}
use Rattle.steps.proofs.Held.{Held}

module _ {b w : List ℕ} {s : State} {t : Tally} (h : Held b w s t) where
  pub close-none : s.depth ≡ 0 → closing (Err (record { why = Refusal.NothingOpen; tally = t })) b w ≡ close_step b w
  unfolding close_step verdict
  close-none k = rw (h.counts.is_sound, eq-eqb (open_depth w) 0 (omega arith), h.tally_is)

  is_open : 0 < s.depth → eqb (open_depth w) 0 ≡ false
  is_open some = ne_eqb (open_depth w) 0 (λ e. omega arith)

  pub close-empty : {own : Span} → Innermost w s own → own.to ≡ own.from → closing (Err (record { why = Refusal.EmptyObject; tally = t })) b w ≡ close_step b w
  unfolding close_step verdict
  close-empty k e =
      let none : top w ≡ under w = rw k.is at e in
      rw (h.counts.is_sound, is_open k.some, eq-eqb (top w - under w) 0 (omega arith), h.tally_is)

-- what close has in hand of an innermost open object that has bytes
pub record Filled (b w : List ℕ) (s : State) (t : Tally) (own : Span) : Type 0 where
  pub held : Held b w s t
  pub lies : Innermost w s own
  pub filled : own.to ≡ own.from → ⊥

module _ {b w : List ℕ} {s : State} {t : Tally} {own : Span} (k : Filled b w s t own) where
  opens : 0 < open_depth w
  opens = let h = k.held in omega (arith, k.lies.some)

  not_empty : eqb (top w - under w) 0 ≡ false
  not_empty =
      let order : under w ≤ top w = rw k.lies.is at k.lies.within.order in
      ne_eqb (top w - under w) 0 (λ z. k.filled (rw k.lies.is (omega arith)))

  -- its links, where it lies
  own-links : links_from w own.first own.last ≡ (innermost_in b w).links
  own-links = rw k.lies.is (ap (λ (o : Object). o.links) (sym (inner-is b w opens)))

  pub own-slots : slots_ok (slots_of (links_from w own.first own.last)) ≡ true
  own-slots = rw own-links (fields-slots _ _ _ _ (inner-right b w opens (sound-known k.held.counts)))

  pub own-hopeless : any_hopeless (own.to - own.from) (slots_of (links_from w own.first own.last)) ≡ hopeless_object (innermost_in b w)
  own-hopeless = rw own-links (rw k.lies.is (ap (λ (n : ℕ). any_hopeless n (slots_of (innermost_in b w).links)) (inner-size b w opens (sound-known k.held.counts))))

  pub close-hopeless : hopeless_object (innermost_in b w) ≡ true → closing (Err (record { why = Refusal.Hopeless; tally = t })) b w ≡ close_step b w
  unfolding close_step verdict
  close-hopeless e = let h = k.held in rw (h.counts.is_sound, is_open h k.lies.some, not_empty, e, h.tally_is)

-- and that an order can fill
pub record Ready (b w : List ℕ) (s : State) (t : Tally) (own : Span) : Type 0 where
  pub inner : Filled b w s t own
  pub hopes : hopeless_object (innermost_in b w) ≡ false

module _ {b w : List ℕ} {s : State} {t : Tally} {own : Span} (r : Ready b w s t own) {i : ℕ} (twin : i ≡ twin_in b w) where
  abbrev k : Filled b w s t own
  k = r.inner

  pub close-twin : i < s.closed
      → closing (Ok (record { id = record { 0 = i }; tally = released (own.to - own.from) (own.last - own.first) t })) (dropped_bytes b w) (dropped_words w) ≡ close_step b w
  unfolding close_step verdict
  close-twin m =
      let h = k.held in
      let e = h.counts in
      rw (e.is_sound, is_open h k.lies.some, not_empty k, r.hopes, lt-leb (closed_count w) (twin_in b w) (omega arith), lt-ltb (twin_in b w) (closed_count w) (omega arith))
      (rw (twin, k.lies.is, h.tally_is))

  module _ (new : s.closed ≤ i) where
    pub close-full : s.objects ≤ s.closed → closing (Err (record { why = Refusal.ObjectsFull; tally = t })) b w ≡ close_step b w
    unfolding close_step verdict
    close-full m =
        let h = k.held in
        rw (h.counts.is_sound, is_open h k.lies.some, not_empty k, r.hopes, le-leb (closed_count w) (twin_in b w) (omega arith), le-leb (object_limit w) (closed_count w) (omega arith))
        (rw h.tally_is)

    pub close-new : s.closed < s.objects → closing (Ok (record { id = record { 0 = i }; tally = added t })) (sealed_bytes b w) (sealed_words w) ≡ close_step b w
    unfolding close_step verdict
    close-new m =
        let h = k.held in
        let e = h.counts in
        let next : i ≡ closed_count w = omega (arith, twin-most b w) in
        rw (e.is_sound, is_open h k.lies.some, not_empty k, r.hopes, le-leb (closed_count w) (twin_in b w) (omega arith), lt-leb (object_limit w) (closed_count w) (omega arith), le-ltb (twin_in b w) (closed_count w) (omega arith))
        (rw (next, h.tally_is))
