-- Each way through a call's code, as the call's definition has it.
use Rattle.std.specs.Prelude.{Ok, Err}
use mathlib.Core.Path.{◌≡◌}
use Prim.Native.Nat.{ℕ, suc, ◌+◌, ◌-◌, ◌*◌, ◌^◌, ◌≤◌, ◌<◌}
use mathlib.Core.List.{List, [], ◌∷◌}
use mathlib.Core.Bool.{Bool, true, false, not, ◌&&◌, and_assoc, and-true, false≢true}
use native.Mathlib.Nat.{sub-zero, add-zero}
use native.Mathlib.Numerals.{add-one}
use native.Mathlib.Omega.{arith}
use borrow.Author.Tests.{eq-eqb, ne_eqb, le-leb, lt-leb, lt-ltb, le-ltb, leb-true, not-false}
use lib.ListN.{length, set, replicate, length-replicate}
use lib.Seq.{set-get_or}
use lib.Dec.{leb, ltb}
use Rattle.lists.specs.Lists.{over, holds}
use Rattle.lists.proofs.Holds.{holds_at}
use Rattle.lists.proofs.Same.{and_left, and_right}
use Rattle.lists.proofs.Runs.{over_none}
use Rattle.lists.proofs.Whole.{over-whole}
use Rattle.answer.specs.Number.{no_tally, beside}
use Rattle.answer.specs.Tally.{opened, grown, released}
use Rattle.answer.specs.declared.tally.Tally.{Tally}
use Rattle.answer.specs.declared.Refusal.{Refusal}
use Rattle.answer.specs.declared.Refusal.TheVariants as Refusal
use Rattle.model_orders.specs.Object.{Link, slot_ok}
use Rattle.model.specs.Told.{done, refused_told}
use Rattle.model.specs.Judge.{most_objects, most_links, most_bytes, most_open, Verdict, accepted, refused, Test, verdict, unsound, nothing_open, in_range}
use Rattle.model.proofs.Refusals.{Comes, none, this, next, verdict-is}
use Rattle.layout.specs.declared.state.State.{State}
use Rattle.layout.specs.Words.{open_depth_at, closed_count, open_depth, ends_at, link_ends_at, links_base, links_at, link_words, need, store_length, link_limit, top, link_top, words_of}
use Rattle.layout.specs.Sound.{sound}
use Rattle.layout.specs.Known.{WordsRead, Innermost}
use Rattle.layout.specs.declared.span.Span.{Span}
use Rattle.layout.proofs.Facts.{sound-facts, sound-known}
use Rattle.steps.specs.Steps.{Out, outcome, tally_in, settle_step, limits_of, start_words, start_step, open_step, put_step, made_link, link_words_of, link_step, close_step, dropped_bytes, dropped_words, drop_step, tally_step}
use Rattle.steps.specs.Runs.{StoreCall, start, open', put, link, close, drop, tally, stores, left, step_on}
use Rattle.steps.proofs.Held.{Held}

-- ---- by a verdict

settle-accepted : {ts : List Test} {out : Out} (b w : List ℕ) → Comes ts accepted → out ≡ settle_step (verdict ts) b w out
settle-accepted b w c = rw (verdict-is c)

settle-refused : {ts : List Test} {why : Refusal} {b w : List ℕ} {t : Tally} (out : Out) → Comes ts (refused why) → t ≡ beside why (tally_in b w)
    → outcome (Err (record { why = why; tally = t })) b w ≡ settle_step (verdict ts) b w out
settle-refused out c e = rw (verdict-is c, e)

-- ---- stores that are not sound

-- only a start asks nothing of what the stores hold
abbrev pub asks : StoreCall → Bool
asks (start objects links) = false
asks open' = true
asks (put vs) = true
asks (link width id inner) = true
asks close = true
asks drop = true
asks tally = true

pub unsound-told : {b w : List ℕ} {t : Tally} (c : StoreCall) → asks c ≡ true → t ≡ no_tally → sound b w ≡ false → left (refused_told Refusal.Unsound t) b w ≡ step_on c (stores b w)
unfolding step_on open_step put_step link_step close_step drop_step tally_step verdict
unsound-told (start objects links) k e h = absurd (false≢true k)
unsound-told open' k e h = rw (h, e)
unsound-told (put vs) k e h = rw (h, e)
unsound-told (link width id inner) k e h = rw (h, e)
unsound-told close k e h = rw (h, e)
unsound-told drop k e h = rw (h, e)
unsound-told tally k e h = rw (h, e)

-- ---- start

-- the tests as the code joins them
abbrev startable : ℕ → ℕ → ℕ → ℕ → Bool
startable objects links bytes records =
    leb 1 objects && leb objects most_objects && leb links most_links && leb 1 bytes && leb bytes most_bytes && leb (need objects links) records

module _ (objects links bytes records : ℕ) where
  abbrev ranged : Bool
  ranged = holds (in_range (record { objects = objects; links = links; bytes = bytes }))

  startable-is : startable objects links bytes records ≡ (ranged && leb (need objects links) records)
  unfolding holds
  startable-is = simp (and_assoc, and-true)

  pub start_fits : not (startable objects links bytes records) ≡ false → (bytes < 2 ^ 32) × (need objects links ≤ records)
  start_fits k =
      let h = rw startable-is at (not-false (startable objects links bytes records) k) in
      let at = holds_at _ (and_left ranged (leb (need objects links) records) h) in
      (omega (arith, leb-true bytes most_bytes (at 4)), leb-true _ _ (and_right ranged (leb (need objects links) records) h))

module _ (objects links : ℕ) (b w : List ℕ) {t : Tally} (e : t ≡ no_tally) where
  pub start-refused : not (startable objects links (length b) (length w)) ≡ true → outcome (Err (record { why = Refusal.OutOfRange; tally = t })) b w ≡ start_step objects links b w
  unfolding start_step
  start-refused k = settle-refused _ (this (rw startable-is at k)) e

  pub start-done : not (startable objects links (length b) (length w)) ≡ false
      → outcome (Ok t) (over 0 (replicate (length b - 0) 0) b) (start_words (limits_of objects links b) w) ≡ start_step objects links b w
  unfolding start_step
  start-done k =
      rw (e, sub-zero (length b), over-whole (replicate (length b) 0) b (length-replicate (length b) 0)) (settle-accepted b w (next (rw startable-is at k) none))

-- ---- tally

pub tally-done : {b w : List ℕ} {t : Tally} → sound b w ≡ true → t ≡ tally_in b w → outcome (Ok t) b w ≡ tally_step b w
unfolding tally_step
tally-done {b} {w} h e = rw e (settle-accepted b w (next (rw h) none))

module _ {b w : List ℕ} {s : State} {t : Tally} (h : Held b w s t) where
  -- ---- tests that several calls share

  is_sound : not (sound b w) ≡ false
  is_sound = rw h.counts.is_sound

  idle : {ts : List Test} → s.depth ≡ 0 → Comes (unsound (sound b w) ∷ nothing_open (tally_in b w) ∷ ts) (refused Refusal.NothingOpen)
  idle k = next is_sound (this (eq-eqb (open_depth w) 0 (omega arith)))

  ready : {ts : List Test} {v : Verdict} → (s.depth ≡ 0 → ⊥) → Comes ts v → Comes (unsound (sound b w) ∷ nothing_open (tally_in b w) ∷ ts) v
  ready k c = next is_sound (next (ne_eqb (open_depth w) 0 (λ e. omega arith)) c)

  size_is : store_length w ≡ length b
  size_is = (sound-known h.counts).head.size

  module _ (n : ℕ) where
    full : length b - t.bytes < n → ltb (store_length w) ((tally_in b w).bytes + n) ≡ true
    full k = lt-ltb (store_length w) ((tally_in b w).bytes + n) (omega (arith, size_is))

    roomy : n ≤ length b - t.bytes → ltb (store_length w) ((tally_in b w).bytes + n) ≡ false
    roomy k = le-ltb (store_length w) ((tally_in b w).bytes + n) (omega (arith, size_is))

  -- ---- open

  pub open_full : most_open ≤ s.depth → outcome (Err (record { why = Refusal.DepthFull; tally = t })) b w ≡ open_step b w
  unfolding open_step
  open_full k = settle-refused _ (next is_sound (this (le-leb most_open (open_depth w) (omega arith)))) h.tally_is

  pub open_done : s.depth < most_open
      → outcome (Ok (opened t)) b (set (set (set w (ends_at + s.depth + 1) s.top) (link_ends_at + s.depth + 1) s.link_top) open_depth_at (s.depth + 1)) ≡ open_step b w
  unfolding open_step
  open_done k =
      let r = h.counts in
      rw (h.tally_is, r.depth_is, r.top_is, r.link_top_is) (settle-accepted b w (next is_sound (next (lt-leb most_open (open_depth w) (omega arith)) none)))

  -- ---- put

  module _ (vs : List ℕ) where
    pub put-none : s.depth ≡ 0 → outcome (Err (record { why = Refusal.NothingOpen; tally = t })) b w ≡ put_step vs b w
    unfolding put_step
    put-none k = settle-refused _ (idle k) h.tally_is

    pub put_full : (s.depth ≡ 0 → ⊥) → length b - t.bytes < length vs → outcome (Err (record { why = Refusal.StoreFull; tally = t })) b w ≡ put_step vs b w
    unfolding put_step
    put_full some k = settle-refused _ (ready some (this (full (length vs) k))) h.tally_is

    pub put-done : (s.depth ≡ 0 → ⊥) → length vs ≤ length b - t.bytes
        → outcome (Ok (grown (length vs) 0 t)) (over s.top vs b) (set w (ends_at + s.depth) (s.top + length vs)) ≡ put_step vs b w
    unfolding put_step
    put-done some k =
        let r = h.counts in
        rw (h.tally_is, r.depth_is, r.top_is) (settle-accepted b w (ready some (next (roomy (length vs) k) none)))

  -- ---- drop

  pub drop-none : s.depth ≡ 0 → outcome (Err (record { why = Refusal.NothingOpen; tally = t })) b w ≡ drop_step b w
  unfolding drop_step
  drop-none k = settle-refused _ (idle k) h.tally_is

  pub drop-done : {own : Span} → Innermost w s own → outcome (Ok (released (own.to - own.from) (own.last - own.first) t)) (dropped_bytes b w) (dropped_words w) ≡ drop_step b w
  unfolding drop_step
  drop-done k = rw (k.is, h.tally_is) (settle-accepted b w (ready (λ e. omega (arith, k.some)) none))

  -- ---- link

  module _ (width id inner : ℕ) where
    abbrev made : Link
    made = made_link width id inner w

    pub link-none : s.depth ≡ 0 → outcome (Err (record { why = Refusal.NothingOpen; tally = t })) b w ≡ link_step width id inner b w
    unfolding link_step
    link-none k = settle-refused _ (idle k) h.tally_is

    module _ (some : s.depth ≡ 0 → ⊥) where
      pub link-field : not (slot_ok made.slot) ≡ true → outcome (Err (record { why = Refusal.BadField; tally = t })) b w ≡ link_step width id inner b w
      unfolding link_step
      link-field k = settle-refused _ (ready some (this k)) h.tally_is

      module _ (right : not (slot_ok made.slot) ≡ false) where
        pub link-child : t.objects ≤ id → outcome (Err (record { why = Refusal.NotClosed; tally = t })) b w ≡ link_step width id inner b w
        unfolding link_step
        link-child k = settle-refused _ (ready some (next right (this (le-leb (closed_count w) id (omega arith))))) h.tally_is

        module _ (closed : id < t.objects) where
          known : leb (closed_count w) id ≡ false
          known = lt-leb (closed_count w) id (omega arith)

          pub link-full : s.links ≤ t.links → outcome (Err (record { why = Refusal.LinksFull; tally = t })) b w ≡ link_step width id inner b w
          unfolding link_step
          link-full k = settle-refused _ (ready some (next right (next known (this (le-leb (link_limit w) (tally_in b w).links (omega arith)))))) h.tally_is

          module _ (left : t.links < s.links) where
            free : leb (link_limit w) (tally_in b w).links ≡ false
            free = lt-leb (link_limit w) (tally_in b w).links (omega arith)

            pub link-room : length b - t.bytes < width → outcome (Err (record { why = Refusal.StoreFull; tally = t })) b w ≡ link_step width id inner b w
            unfolding link_step
            link-room k = settle-refused _ (ready some (next right (next known (next free (this (full width k)))))) h.tally_is

            pub link-done : width ≤ length b - t.bytes → outcome (Ok (grown width 1 t)) b (link_words_of made w) ≡ link_step width id inner b w
            unfolding link_step
            link-done k = rw h.tally_is (settle-accepted b w (ready some (next right (next known (next free (next (roomy width k) none))))))

-- behind the link's record, two ends
pub append-done : {w : List ℕ} {s : State} (l : Link) → WordsRead w s
    → set (set (over (links_base + s.objects * 2 + s.link_top * link_words) (words_of l) w) (ends_at + s.depth) (s.top + l.slot.width)) (link_ends_at + s.depth) (s.link_top + 1)
    ≡ link_words_of l w
append-done l k = rw k.is

-- a put of no bytes with an object open is accepted and changes nothing
pub put-nothing : (b w : List ℕ) → sound b w ≡ true → 0 < open_depth w → step_on (put []) (stores b w) ≡ left (done (tally_in b w)) b w
unfolding step_on put_step verdict
put-nothing b w h k =
    let s = sound-facts b w h in
    rw (h, ne_eqb (open_depth w) 0 (λ e. omega arith), le-ltb (store_length w) ((tally_in b w).bytes + 0) (omega arith))
    (simp (add-zero, over_none, set-get_or w (ends_at + open_depth w) 0))
