-- What sound stores hold, counted by their tables, is what the session has that they decode to.
use mathlib.Core.Path.{◌≡◌, refl, sym, ap}
use Prim.Native.Nat.{ℕ, zero, suc, ◌+◌, ◌-◌, ◌*◌, ◌≤◌, ◌<◌}
use native.Mathlib.Nat.{add-zero}
use mathlib.Core.List.{List, [], ◌∷◌}
use mathlib.Core.Bool.{true}
use native.Mathlib.Omega.{arith}
use lib.ListN.{length, get_or, length-append}
use Rattle.lists.specs.Lists.{part, total}
use Rattle.lists.proofs.Runs.{length_part}
use Rattle.lists.proofs.Elements.{total-append, at_snoc}
use Rattle.answer.specs.declared.tally.Tally.{Tally}
use Rattle.model_orders.specs.Object.{Object, no_object, object_at, size_of, link_count}
use Rattle.model.specs.Session.{tally_of}
use Rattle.layout.specs.Words.{closed_count, open_depth, ends_at, link_ends_at, begins_at, link_begins_at, links_at, link_words, link_limit, limits_in, link_area}
use Rattle.layout.specs.Decode.{links_from, open_at, closed_at, opens_to, closed_to, decode}
use Rattle.layout.specs.Sound.{sound}
use Rattle.layout.specs.Known.{Sound}
use Rattle.layout.proofs.Links.{links_of-length}
use Rattle.layout.proofs.Facts.{sound-facts, sound-tables}
use Rattle.steps.specs.Steps.{tally_in}

-- ---- lists of objects

module _ (b w : List ℕ) where
  length-opens : (n : ℕ) → length (opens_to b w n) ≡ n
  unfolding opens_to
  length-opens zero = refl
  length-opens (suc n) = ap suc (length-opens n)

  pub length-closed : (n : ℕ) → length (closed_to b w n) ≡ n
  unfolding closed_to
  length-closed zero = refl
  length-closed (suc n) = omega (arith, length-append (closed_to b w n) (closed_at b w n ∷ []), length-closed n)

  -- the closed ones by id
  pub closed-at : (n i : ℕ) → i < n → object_at (closed_to b w n) i ≡ closed_at b w i
  unfolding closed_to
  closed-at zero i h = absurd (omega arith)
  closed-at (suc n) i h =
      at_snoc (λ k o. k < suc n → o ≡ closed_at b w k) (closed_to b w n) (closed_at b w n) no_object
      (λ k d m. closed-at n k (omega (arith, length-closed n))) (λ m. ap (closed_at b w) (sym (length-closed n))) i h

  -- f of an object is what lies between its two entries of the table at index `base`
  module _ (f : Object → ℕ) (base : ℕ) where
    -- the open ones add up to the last entry
    total-opens : get_or w base 0 ≡ 0 → (n : ℕ) → ((i : ℕ) → i < n → get_or w (base + i) 0 + f (open_at b w i) ≡ get_or w (base + i + 1) 0)
        → total f (opens_to b w n) ≡ get_or w (base + n) 0
    unfolding opens_to total
    total-opens z zero h = rw (add-zero base) (sym z)
    total-opens z (suc n) h =
        let e : base + suc n ≡ base + n + 1 = omega arith in
        rw e (omega (arith, h n (omega arith), total-opens z n (λ i k. h i (omega arith))))

    -- the closed ones to what lies between the last entry and the first
    total-closed : (n : ℕ) → ((i : ℕ) → i < n → get_or w (base + i + 1) 0 + f (closed_at b w i) ≡ get_or w (base + i) 0)
        → total f (closed_to b w n) + get_or w (base + n) 0 ≡ get_or w base 0
    unfolding closed_to total
    total-closed zero h = rw (add-zero base) (omega arith)
    total-closed (suc n) h =
        let e : base + suc n ≡ base + n + 1 = omega arith in
        rw e (omega (arith, h n (omega arith), total-closed n (λ i k. h i (omega arith)), total-append f (closed_to b w n) (closed_at b w n ∷ [])))

-- ---- sizes

size-part : (a e : ℕ) (b : List ℕ) → a ≤ e → e ≤ length b → a + length (part a e b) ≡ e
size-part a e b h k = omega (arith, length_part a e b k)

module _ {b w : List ℕ} (s : Sound b w) where
  size-links : (a e : ℕ) → a ≤ e → e ≤ link_limit w → a + length (links_from w a e) ≡ e
  size-links a e h k =
      let n = length_part (links_at w) (links_at w + link_limit w * link_words) w (omega arith) in
      let m = length_part (a * link_words) (e * link_words) (link_area w) (omega arith) in
      omega (arith, links_of-length (e - a) (part (a * link_words) (e * link_words) (link_area w)) (omega arith))

  pub open-size : (i : ℕ) → i < open_depth w → get_or w (ends_at + i) 0 + size_of (open_at b w i) ≡ get_or w (ends_at + i + 1) 0
  open-size i h =
      let t = (sound-tables s).ends in
      size-part _ _ b (t.next i h) (omega (arith, t.under i h))

  open-links : (i : ℕ) → i < open_depth w → get_or w (link_ends_at + i) 0 + link_count (open_at b w i) ≡ get_or w (link_ends_at + i + 1) 0
  open-links i h =
      let t = (sound-tables s).link_ends in
      size-links _ _ (t.next i h) (omega (arith, t.under i h))

  pub closed-size : (i : ℕ) → i < closed_count w → get_or w (begins_at + i + 1) 0 + size_of (closed_at b w i) ≡ get_or w (begins_at + i) 0
  closed-size i h =
      let t = (sound-tables s).begins in
      size-part _ _ b (omega (arith, t.next i h)) (omega (arith, t.under i (omega arith)))

  closed-links : (i : ℕ) → i < closed_count w → get_or w (link_begins_at w + i + 1) 0 + link_count (closed_at b w i) ≡ get_or w (link_begins_at w + i) 0
  closed-links i h =
      let t = (sound-tables s).link_begins in
      size-links _ _ (omega (arith, t.next i h)) (t.under i (omega arith))

-- ---- what the calls are judged by

pub tally-same : {a b c d e f g h : ℕ} → a ≡ e → b ≡ f → c ≡ g → d ≡ h
    → ◌≡◌ {A = Tally} (record { bytes = a; links = b; objects = c; depth = d }) (record { bytes = e; links = f; objects = g; depth = h })
tally-same p q r s = λ i. record { bytes = p i; links = q i; objects = r i; depth = s i }

pub tally-decode : (b w : List ℕ) → sound b w ≡ true → tally_in b w ≡ tally_of (decode b w)
unfolding decode
tally-decode b w h =
    let s = sound-facts b w h in
    let opens = total-opens b w size_of ends_at s.head.base (open_depth w) (open-size s) in
    let open_links = total-opens b w link_count link_ends_at s.head.link_base (open_depth w) (open-links s) in
    let closed = total-closed b w size_of begins_at (closed_count w) (closed-size s) in
    let closed_links = total-closed b w link_count (link_begins_at w) (closed_count w) (closed-links s) in
    tally-same (omega arith) (omega arith) (sym (length-closed b w (closed_count w))) (sym (length-opens b w (open_depth w)))

pub count-decode : (b w : List ℕ) → closed_count w ≡ length (decode b w).closed
unfolding decode
count-decode b w = sym (length-closed b w (closed_count w))

pub limits-decode : (b w : List ℕ) → limits_in w ≡ (decode b w).limits
unfolding decode
limits-decode b w = refl
