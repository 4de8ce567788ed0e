-- The two sides of the stores, open objects from the front and closed ones from the back: what they make of a session, and how a step changes each.
use mathlib.Core.Path.{◌≡◌, refl, sym, ap, ap₂, ◌∙◌}
use Prim.Native.Nat.{ℕ, suc, ◌+◌, ◌-◌, ◌≤◌, ◌<◌}
use native.Mathlib.Nat.{le_refl, add-zero}
use mathlib.Core.List.{List, [], ◌∷◌, ◌++◌}
use mathlib.Core.Bool.{true}
use native.Mathlib.Omega.{arith}
use lib.ListN.{length, get_or}
use Rattle.lists.specs.Lists.{part}
use Rattle.lists.proofs.Frames.{zeros_of}
use Rattle.answer.specs.declared.tally.Tally.{Tally}
use Rattle.model_orders.specs.Object.{Object}
use Rattle.model.specs.Judge.{most_open, Limits}
use Rattle.model.specs.Session.{Session, tally_of}
use Rattle.layout.specs.Words.{object_limit, closed_count, open_depth, ends_at, link_ends_at, begins_at, link_begins_at, store_length, link_limit, limits_in, top, link_top, low, link_low}
use Rattle.layout.specs.Fields.{object_ok, closed_ok}
use Rattle.layout.specs.Decode.{links_from, open_at, closed_at, opens_to, closed_to, decode}
use Rattle.layout.specs.Known.{Head, Sound}
use Rattle.layout.proofs.Entries.{falling-table}
use Rattle.layout.proofs.Facts.{sound-of, sound-tables}
use Rattle.steps.specs.Steps.{tally_in}
use Rattle.steps.specs.Runs.{Drawn}
use Rattle.steps.proofs.Tables.{below_more, for_all-at, for_all-of, rising-of, falling-of}
use Rattle.steps.proofs.Fields.{ok-more}
use Rattle.steps.proofs.Tallies.{tally-decode}
use Rattle.steps.proofs.Frames.{Same, same_next, ObjectsKept, head-kept, limits-kept, object-same, open_kept, closed-kept, opens_to-kept, closed_to-kept}

-- ---- tables

-- n + 1 entries from index `base` on, none below the one before it, t the last
pub record Ends (base n t : ℕ) (w : List ℕ) : Type 0 where
  pub last : get_or w (base + n) 0 ≡ t
  pub rise : (i : ℕ) → i < n → get_or w (base + i) 0 ≤ get_or w (base + i + 1) 0

-- each at least `by` below the one before it
pub record Begins (by base n t : ℕ) (w : List ℕ) : Type 0 where
  pub last : get_or w (base + n) 0 ≡ t
  pub fall : (i : ℕ) → i < n → get_or w (base + i + 1) 0 + by ≤ get_or w (base + i) 0

module _ {base n : ℕ} {w w' : List ℕ} (same : Same base n w w') where
  kept-ends : ((i : ℕ) → i < n → get_or w (base + i) 0 ≤ get_or w (base + i + 1) 0) → Ends base n (get_or w (base + n) 0) w'
  kept-ends rise = record { last = same.at n (le_refl n); rise = λ i h. omega (arith, same.at i (omega arith), same_next same i h, rise i h) }

  kept-begins : (by : ℕ) → ((i : ℕ) → i < n → get_or w (base + i + 1) 0 + by ≤ get_or w (base + i) 0) → Begins by base n (get_or w (base + n) 0) w'
  kept-begins by fall = record { last = same.at n (le_refl n); fall = λ i h. omega (arith, same.at i (omega arith), same_next same i h, fall i h) }

behind : (base n t : ℕ) (w : List ℕ) → get_or w (base + n + 1) 0 ≡ t → get_or w (base + suc n) 0 ≡ t
behind base n t w h = let e : base + suc n ≡ base + n + 1 = omega arith in rw e h

more-ends : {base n t t' : ℕ} {w : List ℕ} → Ends base n t w → get_or w (base + n + 1) 0 ≡ t' → t ≤ t' → Ends base (suc n) t' w
more-ends {base} {n} {t} {t'} {w} x e h = record {
  last = behind base n t' w e;
  rise = below_more (λ i. get_or w (base + i) 0 ≤ get_or w (base + i + 1) 0) n x.rise (omega (arith, x.last));
}

more-begins : {by base n t t' : ℕ} {w : List ℕ} → Begins by base n t w → get_or w (base + n + 1) 0 ≡ t' → t' + by ≤ t → Begins by base (suc n) t' w
more-begins {by} {base} {n} {t} {t'} {w} x e h = record {
  last = behind base n t' w e;
  fall = below_more (λ i. get_or w (base + i + 1) 0 + by ≤ get_or w (base + i) 0) n x.fall (omega (arith, x.last));
}

-- ---- objects

-- the first n open objects, which end at byte t, their links at number l
pub record Opens (n t l : ℕ) (os : List Object) (b w : List ℕ) : Type 0 where
  pub ends : Ends ends_at n t w
  pub link_ends : Ends link_ends_at n l w
  pub right : (i : ℕ) → i < n → object_ok (closed_count w) (open_at b w i) ≡ true
  pub are : opens_to b w n ≡ os

-- the first n closed objects, which begin at byte t, their links at number l
pub record Closed (n t l : ℕ) (os : List Object) (b w : List ℕ) : Type 0 where
  pub begins : Begins 1 begins_at n t w
  pub link_begins : Begins 0 (link_begins_at w) n l w
  pub right : (i : ℕ) → i < n → closed_ok i (closed_at b w i) ≡ true
  pub are : closed_to b w n ≡ os

module _ (b w : List ℕ) where
  pub no-opens : get_or w ends_at 0 ≡ 0 → get_or w link_ends_at 0 ≡ 0 → Opens 0 0 0 [] b w
  unfolding opens_to
  no-opens e f = record {
    ends = record { last = e; rise = λ i h. absurd (omega arith) };
    link_ends = record { last = f; rise = λ i h. absurd (omega arith) };
    right = λ i h. absurd (omega arith);
    are = refl;
  }

  pub no-closed : Closed 0 (store_length w) (link_limit w) [] b w
  unfolding closed_to
  no-closed = record {
    begins = record { last = refl; fall = λ i h. absurd (omega arith) };
    link_begins = record { last = rw (add-zero (link_begins_at w)); fall = λ i h. absurd (omega arith) };
    right = λ i h. absurd (omega arith);
    are = refl;
  }

module _ {n t l t' l' : ℕ} {os : List Object} {b w : List ℕ} (o : Object) where
  -- one more open object, behind the others
  pub more-opens : Opens n t l os b w → get_or w (ends_at + n + 1) 0 ≡ t' → get_or w (link_ends_at + n + 1) 0 ≡ l' → t ≤ t' → l ≤ l'
      → part t t' b ≡ o.bytes → links_from w l l' ≡ o.links → object_ok (closed_count w) o ≡ true → Opens (suc n) t' l' (o ∷ os) b w
  unfolding opens_to
  more-opens x end link_end h k bytes links right =
      let made : open_at b w n ≡ o =
      object-same
      (ap₂ (λ (a e : ℕ). part a e b) x.ends.last end ∙ bytes)
      (ap₂ (λ (a e : ℕ). links_from w a e) x.link_ends.last link_end ∙ links) in
      record {
        ends = more-ends x.ends end h;
        link_ends = more-ends x.link_ends link_end k;
        right = below_more (λ i. object_ok (closed_count w) (open_at b w i) ≡ true) n x.right (ap (object_ok (closed_count w)) made ∙ right);
        are = ap₂ (λ (p : Object) (ps : List Object). p ∷ ps) made x.are;
      }

  -- one more closed object, in front of the others
  pub more-closed : Closed n t l os b w → get_or w (begins_at + n + 1) 0 ≡ t' → get_or w (link_begins_at w + n + 1) 0 ≡ l' → t' < t → l' ≤ l
      → part t' t b ≡ o.bytes → links_from w l' l ≡ o.links → closed_ok n o ≡ true → Closed (suc n) t' l' (os ++ (o ∷ [])) b w
  unfolding closed_to
  more-closed x begin link_begin h k bytes links right =
      let made : closed_at b w n ≡ o =
      object-same
      (ap₂ (λ (a e : ℕ). part a e b) begin x.begins.last ∙ bytes)
      (ap₂ (λ (a e : ℕ). links_from w a e) link_begin x.link_begins.last ∙ links) in
      record {
        begins = more-begins x.begins begin (omega arith);
        link_begins = more-begins x.link_begins link_begin (omega arith);
        right = below_more (λ i. closed_ok i (closed_at b w i) ≡ true) n x.right (ap (closed_ok n) made ∙ right);
        are = ap₂ (λ (ps : List Object) (p : Object). ps ++ (p ∷ [])) x.are made;
      }

-- those that a step keeps
module _ {d : ℕ} {b w b' w' : List ℕ} (s : Sound b w) (k : ObjectsKept d b w b' w') where
  pub kept-opens : closed_count w ≤ closed_count w' → Opens d (get_or w (ends_at + d) 0) (get_or w (link_ends_at + d) 0) (opens_to b w d) b' w'
  kept-opens m =
      let t = sound-tables s in
      let known = k.known in
      record {
        ends = kept-ends k.ends (λ i h. t.ends.next i (omega arith));
        link_ends = kept-ends k.link_ends (λ i h. t.link_ends.next i (omega arith));
        right =
            λ i h. ap (object_ok (closed_count w')) (open_kept s k i h)
            ∙ ok-more (closed_count w) (open_at b w i) (for_all-at (λ j. object_ok (closed_count w) (open_at b w j)) (open_depth w) s.opens i (omega arith)) (closed_count w') m;
        are = opens_to-kept s k;
      }

  pub kept-closed : Closed (closed_count w) (low w) (link_low w) (closed_to b w (closed_count w)) b' w'
  kept-closed =
      let t = sound-tables s in
      record {
        begins = kept-begins k.begins 1 t.begins.next;
        link_begins = rw k.objects (kept-begins k.link_begins 0 t.link_begins.next);
        right = λ i h. ap (closed_ok i) (closed-kept s k i h) ∙ for_all-at (λ j. closed_ok j (closed_at b w j)) (closed_count w) s.closed i h;
        are = closed_to-kept s k;
      }

-- ---- both sides make a session

session-same : {a c : Session} → a.limits ≡ c.limits → a.opens ≡ c.opens → a.closed ≡ c.closed → a ≡ c
session-same p q r = λ i. record { limits = p i; opens = q i; closed = r i }

module _ {n t l m u v : ℕ} {os cs : List Object} {b w : List ℕ} (o : Opens n t l os b w) (c : Closed m u v cs b w) (d : open_depth w ≡ n) (e : closed_count w ≡ m) where
  top-is : top w ≡ t
  top-is = rw d o.ends.last

  link_top-is : link_top w ≡ l
  link_top-is = rw d o.link_ends.last

  low-is : low w ≡ u
  low-is = rw e c.begins.last

  link_low-is : link_low w ≡ v
  link_low-is = rw e c.link_begins.last

  sides-tally : tally_in b w ≡ record { bytes = t + (length b - u); links = l + (link_limit w - v); objects = m; depth = n }
  sides-tally = rw (top-is, link_top-is, low-is, link_low-is, d, e)

  module _ (h : Head (length b) w) (apart : t ≤ u) (link_apart : l ≤ v) (gap : (i : ℕ) → t ≤ i → i < u → get_or b i 0 ≡ 0) where
    sides-sound : Sound b w
    sides-sound =
        let fall = falling-of begins_at m w (omega arith) 1 c.begins.fall in
        let link_fall = falling-of (link_begins_at w) m w (omega arith) 0 c.link_begins.fall in
        let x = (falling-table begins_at m w 1 (omega arith) fall).under m (le_refl m) in
        let y = (falling-table (link_begins_at w) m w 0 (omega arith) link_fall).under m (le_refl m) in
        let z = c.begins.last in
        record {
          head = h;
          rise = rw d (rising-of ends_at n w (omega arith) o.ends.rise);
          link_rise = rw d (rising-of link_ends_at n w (omega arith) o.link_ends.rise);
          fall = rw e fall;
          link_fall = rw e link_fall;
          apart = rw (top-is, low-is) apart;
          inside = rw e (omega arith);
          link_apart = rw (link_top-is, link_low-is) link_apart;
          link_inside = rw e y;
          gap = rw (top-is, low-is) (zeros_of t u b (omega arith) gap);
          opens = rw d (for_all-of (λ i. object_ok (closed_count w) (open_at b w i)) n o.right);
          closed = rw e (for_all-of (λ i. closed_ok i (closed_at b w i)) m c.right);
        }

    pub sides-drawn : Drawn (record { bytes = b; words = w }) (record { limits = limits_in w; opens = os; closed = cs })
    unfolding decode
    sides-drawn = record {
      is_sound = sound-of sides-sound;
      holds = session-same refl (rw d o.are) (rw e c.are);
    }

-- ---- what an accepted step on b w leaves: stores that hold a session, and the session's tally

pub record Leaves (b w b' w' : List ℕ) (t : Tally) (a : Session) : Type 0 where
  pub drawn : Drawn (record { bytes = b'; words = w' }) a
  pub counted : t ≡ tally_of a
  pub same_bytes : length b' ≡ length b
  pub same_words : length w' ≡ length w

module _ {d n t l m u v : ℕ} {os cs : List Object} {b w b' w' : List ℕ} (s : Sound b w) (k : ObjectsKept d b w b' w') (o : Opens n t l os b' w') (c : Closed m u v cs b' w') where
  pub sides-leave : open_depth w' ≡ n → closed_count w' ≡ m → n ≤ most_open → m ≤ object_limit w → t ≤ u → l ≤ v → ((i : ℕ) → t ≤ i → i < u → get_or b' i 0 ≡ 0)
      → (y : Tally) → y ≡ record { bytes = t + (length b - u); links = l + (link_limit w - v); objects = m; depth = n }
      → Leaves b w b' w' y (record { limits = limits_in w; opens = os; closed = cs })
  sides-leave e f g h apart link_apart gap y z =
      let x = sides-drawn o c e f (head-kept s k (omega arith) (omega arith)) apart link_apart gap in
      let limits = limits-kept s k in
      let holds = x.holds ∙ session-same limits refl refl in
      record {
        drawn = record { is_sound = x.is_sound; holds = holds };
        counted = z ∙ rw (← k.bytes, ← ap (λ (r : Limits). r.links) limits) (sym (sides-tally o c e f)) ∙ tally-decode b' w' x.is_sound ∙ ap tally_of holds;
        same_bytes = k.bytes;
        same_words = k.words;
      }
