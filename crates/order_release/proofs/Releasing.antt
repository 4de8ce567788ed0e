-- One link taken off.
use mathlib.Core.Path.{◌≡◌, refl, ◌∙◌}
use Prim.Native.Nat.{ℕ, zero, suc, ◌+◌, ◌-◌, ◌≤◌, ◌<◌, max}
use mathlib.Core.List.{List, [], ◌∷◌, ◌++◌}
use mathlib.Core.Bool.{Bool, true, false}
use native.Mathlib.Nat.{add-zero}
use native.Mathlib.Omega.{arith}
use lib.ListN.{length, get_or, set, length-set, length-append}
use lib.Dec.{eqb}
use borrow.Author.Tests.{ne_eqb}
use mir.Val.{bool_byte}
use Rattle.lists.specs.Lists.{pick}
use Rattle.regions.specs.Region.{region, ceiling, Kept}
use Rattle.regions.proofs.Laws.{region-at, region-in, region-under, region-over, region-push}
use Rattle.regions.proofs.Bounds.{ceiling-append}
use Rattle.regions.proofs.Frame.{kept_then, kept_set}
use Rattle.work.specs.declared.Areas.{Areas}
use Rattle.work.specs.Views.{waiting_in}
use Rattle.order_release.specs.Release.{Arrivals, released, waiting, Arrives, Releasing}

-- ---- how many wait and how many are ready

fewer : (x : ℕ) → pick (eqb (x - 1) 0) 0 1 + pick (eqb x 1) 1 0 ≡ pick (eqb x 0) 0 1
fewer zero = refl
fewer (suc zero) = refl
fewer (suc (suc x)) =
    rw (
      ne_eqb (suc (suc x) - 1) 0 (λ h. omega arith),
      ne_eqb (suc (suc x)) 1 (λ h. omega arith),
      ne_eqb (suc (suc x)) 0 (λ h. omega arith),
    )

waiting-less : (l : List ℕ) (c : ℕ) → waiting (set l c (get_or l c 0 - 1)) + pick (eqb (get_or l c 0) 1) 1 0 ≡ waiting l
unfolding waiting
waiting-less [] c = refl
waiting-less (x ∷ l) zero = omega (arith, fewer x)
waiting-less (x ∷ l) (suc c) = omega (arith, waiting-less l c)

waiting-some : (l : List ℕ) (c : ℕ) → (get_or l c 0 ≡ 0 → ⊥) → 0 < waiting l
unfolding waiting
waiting-some [] c h = absurd (h refl)
waiting-some (x ∷ l) zero h = rw (ne_eqb x 0 h) (omega arith)
waiting-some (x ∷ l) (suc c) h = omega (arith, waiting-some l c h)

module _ (c : ℕ) (s : Arrivals) where
  -- one that no longer waits is ready
  pub released-same : waiting (released c s).counts + length (released c s).arrived ≡ waiting s.counts + length s.arrived
  released-same = go (eqb (get_or s.counts c 0) 1) (waiting-less s.counts c)
    where
      go : (b : Bool) → waiting (released c s).counts + pick b 1 0 ≡ waiting s.counts
          → waiting (released c s).counts + length (pick b (s.arrived ++ (c ∷ [])) s.arrived) ≡ waiting s.counts + length s.arrived
      go true e = omega (arith, length-append s.arrived (c ∷ []))
      go false e = omega arith

  pub released-ceiling : ceiling (released c s).arrived ≤ max (ceiling s.arrived) (c + 1)
  unfolding ceiling
  released-ceiling = go (eqb (get_or s.counts c 0) 1)
    where
      go : (b : Bool) → ceiling (pick b (s.arrived ++ (c ∷ [])) s.arrived) ≤ max (ceiling s.arrived) (c + 1)
      go true = omega (arith, ceiling-append s.arrived (c ∷ []))
      go false = omega arith

-- ---- the stores of one link taken off

pub counted : (t : Bool) → bool_byte t ≡ pick t 1 0
counted true = refl
counted false = refl

module _ {a : Areas} {at m c : ℕ} {w : List ℕ} (s : Releasing a at m c w) where
  -- the word of how many links lead to c
  abbrev word-index : ℕ
  word-index = a.waiting + c

  abbrev word : ℕ
  word = get_or w word-index 0

  abbrev counts : List ℕ
  counts = waiting_in a w

  word-at : word ≡ get_or counts c 0
  word-at = region-at a.waiting a.nodes w c s.inside

  -- while a node waits, not all have arrived
  pub release-room : (word ≡ 0 → ⊥) → m < a.nodes
  release-room e = omega (arith, waiting-some counts c (λ z. e (word-at ∙ z)))

  -- c stands behind those that have arrived
  module _ (e : word ≡ 0 → ⊥) where
    abbrev less : List ℕ
    less = set w word-index (word - 1)

    abbrev after : List ℕ
    after = set less (at + m) c

    room : m < a.nodes
    room = release-room e

    long : length less ≡ length w
    long = length-set w word-index (word - 1)

    kept : Kept a.waiting (at + a.nodes) w after
    kept =
        kept_then (kept_set a.waiting (at + a.nodes) w word-index _ (omega arith) (omega arith))
        (kept_set a.waiting (at + a.nodes) less (at + m) c (omega arith) (omega (arith, room)))

    counts-are : waiting_in a after ≡ set counts c (get_or counts c 0 - 1)
    counts-are =
        rw (
          ← word-at,
          region-over a.waiting a.nodes less (at + m) c (omega arith),
          region-in a.waiting a.nodes w c (word - 1) s.inside,
        )

    before : region at m less ≡ region at m w
    before = region-under at m w word-index (word - 1) (omega arith)

    -- and is counted there if it waits for nothing
    arrived-are : (t : Bool) → region at (m + pick t 1 0) after ≡ pick t (region at m w ++ (c ∷ [])) (region at m w)
    arrived-are true = rw (region-push at m less c (omega (arith, room, long)), before)
    arrived-are false = rw (add-zero m, region-over at m less (at + m) c (omega arith), before)

    pub release-some : {r : ℕ} → r ≡ pick (eqb word 1) 1 0 → Arrives a at m (m + r) (released c) w after
    release-some q = record { kept = kept; arrivals = rw (q, counts-are, arrived-are (eqb word 1), word-at) }

    pub release-few : {r : ℕ} → r ≡ pick (eqb word 1) 1 0 → m + r ≤ a.nodes
    release-few q = rw q (go (eqb word 1))
      where
        go : (t : Bool) → m + pick t 1 0 ≤ a.nodes
        go true = omega (arith, room)
        go false = omega (arith, room)
