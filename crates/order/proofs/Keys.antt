-- The keys filled: with the distances, or one by one with the distances and what the spaces weigh.
use mathlib.Core.Path.{◌≡◌, ap, ◌∙◌}
use Prim.Native.Nat.{ℕ, ◌+◌, ◌*◌, ◌≤◌, ◌<◌}
use mathlib.Core.List.{List}
use native.Mathlib.Omega.{arith}
use native.Mathlib.Decide.{dec_le}
use lib.ListN.{length, get_or, set, get_or-eq_default}
use lib.Seq.{get_or-set_same, get_or-set_other}
use Rattle.regions.specs.Region.{Kept, Copying}
use Rattle.regions.proofs.Laws.{region-length, region-at, region-in}
use Rattle.regions.proofs.Bounds.{ceiling-at, ceiling-each}
use Rattle.regions.proofs.Frame.{kept_then, kept_set, kept_less, kept_above}
use Rattle.model_orders.specs.Space.{space_weight}
use Rattle.model_orders.proofs.Bags.{Same, same, other, same_or}
use Rattle.work.specs.Views.{keys_in, key_in, distances_in, spaces_in}
use Rattle.work.specs.declared.Areas.{Areas}
use Rattle.order_graph.specs.Graph.{most_nodes}
use Rattle.order_survey.specs.Survey.{far_away}
use Rattle.order_ready.specs.Ready.{most_key}
use Rattle.order.specs.Try.{key_by, Trying, Keying, Keyed}
use Rattle.order.specs.declared.By.{By}

pub keys-distances : {a : Areas} {n root : ℕ} {by : By} {w w' : List ℕ} → by ≡ By.Distance → Trying a n root by w → Copying a.distances a.keys a.nodes a.nodes w w'
    → Keyed a by w w'
keys-distances {a} e t f =
    let near = rw e at t.asked in
    rw e
    (record {
      kept = kept_less f.kept a.keys a.waiting (omega arith) (omega (arith, t.surveyed.graph.apart));
      keys = λ i. rw f.done;
      small = rw f.done (omega (arith, near));
    })

-- ---- i nodes have their keys

pub record Weighs (a : Areas) (i : ℕ) (w₀ w : List ℕ) : Type 0 where
  pub kept : Kept a.keys a.waiting w₀ w
  pub done : (j : ℕ) → j < i → key_in a w j ≡ key_by By.Space a w₀ j

module _ {a : Areas} {i : ℕ} {w₀ w : List ℕ} (s : Keying a w₀) (f : Weighs a i w₀ w) where
  module _ (h : i < a.nodes) where
    distance_is : get_or w (a.distances + i) 0 ≡ get_or (distances_in a w₀) i 0
    distance_is =
        region-at a.distances a.nodes w i h
        ∙ ap (λ (l : List ℕ). get_or l i 0) (kept_above f.kept a.distances a.nodes (omega (arith, s.apart)))

    space-is : get_or w (a.spaces + i) 0 ≡ get_or (spaces_in a w₀) i 0
    space-is =
        region-at a.spaces a.nodes w i h
        ∙ ap (λ (l : List ℕ). get_or l i 0) (kept_above f.kept a.spaces a.nodes (omega (arith, s.apart)))

    -- no sum wraps
    pub weighs-near : get_or w (a.distances + i) 0 ≤ far_away
    weighs-near =
        let long = region-length a.distances a.nodes w₀ (omega (arith, s.apart, s.long)) in
        omega (arith, distance_is, s.near, ceiling-at (distances_in a w₀) i (omega (arith, long)))

    pub weighs-small : get_or w (a.spaces + i) 0 < most_nodes
    weighs-small =
        let long = region-length a.spaces a.nodes w₀ (omega (arith, s.apart, s.long)) in
        omega (arith, space-is, s.small, ceiling-at (spaces_in a w₀) i (omega (arith, long)))

    abbrev key : ℕ
    key = get_or w (a.distances + i) 0 + get_or w (a.spaces + i) 0 * space_weight

    pub weighs-next : Weighs a (i + 1) w₀ (set w (a.keys + i) key)
    weighs-next =
        let z = region-in a.keys a.nodes w i key h in
        record {
          kept = kept_then f.kept (kept_set a.keys a.waiting w (a.keys + i) key (omega arith) (omega (arith, s.apart)));
          done = λ j k. rw z (go j k (same_or j i));
        }
      where
        go : (j : ℕ) → j < i + 1 → Same j i → get_or (set (keys_in a w) i key) j 0 ≡ key_by By.Space a w₀ j
        go j k (same e _ _) =
            rw e (get_or-set_same (keys_in a w) i key 0 (omega (arith, h, region-length a.keys a.nodes w (omega (arith, s.apart, s.long, f.kept.long)))) ∙ rw (distance_is, space-is))
        go j k (other d _ _) = get_or-set_other (keys_in a w) i j key 0 d ∙ f.done j (omega (arith, d))

  pub weighs-all : a.nodes ≤ i → Keyed a By.Space w₀ w
  weighs-all h =
      record {
        kept = f.kept;
        keys = λ j. go j (dec_le a.nodes j);
        small = ceiling-each (keys_in a w) most_key (λ j k. rw (f.done j (omega (arith, keys-long))) (key-small j (omega (arith, keys-long))));
      }
    where
      keys-long : length (keys_in a w) ≡ a.nodes
      keys-long = region-length a.keys a.nodes w (omega (arith, s.apart, s.long, f.kept.long))

      distances-long : length (distances_in a w₀) ≡ a.nodes
      distances-long = region-length a.distances a.nodes w₀ (omega (arith, s.apart, s.long))

      spaces-long : length (spaces_in a w₀) ≡ a.nodes
      spaces-long = region-length a.spaces a.nodes w₀ (omega (arith, s.apart, s.long))

      key-small : (j : ℕ) → j < a.nodes → key_by By.Space a w₀ j < most_key
      key-small j k =
          omega (
            arith,
            s.near,
            s.small,
            ceiling-at (distances_in a w₀) j (omega (arith, distances-long)),
            ceiling-at (spaces_in a w₀) j (omega (arith, spaces-long)),
          )

      -- past the last node there is 0 in all of them
      go : (j : ℕ) → Dec (a.nodes ≤ j) → key_in a w j ≡ key_by By.Space a w₀ j
      go j (no k) = f.done j (omega arith)
      go j (yes k) =
          omega (
            arith,
            get_or-eq_default (keys_in a w) 0 {n = j} (omega (arith, keys-long)),
            get_or-eq_default (distances_in a w₀) 0 {n = j} (omega (arith, distances-long)),
            get_or-eq_default (spaces_in a w₀) 0 {n = j} (omega (arith, spaces-long)),
          )
