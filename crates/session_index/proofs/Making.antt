-- The closed objects indexed one by one.
use mathlib.Core.Path.{◌≡◌}
use Prim.Native.Nat.{ℕ, ◌+◌, ◌-◌, ◌*◌, ◌≤◌, ◌<◌}
use mathlib.Core.List.{List}
use native.Mathlib.Omega.{arith}
use native.Mathlib.Numerals.{add-one}
use lib.ListN.{length, replicate}
use Rattle.lists.specs.Lists.{over}
use Rattle.lists.proofs.Frames.{length-cleared, cleared-in}
use Rattle.layout.specs.Words.{closed_count}
use Rattle.layout.specs.Decode.{closed_at, closed_to}
use Rattle.layout.specs.Known.{Read}
use Rattle.layout.specs.declared.state.State.{State}
use Rattle.steps.proofs.Tallies.{length-closed}
use Rattle.session_hash.specs.Hash.{hash_of}
use Rattle.session_chains.specs.Index.{index_need, Indexed, added, Room}
use Rattle.session_chains.proofs.Appended.{length-added}
use Rattle.session_chains.proofs.Indexes.{indexed-none, indexed-room, indexed-more}

-- the first i are in
pub record Making (b w : List ℕ) (s : State) (buckets i : ℕ) (m : List ℕ) : Type 0 where
  pub within : i ≤ s.closed
  pub room : index_need buckets s.objects ≤ length m
  pub indexed : Indexed (closed_to b w i) buckets m

module _ {b w : List ℕ} {s : State} (r : Read b w s) (buckets : ℕ) (m : List ℕ) where
  pub making-none : 0 < buckets → index_need buckets s.objects ≤ length m → Making b w s buckets 0 (over 0 (replicate (buckets * 2 - 0) 0) m)
  unfolding closed_to
  making-none h k =
      let n : buckets * 2 - 0 ≡ buckets * 2 = omega arith in
      let f : 0 + (buckets * 2 - 0) ≤ length m = omega arith in
      let e = length-cleared 0 (buckets * 2 - 0) m f in
      record {
        within = omega arith;
        room = omega arith;
        indexed = indexed-none buckets _ h (omega arith) (λ j d. cleared-in 0 (buckets * 2 - 0) m f j (omega arith) (omega arith));
      }

  module _ {i : ℕ} (k : Making b w s buckets i m) (d : i < s.closed) {h : ℕ} (e : h ≡ hash_of (closed_at b w i)) where
    pub making-room : Room buckets h i m
    making-room =
        let n = length-closed b w i in
        rw e (rw n at (indexed-room k.indexed (closed_at b w i) (omega (arith, k.room, r.bounds.closed))))

    pub making-next : Making b w s buckets (i + 1) (added buckets h i m)
    unfolding closed_to
    making-next =
        let l = length-added buckets h i m in
        let n = length-closed b w i in
        record {
          within = omega arith;
          room = omega (arith, k.room);
          indexed = rw (add-one i, e) (rw n at (indexed-more k.indexed (closed_at b w i) (omega (arith, k.room, r.bounds.closed))));
        }

  pub making-all : {i : ℕ} → Making b w s buckets i m → s.closed ≤ i → Indexed (closed_to b w (closed_count w)) buckets m
  making-all {i} k h =
      let e : i ≡ closed_count w = omega (arith, k.within, r.closed_is) in
      rw e at k.indexed
