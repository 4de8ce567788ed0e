-- The calls on a session keep the slots of its closed objects.
use mathlib.Core.Path.{◌≡◌, subst}
use mathlib.Core.Bool.{true}
use Prim.Native.Nat.{ℕ, ◌+◌, ◌<◌}
use mathlib.Core.List.{List}
use native.Mathlib.Omega.{arith}
use lib.ListN.{length}
use lib.Dec.{ltb}
use Rattle.lists.specs.Lists.{pick}
use Rattle.answer.specs.Answers.{Closing}
use Rattle.layout.specs.Words.{closed_count, open_depth}
use Rattle.layout.specs.Decode.{closed_to}
use Rattle.layout.specs.Sound.{sound}
use Rattle.layout.specs.Known.{Read}
use Rattle.layout.specs.declared.state.State.{State}
use Rattle.steps.specs.Steps.{closing, close_step, innermost_in, twin_in}
use Rattle.steps.specs.Runs.{StoreCall, stores, step_on}
use Rattle.steps.proofs.Tallies.{length-closed}
use Rattle.session_hash.specs.Hash.{hash_of}
use Rattle.session_slots.proofs.Closes.{closed_in, quiet, closes-keep, still-sound, quiet-closed, closed-sound, closed-long, closed-nothing, closed-closes}
use Rattle.session_slots.specs.Slots.{slots, probes, slot_from, slot_of, Slotted, added}
use Rattle.session_slots.specs.Close.{Slotting, SlottedBy, More}
use Rattle.session_slots.proofs.Places.{slotted-none, slotted-more}

-- of a fresh session, whatever stands in the table
pub slotting-fresh : {b w m : List ℕ} → sound b w ≡ true → closed_count w ≡ 0 → length m ≡ slots + probes → Slotting b w m
unfolding closed_to
slotting-fresh {m = m} h z n = record { is_sound = h; slotted = rw z (slotted-none m n) }

module _ {b w m : List ℕ} (k : Slotting b w m) where
  -- open, put, link, drop and tally leave them as they are, and right
  pub slotting-quiet : (c : StoreCall) → quiet c ≡ true → Slotting (step_on c (stores b w)).stores.bytes (step_on c (stores b w)).stores.words m
  slotting-quiet c e =
      record {
        is_sound = still-sound (stores b w) k.is_sound c;
        slotted = subst (λ os. Slotted os m) (quiet-closed (stores b w) k.is_sound c e) k.slotted;
      }

  -- ---- a close

  -- nothing is open
  pub slotted-nothing : {b' w' : List ℕ} {r : Closing} → open_depth w ≡ 0 → closing r b' w' ≡ close_step b w → SlottedBy b w b' w' m r
  slotted-nothing d e =
      record {
        step = e;
        slotting = record { is_sound = closed-sound b w k.is_sound e; slotted = subst (λ os. Slotted os m) (closed-nothing b w k.is_sound e d) k.slotted };
      }

  -- what adding asks
  pub more-new : {b' w' : List ℕ} {r : Closing} {st : State} → closing r b' w' ≡ close_step b w → Read b w st → More w' m st.closed
  more-new e r =
      record { counted = omega (arith, closed-long b w k.is_sound e, r.bounds.room); long = k.slotted.long; few = omega (arith, r.bounds.closed, r.bounds.few) }

  -- an object is open, and its look is done
  module _ {b' w' : List ℕ} {r : Closing} (d : 0 < open_depth w) (e : closing r b' w' ≡ close_step b w) where
    right : Slotted (closed_in b' w') (pick (ltb (closed_count w) (closed_count w')) (added probes (slot_of (innermost_in b w)) (closed_count w) m) m)
    unfolding twin_in
    right =
        let n = length-closed b w (closed_count w) in
        closes-keep b w b' w' Slotted (closed-closes b w k.is_sound e d) k.slotted
        (λ i t. rw n at (slotted-more k.slotted (innermost_in b w) (omega (arith, t))))

    pub slotted-close : {c h : ℕ} {m' : List ℕ} → c ≡ closed_count w → h ≡ hash_of (innermost_in b w) → m' ≡ pick (ltb c (closed_count w')) (added probes (slot_from h) c m) m → SlottedBy b w b' w' m' r
    slotted-close p q z = record { step = e; slotting = record { is_sound = closed-sound b w k.is_sound e; slotted = rw (z, p, q) right } }
