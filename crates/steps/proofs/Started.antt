-- Start: no object, whatever stood in the stores.
use mathlib.Core.Path.{◌≡◌, refl, subst}
use Prim.Native.Nat.{ℕ, ◌+◌, ◌≤◌, ◌<◌}
use mathlib.Core.List.{List}
use native.Mathlib.Omega.{arith}
use lib.ListN.{length, get_or, replicate, length-set, length-replicate, get_or-replicate}
use lib.Seq.{lt-length-set, get_or-set_same, get_or-set_other}
use borrow.Author.Tests.{leb-true, not-false}
use Rattle.lists.specs.Lists.{over, holds, total}
use Rattle.lists.proofs.Holds.{holds_at}
use Rattle.lists.proofs.Same.{and_left, and_right}
use Rattle.lists.proofs.Frames.{length-cleared, cleared-in}
use Rattle.answer.specs.Number.{no_tally}
use Rattle.model.specs.Judge.{most_objects, most_links, most_bytes, Limits, accepted, in_range, judge_start}
use Rattle.model.specs.Session.{started}
use Rattle.model.proofs.Verdicts.{passes}
use Rattle.layout.specs.Words.{object_limit_at, closed_count_at, open_depth_at, link_begins_base, object_limit, closed_count, open_depth, ends_at, link_ends_at, begins_at, need, store_length, link_limit}
use Rattle.layout.specs.Known.{Head}
use Rattle.steps.specs.Steps.{start_words}
use Rattle.steps.specs.Runs.{Drawn}
use Rattle.steps.proofs.Sides.{Leaves, no-opens, no-closed, sides-drawn}

-- what the ranges say
pub record Startable (m : Limits) (w : List ℕ) : Type 0 where
  pub some : 1 ≤ m.objects
  pub few : m.objects ≤ most_objects
  pub few_links : m.links ≤ most_links
  pub full : 1 ≤ m.bytes
  pub most : m.bytes ≤ most_bytes
  pub room : need m.objects m.links ≤ length w

pub startable : (m : Limits) (w : List ℕ) → judge_start m (need m.objects m.links) (length w) ≡ accepted → Startable m w
startable m w e =
    let both = not-false _ (passes _ e 0) in
    let at = holds_at (in_range m) (and_left (holds (in_range m)) _ both) in
    record {
      some = leb-true _ _ (at 0);
      few = leb-true _ _ (at 1);
      few_links = leb-true _ _ (at 2);
      full = leb-true _ _ (at 3);
      most = leb-true _ _ (at 4);
      room = leb-true _ _ (and_right (holds (in_range m)) _ both);
    }

module _ (m : Limits) (w : List ℕ) (s : Startable m w) where
  abbrev cleared : List ℕ
  cleared = over 0 (replicate (need m.objects m.links) 0) w

  cleared-length : length cleared ≡ length w
  cleared-length = length-cleared 0 (need m.objects m.links) w (omega arith)

  words : length (start_words m w) ≡ length w
  words = simp length-set cleared-length

  -- a word that is no limit
  zero_word : (j : ℕ) → j < link_begins_base → (j ≡ object_limit_at → ⊥) → (j ≡ begins_at → ⊥) → get_or (start_words m w) j 0 ≡ 0
  zero_word j h e f =
      let g : j ≡ link_begins_base + m.objects → ⊥ = omega arith in
      simp (get_or-set_other, e, f, g) (cleared-in 0 (need m.objects m.links) w (omega arith) j (omega arith) (omega arith))

  objects-is : object_limit (start_words m w) ≡ m.objects
  objects-is =
      let n = cleared-length in
      let r : object_limit_at < length cleared = omega arith in
      let e : ◌≡◌ {A = ℕ} object_limit_at begins_at → ⊥ = omega arith in
      let f : object_limit_at ≡ link_begins_base + m.objects → ⊥ = omega arith in
      simp (get_or-set_other, get_or-set_same)

  bytes-is : store_length (start_words m w) ≡ m.bytes
  bytes-is =
      let n = cleared-length in
      let r : begins_at < length cleared = omega arith in
      let f : begins_at ≡ link_begins_base + m.objects → ⊥ = omega arith in
      simp (get_or-set_other, get_or-set_same, lt-length-set)

  links-is : link_limit (start_words m w) ≡ m.links
  links-is =
      let n = cleared-length in
      let r : link_begins_base + m.objects < length cleared = omega arith in
      rw objects-is (simp (get_or-set_same, lt-length-set))

  pub start-leaves : (b : List ℕ) → m.bytes ≡ length b → Leaves b w (replicate (length b) 0) (start_words m w) no_tally (started m)
  unfolding total
  start-leaves b e =
      let w' : List ℕ = start_words m w in
      let b' : List ℕ = replicate (length b) 0 in
      let bytes : length b' ≡ length b = length-replicate (length b) 0 in
      let x = words in
      let p = objects-is in
      let q = links-is in
      let r = bytes-is in
      let count : closed_count w' ≡ 0 = zero_word closed_count_at (omega arith) (omega arith) (omega arith) in
      let depth : open_depth w' ≡ 0 = zero_word open_depth_at (omega arith) (omega arith) (omega arith) in
      let base = zero_word ends_at (omega arith) (omega arith) (omega arith) in
      let link_base = zero_word link_ends_at (omega arith) (omega arith) (omega arith) in
      let head : Head (length b') w' =
      record {
        some = omega arith;
        few = omega arith;
        few_links = omega arith;
        full = omega arith;
        most = omega arith;
        room = omega arith;
        size = omega arith;
        closed = omega arith;
        depth = omega arith;
        base = base;
        link_base = link_base;
      } in
      record {
        drawn = subst (λ l. Drawn (record { bytes = b'; words = w' }) (started l)) (λ i. record { objects = p i; links = q i; bytes = r i })
            (sides-drawn (no-opens b' w' base link_base) (no-closed b' w') depth count head (omega arith) (omega arith) (λ i a c. get_or-replicate (length b) i 0 0 (omega arith)));
        counted = refl;
        same_bytes = bytes;
        same_words = words;
      }
