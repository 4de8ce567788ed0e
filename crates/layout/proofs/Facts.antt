-- The soundness test as facts, and back.
use mathlib.Core.Path.{◌≡◌, refl, sym}
use mathlib.Core.Bool.{true, false, ◌&&◌, and_assoc, and-true, not-eq-not}
use Prim.Native.Nat.{ℕ, ◌≤◌}
use mathlib.Core.List.{List}
use native.Mathlib.Omega.{arith}
use borrow.Author.Tests.{leb-true, eqb-true, le-leb, eq-eqb}
use lib.ListN.{length, get_or}
use lib.Dec.{leb, eqb}
use Rattle.lists.specs.Lists.{holds}
use Rattle.lists.proofs.Holds.{holds_at}
use Rattle.model.specs.Judge.{most_bytes, most_open, in_range}
use Rattle.layout.specs.Tables.{rises, falls}
use Rattle.layout.specs.Words.{object_limit, closed_count, open_depth, ends_at, link_ends_at, begins_at, link_begins_at, need, store_length, link_limit, limits_in, ends, link_ends, begins, link_begins, top, link_top, low, link_low}
use Rattle.layout.specs.Sound.{head_tests, head_ok, table_tests, sound_tests, sound}
use Rattle.layout.specs.Known.{Head, Sound, Read, Tested, WordsRead}
use Rattle.layout.specs.declared.state.State.{State}
use Rattle.layout.proofs.Entries.{Rising, Falling, rising-table, falling-table}

pub head-facts : (n : ℕ) (w : List ℕ) → head_ok n w ≡ true → Head n w
unfolding head_ok head_tests
head-facts n w h =
    let at = holds_at (head_tests n w) h in
    let limit = holds_at (in_range (limits_in w)) (at 0) in
    let size = eqb-true (store_length w) n (at 2) in
    record {
      some = leb-true _ _ (limit 0);
      few = leb-true _ _ (limit 1);
      few_links = leb-true _ _ (limit 2);
      full = rw size at (leb-true 1 (store_length w) (limit 3));
      most = rw size at (leb-true (store_length w) most_bytes (limit 4));
      room = leb-true _ _ (at 1);
      size = size;
      closed = leb-true _ _ (at 3);
      depth = leb-true _ _ (at 4);
      base = eqb-true _ _ (at 5);
      link_base = eqb-true _ _ (at 6);
    }

-- by the words alone: the byte store's length is noted in them
pub own-head : {n : ℕ} {w : List ℕ} → Head n w → Head (store_length w) w
own-head h = rw h.size h

pub tested : {n : ℕ} {w : List ℕ} → Head n w → holds (table_tests w) ≡ true → Tested w
tested h t = record { head = own-head h; tables = t }

-- what cannot be is refused
pub head-not : (n : ℕ) (w : List ℕ) → (Head n w → ⊥) → false ≡ head_ok n w
head-not n w h = sym (not-eq-not.0 (λ e. h (head-facts n w e)))

pub head_of : {n : ℕ} {w : List ℕ} → Head n w → head_ok n w ≡ true
unfolding head_ok head_tests holds
head_of {n} h =
    simp (h.size, eq-eqb n n refl, eq-eqb _ _ h.base, eq-eqb _ _ h.link_base)
    (simp (le-leb _ _ h.some, le-leb _ _ h.few, le-leb _ _ h.few_links, le-leb _ _ h.full, le-leb _ _ h.most)
    (simp (le-leb _ _ h.room, le-leb _ _ h.closed, le-leb _ _ h.depth)))

-- the limits and the lengths, and the counts, as the code tests them
pub head-joined : (n : ℕ) (w : List ℕ)
    → ((holds (in_range (limits_in w)) && leb (need (object_limit w) (link_limit w)) (length w) && eqb (store_length w) n)
    && (leb (closed_count w) (object_limit w) && leb (open_depth w) most_open && eqb (get_or w ends_at 0) 0 && eqb (get_or w link_ends_at 0) 0))
    ≡ head_ok n w
unfolding head_ok head_tests holds
head-joined n w = simp (and_assoc, and-true)

-- what the four tables give, for a byte store of n bytes
pub record Tables (n : ℕ) (w : List ℕ) : Type 0 where
  pub ends : Rising ends_at (open_depth w) w
  pub link_ends : Rising link_ends_at (open_depth w) w
  pub begins : Falling begins_at (closed_count w) w 1
  pub link_begins : Falling (link_begins_at w) (closed_count w) w 0
  pub apart : top w ≤ low w
  pub inside : low w ≤ n
  pub link_apart : link_top w ≤ link_low w
  pub link_inside : link_low w ≤ link_limit w

pub table-facts : (n : ℕ) (w : List ℕ) → Head n w → holds (table_tests w) ≡ true → Tables n w
unfolding table_tests
table-facts n w k h =
    let at = holds_at (table_tests w) h in
    let begins = falling-table begins_at (closed_count w) w 1 (omega arith) (at 2) in
    let link_begins = falling-table (link_begins_at w) (closed_count w) w 0 (omega arith) (at 3) in
    record {
      ends = rising-table ends_at (open_depth w) w (omega arith) (at 0);
      link_ends = rising-table link_ends_at (open_depth w) w (omega arith) (at 1);
      begins = begins;
      link_begins = link_begins;
      apart = leb-true _ _ (at 4);
      inside = omega (arith, begins.under (closed_count w) (omega arith));
      link_apart = leb-true _ _ (at 5);
      link_inside = link_begins.under (closed_count w) (omega arith);
    }

-- the tables, and where open ones end and closed ones begin, as the code tests them
pub tables-joined : (w : List ℕ)
    → (rises (ends w) && rises (link_ends w) && falls 1 (begins w) && falls 0 (link_begins w) && (leb (top w) (low w) && leb (link_top w) (link_low w)))
    ≡ holds (table_tests w)
unfolding table_tests holds
tables-joined w = simp (and_assoc, and-true)

tables-of : {b w : List ℕ} → Sound b w → holds (table_tests w) ≡ true
unfolding table_tests holds
tables-of s = simp (s.rise, s.link_rise, s.fall, s.link_fall, le-leb _ _ s.apart, le-leb _ _ s.link_apart)

pub sound-tables : {b w : List ℕ} → Sound b w → Tables (length b) w
sound-tables s = table-facts _ _ s.head (tables-of s)

module _ (b w : List ℕ) (h : sound b w ≡ true) where
  pub sound-head : head_ok (length b) w ≡ true
  unfolding sound sound_tests
  sound-head = holds_at (sound_tests b w) h 0

  pub sound-tests : holds (table_tests w) ≡ true
  unfolding sound sound_tests
  sound-tests = holds_at (sound_tests b w) h 1

pub sound-facts : (b w : List ℕ) → sound b w ≡ true → Sound b w
unfolding sound sound_tests table_tests
sound-facts b w h =
    let at = holds_at (sound_tests b w) h in
    let table = holds_at (table_tests w) (at 1) in
    let head = head-facts (length b) w (at 0) in
    let tables = table-facts (length b) w head (at 1) in
    record {
      head = head;
      rise = table 0;
      link_rise = table 1;
      fall = table 2;
      link_fall = table 3;
      apart = tables.apart;
      inside = tables.inside;
      link_apart = tables.link_apart;
      link_inside = tables.link_inside;
      gap = at 2;
      opens = at 3;
      closed = at 4;
    }

pub sound-of : {b w : List ℕ} → Sound b w → sound b w ≡ true
unfolding sound sound_tests holds
sound-of s = simp (head_of s.head, tables-of s, s.gap, s.opens, s.closed)

pub sound-known : {b w : List ℕ} {s : State} → Read b w s → Sound b w
sound-known r = sound-facts _ _ r.is_sound

-- the same by the words alone
pub words-read : {b w : List ℕ} {s : State} → Read b w s → WordsRead w s
words-read {b} {w} {s} r =
    let k = (sound-known r).head in
    record {
      is = λ i. record {
        objects = r.objects_is i;
        links = r.links_is i;
        closed = r.closed_is i;
        depth = r.depth_is i;
        top = r.top_is i;
        low = r.low_is i;
        link_top = r.link_top_is i;
        link_low = r.link_low_is i;
      };
      bounds = rw k.size r.bounds;
      tested = tested k (sound-tests b w r.is_sound);
    }

pub size-known : {b w : List ℕ} {s : State} → Read b w s → store_length w ≡ length b
size-known r = (sound-known r).head.size
