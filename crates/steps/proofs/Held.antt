-- What a call on sound stores has in hand: the counts and the tally, as numbers.
use mathlib.Core.Path.{◌≡◌}
use Prim.Native.Nat.{ℕ, ◌+◌, ◌-◌, ◌^◌, ◌≤◌, ◌<◌}
use mathlib.Core.List.{List}
use native.Mathlib.Omega.{arith}
use lib.ListN.{length}
use Rattle.answer.specs.declared.tally.Tally.{Tally}
use Rattle.layout.specs.declared.state.State.{State}
use Rattle.layout.specs.Known.{Read}
use Rattle.steps.specs.Steps.{tally_in, tally_by}

pub record Held (b w : List ℕ) (s : State) (t : Tally) : Type 0 where
  pub counts : Read b w s
  pub tally_is : t ≡ tally_in b w
  pub bytes_is : t.bytes ≡ s.top + (length b - s.low)
  pub links_is : t.links ≡ s.link_top + (s.links - s.link_low)
  pub objects_is : t.objects ≡ s.closed
  pub depth_is : t.depth ≡ s.depth

pub tally-is : {b w : List ℕ} {s : State} {t : Tally} → Read b w s → t ≡ tally_by (length b) s → t ≡ tally_in b w
tally-is r e = rw (← r.top_is, ← r.low_is, ← r.link_top_is, ← r.links_is, ← r.link_low_is, ← r.closed_is, ← r.depth_is) e

pub held : {b w : List ℕ} {s : State} {t : Tally} → Read b w s → t ≡ tally_by (length b) s → Held b w s t
held r e = record { counts = r; tally_is = tally-is r e; bytes_is = rw e; links_is = rw e; objects_is = rw e; depth_is = rw e }

pub some-open : {n : ℕ} → (n ≡ 0 → ⊥) → 0 < n
some-open k = omega arith

module _ {b w : List ℕ} {s : State} {t : Tally} (h : Held b w s t) where
  pub held_bytes : t.bytes ≤ length b
  held_bytes = omega arith

  -- a number of bytes that has room: behind the open ones, and in the count
  pub room-behind : {n : ℕ} → n ≤ length b - t.bytes → s.top + n ≤ length b
  room-behind k = omega arith

  pub room-counted : {n : ℕ} → n ≤ length b - t.bytes → (t.bytes + n < 2 ^ 64) × (t.links + 0 < 2 ^ 64) × (t.links + 1 < 2 ^ 64)
  room-counted k = (omega arith, omega arith, omega arith)

  -- a link that has room
  pub link_apart : t.links < s.links → s.link_top < s.link_low
  link_apart k = omega arith

  -- one closed object more
  pub one_more : s.closed < s.objects → 0 < s.depth → (t.objects + 1 < 2 ^ 64) × (0 < t.depth)
  one_more k some = (omega arith, omega arith)
