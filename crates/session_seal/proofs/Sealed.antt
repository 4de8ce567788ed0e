-- The words that are stored are those of the definition, and the bytes too: where none were, zeros stood before.
use mathlib.Core.Path.{◌≡◌, sym, ◌∙◌}
use mathlib.Core.Bool.{true}
use Prim.Native.Nat.{ℕ, ◌+◌, ◌-◌, ◌*◌, ◌≤◌, ◌<◌, min}
use mathlib.Core.List.{List}
use native.Mathlib.Decide.{dec_le}
use native.Mathlib.Omega.{arith}
use lib.ListN.{length, get_or, set, replicate}
use lib.Seq.{ext_get_or}
use Rattle.lists.specs.Lists.{part, over, zeros}
use Rattle.lists.proofs.Frames.{length-cleared, cleared-before, cleared-in, cleared-after, length_moved, moved_before, zeros-in}
use Rattle.layout.specs.Words.{closed_count_at, open_depth_at, begins_at, link_begins_base, links_base, link_words}
use Rattle.layout.specs.Known.{Innermost}
use Rattle.layout.specs.declared.state.State.{State}
use Rattle.layout.specs.declared.span.Span.{Span}
use Rattle.steps.specs.Steps.{sealed_words}

pub seal-done : {w : List ℕ} {s : State} {own : Span} → Innermost w s own
    → let base = links_base + s.objects * 2 in
    let low = s.low - (own.to - own.from) in
    let links = own.last - own.first in
    let link_low = s.link_low - links in
    set (set (set (set (over (base + link_low * link_words) (part (base + own.first * link_words) (base + own.first * link_words + links * link_words) w) w) (begins_at + s.closed + 1) low) (link_begins_base + s.objects + s.closed + 1) link_low) closed_count_at (s.closed + 1)) open_depth_at (s.depth - 1)
    ≡ sealed_words w
seal-done {s = s} {own = own} k =
    let n : links_base + s.objects * 2 + own.first * link_words + (own.last - own.first) * link_words ≡ links_base + s.objects * 2 + own.last * link_words = omega (arith, k.within) in
    rw (n, k.is, k.words.is)

-- ---- cleared as far as it was not zero before

module _ (a t e : ℕ) (l : List ℕ) (h : a ≤ t) (k : t ≤ e) (fits : e ≤ length l) (null : (j : ℕ) → t ≤ j → j < e → get_or l j 0 ≡ 0) where
  short : a + (t - a) ≤ length l
  short = omega arith

  far : a + (e - a) ≤ length l
  far = omega arith

  clear-short : over a (replicate (t - a) 0) l ≡ over a (replicate (e - a) 0) l
  clear-short =
      ext_get_or 0 (over a (replicate (t - a) 0) l) (over a (replicate (e - a) 0) l) (length-cleared a (t - a) l short ∙ sym (length-cleared a (e - a) l far))
      (λ j b. same j (dec_le a j) (dec_le t j) (dec_le e j))
    where
      same : (j : ℕ) → Dec (a ≤ j) → Dec (t ≤ j) → Dec (e ≤ j) → get_or (over a (replicate (t - a) 0) l) j 0 ≡ get_or (over a (replicate (e - a) 0) l) j 0
      same j (no x) _ _ = cleared-before a (t - a) l short j (omega arith) ∙ sym (cleared-before a (e - a) l far j (omega arith))
      same j (yes x) (no y) _ = cleared-in a (t - a) l short j x (omega arith) ∙ sym (cleared-in a (e - a) l far j x (omega arith))
      same j (yes x) (yes y) (no z) = cleared-after a (t - a) l short j (omega arith) ∙ null j y (omega arith) ∙ sym (cleared-in a (e - a) l far j x (omega arith))
      same j (yes x) (yes y) (yes z) = cleared-after a (t - a) l short j (omega arith) ∙ sym (cleared-after a (e - a) l far j (omega arith))

-- bytes moved up over zeros
pub clear-left : (from top low : ℕ) (b : List ℕ) → from ≤ top → top ≤ low → low ≤ length b → zeros (part top low b) ≡ true
    → let to = low - (top - from) in
    let moved = over to (part from top b) b in
    over from (replicate (min top to - from) 0) moved ≡ over from (replicate (to - from) 0) moved
clear-left from top low b h k m z =
    let to : ℕ = low - (top - from) in
    let up : to + (top - from) ≤ length b = omega arith in
    let n = length_moved from top to b (omega arith) up in
    clear-short from (min top to) to (over to (part from top b) b) (omega arith) (omega arith) (omega arith)
    (λ j c d. moved_before from top to b (omega arith) up j d ∙ zeros-in top low b z j (omega arith) (omega arith))
