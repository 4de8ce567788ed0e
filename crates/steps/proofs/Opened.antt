-- Open: one more open object, with no bytes and no links.
use mathlib.Core.Path.{◌≡◌, refl}
use Prim.Native.Nat.{ℕ, suc, ◌+◌, ◌-◌, ◌<◌}
use native.Mathlib.Nat.{le_refl}
use mathlib.Core.List.{List, [], ◌∷◌}
use native.Mathlib.Omega.{arith}
use lib.ListN.{length, get_or, set, length-set}
use lib.Seq.{lt-length-set, get_or-set_same, get_or-set_other}
use Rattle.lists.specs.Lists.{part}
use Rattle.lists.proofs.Frames.{zeros-in}
use Rattle.answer.specs.Tally.{opened}
use Rattle.model_orders.specs.Object.{no_object}
use Rattle.model.specs.Session.{with_opens}
use Rattle.model.specs.Judge.{most_open}
use Rattle.layout.specs.Words.{closed_count_at, open_depth_at, closed_count, open_depth, ends_at, link_ends_at, links_of, top, link_top, low}
use Rattle.layout.specs.Decode.{links_from, decode}
use Rattle.layout.specs.Known.{Sound}
use Rattle.steps.specs.Steps.{tally_in}
use Rattle.steps.proofs.Fields.{ok-none}
use Rattle.steps.proofs.Tallies.{tally-same}
use Rattle.steps.proofs.Frames.{ObjectsKept, Other, kept-others}
use Rattle.steps.proofs.Sides.{Leaves, more-opens, kept-opens, kept-closed, sides-leave}

part_none : (a : ℕ) (l : List ℕ) → part a a l ≡ []
part_none a l = let n : a - a ≡ 0 = omega arith in rw n

links-none : (w : List ℕ) (a : ℕ) → links_from w a a ≡ []
unfolding links_of
links-none w a = rw part_none

module _ {b w : List ℕ} (s : Sound b w) (h : open_depth w < most_open) where
  abbrev words : List ℕ
  words = set (set (set w (ends_at + open_depth w + 1) (top w)) (link_ends_at + open_depth w + 1) (link_top w)) open_depth_at (open_depth w + 1)

  others : (j : ℕ) → Other (open_depth w) w j → get_or words j 0 ≡ get_or w j 0
  others j o = simp (get_or-set_other, o.depth, o.end, o.link_end)

  kept : ObjectsKept (open_depth w) b w b words
  kept = kept-others s (le_refl _) h refl (λ i k. refl) (λ i k. refl) (simp length-set) others

  depth : open_depth words ≡ suc (open_depth w)
  depth = let r : open_depth_at < length w = omega arith in simp (get_or-set_same, lt-length-set) (omega arith)

  count : closed_count words ≡ closed_count w
  count = others closed_count_at (omega arith)

  end : get_or words (ends_at + open_depth w + 1) 0 ≡ top w
  end =
      let r : ends_at + open_depth w + 1 < length w = omega arith in
      let x : ends_at + open_depth w + 1 ≡ open_depth_at → ⊥ = omega arith in
      let y : ends_at + open_depth w + 1 ≡ link_ends_at + open_depth w + 1 → ⊥ = omega arith in
      simp (get_or-set_other, get_or-set_same)

  link_end : get_or words (link_ends_at + open_depth w + 1) 0 ≡ link_top w
  link_end =
      let r : link_ends_at + open_depth w + 1 < length w = omega arith in
      let x : link_ends_at + open_depth w + 1 ≡ open_depth_at → ⊥ = omega arith in
      simp (get_or-set_other, get_or-set_same, lt-length-set)

  pub open-leaves : Leaves b w b words (opened (tally_in b w)) (with_opens (no_object ∷ (decode b w).opens) (decode b w))
  unfolding decode
  open-leaves =
      let opens =
      more-opens no_object (kept-opens s kept (omega (arith, count))) end link_end (le_refl _) (le_refl _) (part_none (top w) b) (links-none words (link_top w)) (ok-none _) in
      sides-leave s kept opens (kept-closed s kept) depth count (omega arith) (omega arith) s.apart s.link_apart (zeros-in (top w) (low w) b s.gap)
      (opened (tally_in b w)) (tally-same refl refl refl (omega arith))
