-- A list written over the front of another, or over the whole of it.
use mathlib.Core.Path.{◌≡◌, refl, ◌∙◌}
use Prim.Native.Nat.{ℕ}
use mathlib.Core.List.{List, append-nil}
use native.Mathlib.Nat.{zero-add}
use lib.ListN.{length, take, drop}
use lib.Seq.{take_at, drop_at, drop-length}
use Rattle.lists.specs.Lists.{over}

pub over-whole : (vs l : List ℕ) → length vs ≡ length l → over 0 vs l ≡ vs
unfolding over
over-whole vs l h = rw (zero-add, h, drop-length l, append-nil)

module _ (vs l : List ℕ) where
  pub over-front : take (length vs) (over 0 vs l) ≡ vs
  unfolding over
  over-front = take_at vs _ (length vs) refl

  pub over-rest : drop (length vs) (over 0 vs l) ≡ drop (length vs) l
  unfolding over
  over-rest = drop_at vs _ (length vs) refl ∙ rw zero-add
