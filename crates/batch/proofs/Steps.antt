-- What a batch comes to: refused as a whole, or its calls run, their ids told, and the index cleared.
use mathlib.Core.Path.{◌≡◌, sym, ap, ◌∙◌}
use mathlib.Core.Bool.{false}
use Prim.Native.Nat.{ℕ, ◌+◌, ◌-◌, ◌≤◌, ◌<◌}
use mathlib.Core.List.{List, ◌++◌}
use native.Mathlib.Omega.{arith}
use borrow.Author.Tests.{lt-ltb, le-ltb}
use lib.ListN.{length, take, drop, replicate, length-replicate, take-append-drop}
use lib.Seq.{length-take-le, drop_at}
use Rattle.lists.specs.Lists.{over}
use Rattle.answer.specs.declared.tally.Tally.{Tally}
use Rattle.answer.specs.declared.Refusal.TheVariants as Refusal
use Rattle.model.specs.Judge.{verdict}
use Rattle.layout.specs.Words.{object_limit}
use Rattle.layout.specs.Sound.{sound}
use Rattle.layout.specs.Known.{Read}
use Rattle.layout.specs.declared.state.State.{State}
use Rattle.steps.specs.Steps.{tally_in}
use Rattle.steps.specs.Runs.{stores}
use Rattle.steps.specs.Mirrored.{by_stores}
use Rattle.session_batch.specs.Batch.{begun, carried, batch_need, batch_left, batch_done, batch_step}
use Rattle.session_batch_turn.specs.Turn.{lent}
use Rattle.batch.specs.declared.Ran.{Ran}
use Rattle.batch.specs.declared.Batched.{Batched}
use Rattle.batch.specs.Batch.{RanBy, told_by_batch, refused_at}

-- ids told in front, and the words behind them as they were
over-told : (told : ℕ) (ids ids' : List ℕ) → told ≤ length ids' → drop told ids' ≡ drop told ids → over 0 (take told ids') ids ≡ ids'
unfolding over
over-told told ids ids' h e =
    let z : 0 + told ≡ told = omega arith in
    rw (length-take-le told ids' h, z, ← e) (take-append-drop told ids')

-- what was written in front is cleared as what stood there
lent-cleared : (n : ℕ) (m work : List ℕ) → length m ≡ n → over 0 (replicate n 0) (m ++ drop n work) ≡ over 0 (replicate n 0) work
unfolding over
lent-cleared n m work e =
    let z : 0 + n ≡ n = omega arith in
    rw (length-replicate {A = ℕ} n 0, z, drop_at m (drop n work) n e)

module _ (calls bytes ids work : List ℕ) {b w : List ℕ} where
  pub batch-unsound : {r : Batched} → r ≡ refused_at Refusal.Unsound → sound b w ≡ false → batch_left (told_by_batch r) b w ids work ≡ batch_step calls bytes ids work (stores b w)
  unfolding batch_step verdict
  batch-unsound e h = rw (e, h)

  module _ {s : State} (k : Read b w s) {n : ℕ} (need : n ≡ batch_need s.objects) where
    need-is : n ≡ batch_need (object_limit w)
    need-is = need ∙ ap (λ o. batch_need o) k.objects_is

    pub batch-short : {r : Batched} → r ≡ refused_at Refusal.OutOfRange → length work < n → batch_left (told_by_batch r) b w ids work ≡ batch_step calls bytes ids work (stores b w)
    unfolding batch_step verdict
    batch-short e h = rw (e, k.is_sound, lt-ltb (length work) (batch_need (object_limit w)) (omega (arith, need-is)))

    accepted-is : n ≤ length work → batch_step calls bytes ids work (stores b w) ≡ batch_done ids work n (carried by_stores (length calls) (length ids) (begun calls bytes (stores b w)))
    unfolding batch_step verdict
    accepted-is h = rw (k.is_sound, le-ltb (length work) (batch_need (object_limit w)) (omega (arith, need-is)), need-is)

    pub batch_run : {b' w' ids' m m' work' : List ℕ} {r : Ran} {t : Tally} → n ≤ length work → RanBy calls bytes (lent b w ids m) r (lent b' w' ids' m') → length m' ≡ n → t ≡ tally_in b' w'
        → work' ≡ over 0 (replicate (n - 0) 0) (m' ++ drop n work) → batch_left (told_by_batch (record { ending = r.ending; tally = t; calls = r.calls; told = r.told })) b' w' ids' work' ≡ batch_step calls bytes ids work (stores b w)
    batch_run {ids' = ids'} {m' = m'} {r = r} h x e f g =
        let z : n - 0 ≡ n = omega arith in
        sym (accepted-is h ∙ ap (batch_done ids work n) x.is
        ∙ rw (length-take-le r.told ids' x.in_ids, over-told r.told ids ids' x.in_ids x.stands, ← lent-cleared n m' work e, f, g, z))
