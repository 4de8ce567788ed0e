-- Each way through a pack, as its definition has it.
use Rattle.std.specs.Prelude.{Ok, Err}
use mathlib.Core.Path.{◌≡◌, refl}
use Prim.Native.Nat.{ℕ, ◌≤◌, ◌<◌}
use mathlib.Core.List.{List, [], ◌∷◌, ◌++◌}
use mathlib.Core.Bool.{false, not}
use native.Mathlib.Omega.{arith}
use borrow.Author.Tests.{eq-eqb, ne_eqb, le-leb, lt-leb, lt-ltb, le-ltb}
use lib.ListN.{length}
use lib.Dec.{eqb, ltb}
use Rattle.lists.specs.Lists.{over}
use Rattle.answer.specs.Number.{no_tally, beside}
use Rattle.answer.specs.declared.tally.Tally.{Tally}
use Rattle.answer.specs.declared.Overflow.{Overflow}
use Rattle.answer.specs.declared.Refusal.{Refusal}
use Rattle.answer.specs.declared.Refusal.TheVariants as Refusal
use Rattle.model_orders.specs.Table.{placed, overflow}
use Rattle.model_orders.specs.Copies.{Arrangement, length_of}
use Rattle.model.specs.Judge.{most_copies, Test, refused, verdict, output_short, overflows}
use Rattle.model.specs.Session.{arranged_in, table_in}
use Rattle.model.proofs.Refusals.{Comes, this, next, verdict-is}
use Rattle.layout.specs.Words.{object_limit, link_limit, closed_count, open_depth}
use Rattle.work.specs.Areas.{work_need}
use Rattle.layout.specs.Decode.{decode}
use Rattle.layout.specs.Sound.{sound}
use Rattle.layout.specs.declared.state.State.{State}
use Rattle.steps.specs.Steps.{tally_in}
use Rattle.steps.specs.Pack.{PackOut, packed, cleared, clears, settle_pack_step, table_made, pack_by, pack_step}
use Rattle.steps.proofs.Held.{Held}

-- ---- the two tests left once the others passed, on an arrangement

module _ (b w : List ℕ) (c : Arrangement) (copies : ℕ) (out m : List ℕ) where
  abbrev pub rest : PackOut
  rest = pack_by (verdict (overflows c.outcome ++ (output_short (length out) (length_of c) ∷ []))) c copies b w out m

  pub over-told : {v : Overflow} → c.outcome ≡ overflow v → packed (Err (record { why = Refusal.Overflow v; tally = tally_in b w })) out (cleared copies w m) ≡ rest
  unfolding verdict
  over-told e = rw e

  module _ {o : List ℕ} (e : c.outcome ≡ placed o) where
    pub short-told : length out < length_of c → packed (Err (record { why = Refusal.OutputShort; tally = tally_in b w })) out (cleared copies w m) ≡ rest
    unfolding verdict
    short-told h = rw (e, lt-ltb (length out) (length_of c) h)

    pub placed-told : length_of c ≤ length out
        → packed (Ok (record { table = table_made c; tally = tally_in b w })) (over 0 (table_in (decode b w) c) out) (cleared copies w m) ≡ rest
    unfolding verdict
    placed-told h = rw (e, le-ltb (length out) (length_of c) h)

-- ---- the tests before

refused-packs : {ts : List Test} {why : Refusal} {t : Tally} (copies : ℕ) (b w out m : List ℕ) (done : PackOut) → Comes ts (refused why) → t ≡ beside why (tally_in b w) → clears why ≡ false
    → packed (Err (record { why = why; tally = t })) out m ≡ settle_pack_step (verdict ts) copies b w out m done
refused-packs copies b w out m done c e k = rw (verdict-is c, e, k)

pub pack-unsound : {t : Tally} (b w : List ℕ) (id copies : ℕ) (out m : List ℕ) → t ≡ no_tally → sound b w ≡ false
    → packed (Err (record { why = Refusal.Unsound; tally = t })) out m ≡ pack_step id copies b w out m
unfolding pack_step
pack-unsound b w id copies out m e h = refused-packs copies b w out m _ (this (rw h)) e refl

module _ {b w : List ℕ} {s : State} {t : Tally} (h : Held b w s t) (id copies : ℕ) (out m : List ℕ) where
  abbrev need : ℕ
  need = work_need s.objects s.links copies

  need-is : need ≡ work_need (object_limit w) (link_limit w) copies
  need-is = rw (h.counts.objects_is, h.counts.links_is)

  is_sound : not (sound b w) ≡ false
  is_sound = rw h.counts.is_sound

  pub pack-many : {z : Tally} → z ≡ no_tally → most_copies < copies → packed (Err (record { why = Refusal.OutOfRange; tally = z })) out m ≡ pack_step id copies b w out m
  unfolding pack_step
  pack-many e k = refused-packs copies b w out m _ (next is_sound (this (lt-ltb most_copies copies k))) e refl

  module _ (few : copies ≤ most_copies) where
    allowed : ltb most_copies copies ≡ false
    allowed = le-ltb most_copies copies few

    pub pack-little : {z : Tally} → z ≡ no_tally → length m < need → packed (Err (record { why = Refusal.OutOfRange; tally = z })) out m ≡ pack_step id copies b w out m
    unfolding pack_step
    pack-little e k = refused-packs copies b w out m _ (next is_sound (next allowed (this (lt-ltb (length m) _ (omega (arith, need-is, k)))))) e refl

    module _ (long : need ≤ length m) where
      enough : ltb (length m) (work_need (object_limit w) (link_limit w) copies) ≡ false
      enough = le-ltb (length m) _ (omega (arith, need-is, long))

      pub pack-open : 0 < t.depth → packed (Err (record { why = Refusal.ObjectOpen; tally = t })) out m ≡ pack_step id copies b w out m
      unfolding pack_step
      pack-open k = refused-packs copies b w out m _ (next is_sound (next allowed (next enough (this (rw (ne_eqb (open_depth w) 0 (λ e. omega arith))))))) h.tally_is refl

      module _ (none : t.depth ≤ 0) where
        idle : not (eqb (open_depth w) 0) ≡ false
        idle = rw (eq-eqb (open_depth w) 0 (omega arith))

        pub pack-unknown : t.objects ≤ id → packed (Err (record { why = Refusal.NotClosed; tally = t })) out m ≡ pack_step id copies b w out m
        unfolding pack_step
        pack-unknown k = refused-packs copies b w out m _ (next is_sound (next allowed (next enough (next idle (this (le-leb (closed_count w) id (omega arith))))))) h.tally_is refl

        -- the other tests passed
        pub pack-left : id < t.objects → rest b w (arranged_in (decode b w) id copies) copies out m ≡ pack_step id copies b w out m
        unfolding pack_step verdict
        pack-left known = rw (is_sound, allowed, enough, idle, lt-leb (closed_count w) id (omega arith))
