-- A pack on sound stores with work memory for their limits goes as the abstract pack does.
use mathlib.Core.Path.{◌≡◌, sym, ap, ◌∙◌}
use Prim.Native.Nat.{ℕ, ◌≤◌}
use mathlib.Core.List.{List}
use mathlib.Core.Bool.{true}
use borrow.Author.Tests.{le-ltb}
use lib.ListN.{length}
use Rattle.lists.specs.Lists.{over}
use Rattle.lists.proofs.Runs.{over_none}
use Rattle.answer.specs.Answers.{Packing}
use Rattle.model_orders.specs.Copies.{Arrangement, length_of, placed_of}
use Rattle.model.specs.Judge.{Verdict, accepted, refused, verdict, judge_pack}
use Rattle.model.specs.Told.{done_pack, refusal, told_by_pack}
use Rattle.model.specs.Session.{Session, tally_of, arranged_in, table_in, PackLeft, settle_pack, pack}
use Rattle.layout.specs.Words.{object_limit, link_limit}
use Rattle.layout.specs.Decode.{decode}
use Rattle.layout.specs.Sound.{sound}
use Rattle.work.specs.Areas.{work_need}
use Rattle.steps.specs.Steps.{tally_in}
use Rattle.steps.proofs.Tallies.{tally-decode}
use Rattle.steps.specs.Pack.{PackOut, packed, pack_by, pack_step}
use Rattle.job_rules.specs.Job.{no_needs, copies_allowed}

pub record PacksAs (id : ℕ) (b w : List ℕ) (r : Packing) (out out' : List ℕ) : Type 0 where
  pub told : told_by_pack r ≡ (pack no_needs id copies_allowed (length out) 0 (decode b w)).told
  pub written : out' ≡ over 0 (pack no_needs id copies_allowed (length out) 0 (decode b w)).table out

module _ (b w : List ℕ) (h : sound b w ≡ true) (id : ℕ) (out work : List ℕ) (long : work_need (object_limit w) (link_limit w) copies_allowed ≤ length work) where
  abbrev a : Session
  a = decode b w

  abbrev c : Arrangement
  c = arranged_in a id copies_allowed

  abbrev done : PackLeft
  done = record { told = done_pack (length_of c) (length c.grown.copies) (placed_of c) (tally_of a); table = table_in a c }

  abbrev verdict_on : Verdict
  verdict_on = judge_pack (sound b w) (tally_in b w) id copies_allowed (length work) (work_need (object_limit w) (link_limit w) copies_allowed) (length out) (length_of c) c.outcome

  -- enough work memory is no matter
  same-verdict : judge_pack true (tally_of a) id copies_allowed 0 0 (length out) (length_of c) c.outcome ≡ verdict_on
  unfolding verdict
  same-verdict =
      sym (rw (le-ltb (length work) (work_need (object_limit w) (link_limit w) copies_allowed) long)
      (λ i. judge_pack (h i) (tally-decode b w h i) id copies_allowed 0 0 (length out) (length_of c) c.outcome))

  settled : (v : Verdict) {r : Packing} {out' m' : List ℕ} → packed r out' m' ≡ pack_by v c copies_allowed b w out work
      → (told_by_pack r ≡ (settle_pack v a done).told) × (out' ≡ over 0 (settle_pack v a done).table out)
  settled accepted e = (
    ap (λ (x : PackOut). told_by_pack x.answer) e ∙ ap (done_pack (length_of c) (length c.grown.copies) (placed_of c)) (tally-decode b w h),
    ap (λ (x : PackOut). x.out) e,
  )
  settled (refused why) e = (
    ap (λ (x : PackOut). told_by_pack x.answer) e ∙ ap (refusal why) (tally-decode b w h),
    ap (λ (x : PackOut). x.out) e ∙ sym (over_none 0 out),
  )

  pub packs-as : {r : Packing} {out' m' : List ℕ} → packed r out' m' ≡ pack_step id copies_allowed b w out work → PacksAs id b w r out out'
  unfolding pack_step pack
  packs-as e =
      let s = settled verdict_on e in
      record { told = rw same-verdict s.0; written = rw same-verdict s.1 }
