-- What pack asks for its graph, and the needed words cleared behind it.
use mathlib.Core.Path.{◌≡◌, ap, ◌∙◌}
use Prim.Native.Nat.{ℕ, ◌+◌, ◌*◌, ◌≤◌, ◌<◌}
use mathlib.Core.List.{List}
use native.Mathlib.Omega.{arith}
use native.Mathlib.Nat.{mul-add, mul_comm}
use lib.ListN.{length, replicate, length-replicate}
use Rattle.lists.specs.Lists.{over}
use Rattle.regions.specs.Region.{Kept}
use Rattle.answer.specs.declared.tally.Tally.{Tally}
use Rattle.answer.specs.Answers.{Packing}
use Rattle.model.specs.Judge.{most_copies}
use Rattle.layout.specs.Words.{object_limit, link_limit}
use Rattle.layout.specs.Known.{Read}
use Rattle.layout.specs.declared.state.State.{State}
use Rattle.steps.specs.Pack.{packed, cleared, pack_step}
use Rattle.steps.proofs.Held.{Held}
use Rattle.steps.proofs.Packs.{pack-left}
use Rattle.work.specs.Areas.{areas_for, work_need, areas-apart}
use Rattle.work.specs.declared.Areas.{Areas}
use Rattle.pack_copy.specs.Copy.{AreasFor}
use Rattle.pack_graph.specs.Packable.{Packable, Answered}

areas-for : {b w : List ℕ} {s : State} (copies : ℕ) → copies ≤ most_copies → Read b w s → AreasFor w (areas_for s.objects s.links copies)
areas-for {s = s} copies few r =
    record {
      apart = areas-apart (s.objects + copies) (s.links * (copies + 1)) copies;
      few = few;
      nodes = omega (arith, r.objects_is);
      words = rw (← r.links_is) (omega (arith, mul-add s.links copies 1, mul_comm s.links copies));
    }

module _ {b w : List ℕ} {s : State} {t : Tally} {a : Areas} {copies : ℕ} (h : Held b w s t) (few : copies ≤ most_copies) (e : a ≡ areas_for s.objects s.links copies) where
  pub packable : {id : ℕ} {m : List ℕ} → a.end ≤ length m → id < t.objects → Packable b w s t a id m
  packable long known = record { read = h.counts; tally = h.tally_is; areas = rw e (areas-for copies few h.counts); known = omega arith; long = long }

  allowed : a.copies ≡ copies
  allowed = ap (λ (x : Areas). x.copies) e

  cleared-again : {m m' m'' : List ℕ} → Kept 0 a.end m m' → m'' ≡ over 0 (replicate a.end 0) m' → m'' ≡ cleared copies w m
  unfolding over
  cleared-again k q =
      let n = work_need (object_limit w) (link_limit w) copies in
      let size : a.end ≡ n = rw (e, h.counts.objects_is, h.counts.links_is) in
      let z : 0 + n ≡ n = omega arith in
      q ∙ rw (size, length-replicate {A = ℕ} n 0, z, rw size at k.back)

  pub pack-done : {r : Packing} {id : ℕ} {out out' m m' m'' : List ℕ} → a.end ≤ length m → t.depth ≤ 0 → id < t.objects → Answered b w a id r out out' m m'
      → m'' ≡ over 0 (replicate a.end 0) m' → packed r out' m'' ≡ pack_step id copies b w out m
  pack-done {id = id} {out = out} {m = m} long none known p q =
      rw (cleared-again p.kept q) (rw allowed at p.told) ∙ pack-left h id copies out m few (rw e at long) none known
