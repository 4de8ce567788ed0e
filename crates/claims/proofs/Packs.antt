-- A pack on stores that hold a session tells what the abstract pack tells; an accepted one leaves the abstract table in front of the output.
use Rattle.std.specs.Prelude.{Ok}
use mathlib.Core.Path.{◌≡◌, refl, ap, subst}
use Prim.Native.Nat.{ℕ, ◌≤◌, ◌<◌}
use mathlib.Core.List.{List}
use mathlib.Core.Bool.{true, true≢false}
use native.Mathlib.Omega.{arith}
use borrow.Author.Tests.{ltb-false, leb-false}
use lib.ListN.{length}
use Rattle.lists.specs.Lists.{over}
use Rattle.answer.specs.Number.{number}
use Rattle.answer.specs.declared.Refusal.{Refusal}
use Rattle.model_orders.specs.Graph.{Graph, graph_of, Ranked}
use Rattle.model_orders.specs.Reading.{reading_at, readings}
use Rattle.model_orders.specs.Table.{Outcome, placed, overflow, Fields}
use Rattle.model_orders.specs.Copies.{Arrangement, length_of, placed_of, table_by}
use Rattle.model.specs.Judge.{Verdict, accepted, refused, judge_pack}
use Rattle.model.specs.Told.{done_pack, refusal, told_by_pack}
use Rattle.model.specs.Session.{Session, tally_of, PackLeft, content, arranged_in, settle_pack, pack}
use Rattle.model_orders.specs.Laid.{LaidOut}
use Rattle.model_orders.proofs.Growths.{Base, objects-base}
use Rattle.model_orders.proofs.Arrangements.{arranged-count, arranged-laid}
use Rattle.model.proofs.Verdicts.{passes, refused-number}
use Rattle.model.proofs.Fair.{fair, fair-verdict}
use Rattle.layout.specs.Words.{object_limit, link_limit}
use Rattle.layout.specs.Decode.{decode}
use Rattle.layout.specs.Sound.{sound}
use Rattle.steps.specs.Runs.{Stores, Drawn}
use Rattle.steps.specs.Steps.{tally_in}
use Rattle.steps.proofs.Tallies.{tally-decode, limits-decode}
use Rattle.work.specs.Areas.{work_need}
use Rattle.steps.specs.Pack.{PackOut, packed, cleared, settle_pack_step, table_made, pack_step}
use Rattle.claims.specs.Demand.{needs}
use Rattle.steps.proofs.Formed.{sound-formed}

-- a pack over an output that held `out`; 12 is never told
pub record PackFollows (out : List ℕ) (o : PackOut) (m : PackLeft) : Type 0 where
  pub told : told_by_pack o.answer ≡ m.told
  pub trusted : m.told.number ≡ 12 → ⊥
  pub written : m.told.number ≡ 0 → o.out ≡ over 0 m.table out
  pub long : m.told.number ≡ 0 → length m.table ≡ m.told.length
  pub room : m.told.number ≡ 0 → length m.table ≤ length out
  pub untouched : (m.told.number ≡ 0 → ⊥) → o.out ≡ out

module _ (b w : List ℕ) (h : sound b w ≡ true) (id copies : ℕ) where
  abbrev a : Session
  a = decode b w

  abbrev g : Graph
  g = graph_of a.closed

  abbrev c : Arrangement
  c = arranged_in a id copies

  pub base : Base g (content a) (reading_at (readings a.closed)) (length a.closed)
  base = let formed = sound-formed b w h in objects-base a.closed (unfold Ranked in λ p c k. (formed p).low c k) (unfold Fields in λ i. (formed i).inside)

  -- the layout theorem for the order that is placed
  pub placed-laid : id < length a.closed → {o : List ℕ} → c.outcome ≡ placed o
      → LaidOut c.grown.graph c.grown.line id (λ i. reading_at (readings a.closed) (c.grown.origin i)) o (table_by (content a) c.grown (placed o))
  placed-laid k e = arranged-laid copies g (length a.closed) id base k e

  pub placed-count : id < length a.closed → {o : List ℕ} → c.outcome ≡ placed o → length o ≡ placed_of c
  placed-count k e = arranged-count copies g (length a.closed) id base k e

  module _ (out work : List ℕ) where
    -- the abstract verdict on an outcome
    abbrev verdict_on : Outcome → Verdict
    verdict_on u = judge_pack true (tally_of a) id copies (length work) (needs.work a.limits copies) (length out) (length_of c) u

    table-long : (u : Outcome) → c.outcome ≡ u → verdict_on u ≡ accepted → length (table_by (content a) c.grown u) ≡ length_of c
    table-long (placed o) e v = (placed-laid (leb-false (length a.closed) id (passes _ v 4)) e).sum
    table-long (overflow u) e v = absurd (true≢false (passes _ v 5))

    table_fits : (u : Outcome) → verdict_on u ≡ accepted → length_of c ≤ length out
    table_fits (placed o) v = ltb-false _ _ (passes _ v 5)
    table_fits (overflow u) v = absurd (true≢false (passes _ v 5))

    never-unsound : (u : Outcome) (why : Refusal) → verdict_on u ≡ refused why → number why ≡ 12 → ⊥
    unfolding fair
    never-unsound (placed o) = fair-verdict _ refl
    never-unsound (overflow u) = fair-verdict _ refl

    same-verdict : (u : Outcome)
        → judge_pack (sound b w) (tally_in b w) id copies (length work) (work_need (object_limit w) (link_limit w) copies) (length out) (length_of c) u ≡ verdict_on u
    same-verdict u =
        let limits = limits-decode b w in
        λ i. judge_pack (h i) (tally-decode b w h i) id copies (length work) (work_need (limits i).objects (limits i).links copies) (length out) (length_of c) u

    -- by a verdict, on a table t
    settled : (v : Verdict) (t : List ℕ) → (v ≡ accepted → length t ≡ length_of c) → (v ≡ accepted → length_of c ≤ length out)
        → ((why : Refusal) → v ≡ refused why → number why ≡ 12 → ⊥)
        → PackFollows out (settle_pack_step v copies b w out work (packed (Ok (record { table = table_made c; tally = tally_in b w })) (over 0 t out) (cleared copies w work)))
        (settle_pack v a (record { told = done_pack (length_of c) (length c.grown.copies) (placed_of c) (tally_of a); table = t }))
    settled accepted t long fits other = record {
      told = ap (done_pack (length_of c) (length c.grown.copies) (placed_of c)) (tally-decode b w h);
      trusted = λ e. omega arith;
      written = λ e. refl;
      long = λ e. long refl;
      room = λ e. omega (arith, long refl, fits refl);
      untouched = λ n. absurd (n refl);
    }
    settled (refused why) t long fits other = record {
      told = ap (refusal why) (tally-decode b w h);
      trusted = other why refl;
      written = λ e. absurd (omega (arith, refused-number why));
      long = λ e. absurd (omega (arith, refused-number why));
      room = λ e. absurd (omega (arith, refused-number why));
      untouched = λ n. refl;
    }

    pub sound-pack : PackFollows out (pack_step id copies b w out work) (pack needs id copies (length out) (length work) a)
    unfolding pack_step pack
    sound-pack =
        let u = c.outcome in
        rw (same-verdict u) (settled (verdict_on u) (table_by (content a) c.grown u) (table-long u refl) (table_fits u) (never-unsound u))

pub pack-follows : (id copies : ℕ) (s : Stores) (a : Session) (out work : List ℕ) → Drawn s a
    → PackFollows out (pack_step id copies s.bytes s.words out work) (pack needs id copies (length out) (length work) a)
pack-follows id copies s a out work d =
    subst (λ x. PackFollows out (pack_step id copies s.bytes s.words out work) (pack needs id copies (length out) (length work) x)) d.holds
    (sound-pack s.bytes s.words d.is_sound id copies out work)
