-- docs/RULES.md, section 8: every call of a list tells what the history says, whatever the calls are.
use mathlib.Core.Path.{◌≡◌, refl, ap, ◌∙◌}
use Prim.Native.Nat.{ℕ, ◌<◌}
use mathlib.Core.List.{List, [], ◌∷◌}
use mathlib.Core.Bool.{true, true≢false}
use native.Mathlib.Omega.{arith}
use lib.ListN.{length}
use borrow.Author.Tests.{leb-false, not-false}
use Rattle.lists.specs.Lists.{pick}
use Rattle.answer.specs.Number.{number, no_tally}
use Rattle.model_orders.specs.Bag.{count}
use Rattle.model_orders.specs.Object.{no_object, size_of, with_bytes, slot_ok, new_slot, with_link, hopeless_object}
use Rattle.model_orders.specs.Graph.{Graph, graph_of, reached}
use Rattle.model_orders.specs.Table.{Outcome, placed, overflow}
use Rattle.model_orders.specs.Copies.{Arrangement, length_of, placed_of, table_by}
use Rattle.model_orders.specs.Reading.{Reading, reading_at, readings}
use Rattle.model.specs.Judge.{Limits, Verdict, accepted, refused, no_tally_beside, judge_start, judge_open, judge_put, judge_link, judge_close, judge_drop, judge_tally, judge_pack}
use Rattle.model.specs.Told.{done_close, done_pack, refusal}
use Rattle.model.specs.Session.{Needs, Session, tally_of, started, with_opens, innermost, outer, on_innermost, twin, sealed, SessionCall, start_call, open_call, put_call, link_call, close_call, drop_call, tally_call, Left, settle_call, step, PackLeft, content, arranged_in, settle_pack, pack, Call, session_call, pack_call, after_call}
use Rattle.model.specs.History.{History, counts, begun, judged, accept, next, after, id_told, tell, expected, Packed, PackAgrees, Agrees, AllAgree}
use Rattle.model_orders.proofs.Reach.{reached-low}
use Rattle.model_orders.proofs.Lengths.{lengthened}
use Rattle.model_orders.proofs.Growths.{Base, objects-base}
use Rattle.model_orders.proofs.Arrangements.{arranged-reads, arranged-laid}
use Rattle.model_orders.proofs.Twins.{distinct-id, readings-count}
use Rattle.model_orders.proofs.Slots.{slot-start}
use Rattle.model.proofs.Verdicts.{passes, beside-number, refused-number}
use Rattle.model.proofs.Mirrors.{Mirrors, mirrors-started, mirrors-limits, mirrors-counts, mirrors-size, mirrors-hopeless, mirrors-acyclic, mirrors-fields, mirrors-twin, mirrors-open, mirrors-put, mirrors-link, mirrors-close, mirrors-drop}

-- ---- the calls on a session

-- a call that tells what the history says and leaves a session that mirrors the history after it
record Follows (n : Needs) (c : SessionCall) (h : History) (l : Left) : Type 0 where
  told : l.told ≡ expected n c h
  mirrors : Mirrors l.after (after n (session_call c) h)

-- an accepted call that tells id i and leaves s
abbrev left : ℕ → Session → Left
left i s = record { told = done_close i (tally_of s); after = s }

module _ (n : Needs) {s : Session} {h : History} (m : Mirrors s h) where
  -- so is every call that is judged alike, tells the same id and, where it is accepted, leaves what mirrors the history's change
  settled : (c : SessionCall) (v : Verdict) (i : ℕ) (new : Session) → v ≡ judged n c h → i ≡ id_told c h → (v ≡ accepted → Mirrors new (accept c h))
      → Follows n c h (settle_call v s (left i new))
  unfolding expected after
  settled c v i new e f k = record { told = rw (← e, ← f) (tells v k); mirrors = rw (← e) (keeps v k) }
    where
      tells : (v : Verdict) → (v ≡ accepted → Mirrors new (accept c h)) → (settle_call v s (left i new)).told ≡ tell v (counts h) (done_close i (counts (accept c h)))
      tells accepted k = ap (done_close i) (mirrors-counts (k refl))
      tells (refused why) k = ap (refusal why) (mirrors-counts m)

      keeps : (v : Verdict) → (v ≡ accepted → Mirrors new (accept c h)) → Mirrors (settle_call v s (left i new)).after (next v (accept c h) h)
      keeps accepted k = k refl
      keeps (refused why) k = m

  step_follows : (c : SessionCall) → Follows n c h (step n c s)
  unfolding step judged accept id_told
  step_follows (start_call l records) = settled (start_call l records) (judge_start l (n.records l) records) 0 (started l) refl refl (λ e. mirrors-started l)
  step_follows open_call = settled open_call (judge_open true (tally_of s)) 0 (with_opens (no_object ∷ s.opens) s) (cc (mirrors-counts m)) refl (λ e. mirrors-open m)
  step_follows (put_call vs) =
      settled (put_call vs) (judge_put true s.limits (tally_of s) (length vs)) 0 (on_innermost (with_bytes vs) s) (cc (mirrors-counts m, mirrors-limits m)) refl (λ e. mirrors-put m vs)
  step_follows (link_call w id i) =
      let slot = new_slot (size_of (innermost s.opens)) w i in
      settled (link_call w id i) (judge_link true s.limits (tally_of s) slot id) 0 (on_innermost (with_link w id i) s) (cc (mirrors-counts m, mirrors-limits m, mirrors-size m)) refl
      (λ e. mirrors-link m w id i (leb-false (length s.closed) id (passes _ e 3)) (slot-start slot (not-false (slot_ok slot) (passes _ e 2))))
  step_follows close_call =
      settled close_call (judge_close true s.limits (tally_of s) (size_of (innermost s.opens)) (hopeless_object (innermost s.opens)) (twin s)) (twin s) (sealed s)
      (cc (mirrors-counts m, mirrors-limits m, mirrors-size m, mirrors-hopeless m, mirrors-twin m)) (mirrors-twin m) (λ e. mirrors-close m)
  step_follows drop_call = settled drop_call (judge_drop true (tally_of s)) 0 (with_opens (outer s.opens) s) (cc (mirrors-counts m)) refl (λ e. mirrors-drop m)
  step_follows tally_call = settled tally_call (judge_tally true) 0 s refl refl (λ e. m)

-- ---- pack

module _ {s : Session} {h : History} (m : Mirrors s h) (id copies : ℕ) where
  abbrev g : Graph
  g = graph_of s.closed

  abbrev ρ : ℕ → Reading
  ρ i = reading_at (readings s.closed) i

  abbrev c : Arrangement
  c = arranged_in s id copies

  -- an accepted pack that leaves table t
  abbrev packing : List ℕ → PackLeft
  packing t = record { told = done_pack (length_of c) (length c.grown.copies) (placed_of c) (tally_of s); table = t }

  base : Base g (content s) ρ (length s.closed)
  base = objects-base s.closed (mirrors-acyclic m) (mirrors-fields m)

  -- reached objects that read the same are the same
  reached-id : id < length s.closed → (a b : ℕ) → 0 < count a (reached g id) → 0 < count b (reached g id) → ρ a ≡ ρ b → a ≡ b
  reached-id k a b x y =
      let e = readings-count s.closed in
      distinct-id (readings s.closed) m.distinct a b (omega (arith, reached-low g id a x)) (omega (arith, reached-low g id b y))

  -- the table of an order in which every link fits
  placed-packed : id < length s.closed → (o : List ℕ) → c.outcome ≡ placed o → Packed h id (packing (table_by (content s) c.grown (placed o)))
  placed-packed k o e =
      let v = (arranged-reads copies g (length s.closed) id base k e).grew in
      let l = arranged-laid copies g (length s.closed) id base k e in
      rw (← m.read) record { shown = rw v.root-own at l.shown; long = l.sum; sum = lengthened base c v (reached-id k) }

  pack-agrees : (n : Needs) (out work : ℕ) → PackAgrees h id (pack n id copies out work s)
  unfolding pack
  pack-agrees n out work = settled-pack (verdict_on c.outcome) (table_by (content s) c.grown c.outcome) (fits c.outcome refl)
    where
      verdict_on : Outcome → Verdict
      verdict_on u = judge_pack true (tally_of s) id copies work (n.work s.limits copies) out (length_of c) u

      fits : (u : Outcome) → c.outcome ≡ u → verdict_on u ≡ accepted → Packed h id (packing (table_by (content s) c.grown u))
      fits (placed o) e v = placed-packed (leb-false (length s.closed) id (passes _ v 4)) o e
      fits (overflow u) e v = absurd (true≢false (passes _ v 5))

      settled-pack : (v : Verdict) (t : List ℕ) → (v ≡ accepted → Packed h id (packing t)) → PackAgrees h id (settle_pack v s (packing t))
      settled-pack accepted t k = record { counted = mirrors-counts m; packed = λ e. k refl }
      settled-pack (refused why) t k = record {
        counted = beside-number why (tally_of s) ∙ ap (pick (no_tally_beside (number why)) no_tally) (mirrors-counts m);
        packed = λ e. absurd (omega (arith, refused-number why));
      }

-- ---- every call, and a list of calls

module _ (n : Needs) {s : Session} {h : History} (m : Mirrors s h) where
  pub call-agrees : (c : Call) → Agrees n c s h
  unfolding Agrees
  call-agrees (session_call c) = (step_follows n m c).told
  call-agrees (pack_call id copies out work) = pack-agrees m id copies n out work

  pub call-mirrors : (c : Call) → Mirrors (after_call n c s) (after n c h)
  unfolding after_call after
  call-mirrors (session_call c) = (step_follows n m c).mirrors
  call-mirrors (pack_call id copies out work) = m

mirrors-agree : (n : Needs) (cs : List Call) {s : Session} {h : History} → Mirrors s h → AllAgree n cs s h
unfolding AllAgree
mirrors-agree n [] m = tt
mirrors-agree n (c ∷ cs) m = (call-agrees n m c, mirrors-agree n cs (call-mirrors n m c))

-- from what an accepted start left
pub agreement : (n : Needs) (m : Limits) (cs : List Call) → AllAgree n cs (started m) (begun m)
agreement n m cs = mirrors-agree n cs (mirrors-started m)
