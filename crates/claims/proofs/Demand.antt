-- After an accepted start, for every list of calls: the stores agree with the history before and after each, and each is as the history says.
use mathlib.Core.Path.{◌≡◌, refl, sym, ap, subst, ◌∙◌}
use Prim.Native.Nat.{ℕ}
use mathlib.Core.List.{List, [], ◌∷◌}
use native.Mathlib.Omega.{arith}
use lib.ListN.{length}
use Rattle.lists.proofs.Whole.{over-front, over-rest}
use Rattle.model_orders.specs.Reading.{Reading, readings}
use Rattle.model.specs.Judge.{Verdict, accepted, refused, verdict}
use Rattle.model.specs.Told.{Told, done_close}
use Rattle.model.specs.Session.{SessionCall, close_call, session_call, pack_call, PackLeft, step, after_call}
use Rattle.model.specs.History.{History, history_of, innermost_reading, id_of, counts, begun, judged, accept, after, after_all, tell, id_told, expected, AllDifferent, PackAgrees, Alike, Agrees}
use Rattle.model.proofs.Verdicts.{refused-number}
use Rattle.model.proofs.Closings.{Known, known_alike, known-closed, known-all}
use Rattle.model_orders.proofs.Twins.{distinct-id}
use Rattle.model.proofs.Mirrors.{mirrors-started}
use Rattle.model.proofs.Agreement.{call-agrees, call-mirrors}
use Rattle.work.specs.Areas.{work_need}
use Rattle.steps.specs.Steps.{limits_of}
use Rattle.steps.specs.Pack.{PackOut}
use Rattle.steps.specs.Runs.{start, close, tally, Stores, step_on, LentCall, on_stores, pack as pack_on, LentLeft, lent_step, left_by_pack, as_call}
use Rattle.steps.proofs.Steps.{step-drawn, start-drawn}
use Rattle.steps.proofs.Runs.{never-unsound}
use Rattle.steps.proofs.Mirrored.{Holding}
use Rattle.claims.specs.Demand.{needs, Made, run, PackClaim, Closes, as_lent, after_one, Agree, Claim, KeepsId, AllClaim}
use Rattle.claims.proofs.Packs.{PackFollows, pack-follows}

-- ---- pack: the table in front of the output

pack-claim : {h : History} {id : ℕ} {out : List ℕ} {o : PackOut} {m : PackLeft} (s : Stores) → PackFollows out o m → PackAgrees h id m
    → PackClaim h id out (left_by_pack s o)
pack-claim {h = h} {id = id} {out = out} {o = o} {m = m} s f g = rw f.told record {
  counted = g.counted;
  table = λ e.
      let p = g.packed e in
      let t = m.table in
      rw (f.written e, ← p.long) record {
        room = f.room e;
        shown = rw (over-front t out) p.shown;
        rest = over-rest t out;
        sum = rw p.long p.sum;
      };
  untouched = f.untouched;
}

-- ---- every call

module _ (bytes words : ℕ) where
  record Claimed (c : LentCall) (s : Stores) (h : History) : Type 0 where
    trusted : (lent_step c s).told.number ≡ 12 → ⊥
    claim : Claim bytes words c h (lent_step c s)
    stands : Holding bytes words (lent_step c s).stores (after_one bytes words c h)

  claimed : (c : LentCall) {s : Stores} {h : History} → Holding bytes words s h → Claimed c s h
  unfolding lent_step as_lent after_all Claim Agrees after_call
  claimed (on_stores c) {s = s} k =
      let f = rw (k.same_bytes, k.same_words) at (step-drawn (λ m copies. work_need m.objects m.links copies) c s k.session k.drawn) in
      let d = session_call (as_call bytes words c) in
      record {
        trusted = λ z. never-unsound needs (as_call bytes words c) k.session (rw f.told at z);
        claim = f.told ∙ call-agrees needs k.mirrors d;
        stands = record {
          session = (step needs (as_call bytes words c) k.session).after;
          drawn = f.drawn;
          mirrors = call-mirrors needs k.mirrors d;
          same_bytes = f.same_bytes ∙ k.same_bytes;
          same_words = f.same_words ∙ k.same_words;
        };
      }
  claimed (pack_on id copies out work) {s = s} k =
      let f = pack-follows id copies s k.session out work k.drawn in
      let d = pack_call id copies (length out) (length work) in
      record {
        trusted = λ z. f.trusted (rw f.told at z);
        claim = pack-claim s f (call-agrees needs k.mirrors d);
        stands = record { session = k.session; drawn = k.drawn; mirrors = call-mirrors needs k.mirrors d; same_bytes = k.same_bytes; same_words = k.same_words };
      }

  pub holding-step : (c : LentCall) {s : Stores} {h : History} → Holding bytes words s h → Holding bytes words (lent_step c s).stores (after_one bytes words c h)
  holding-step c k = (claimed c k).stands

  stands-agree : {s : Stores} {h : History} → Holding bytes words s h → Agree bytes words s h
  unfolding lent_step Claim as_call expected judged verdict id_told accept AllDifferent
  stands-agree {s = s} k = record {
    same_bytes = k.same_bytes;
    same_words = k.same_words;
    is_sound = k.drawn.is_sound;
    counted = (claimed (on_stores tally) k).claim;
    objects = ap history_of k.drawn.holds ∙ k.mirrors.read;
    apart = rw (← k.mirrors.read) (distinct-id (readings k.session.closed) k.mirrors.distinct);
  }

-- ---- ids

-- a session call that tells 0 is accepted by the history
told-done : (c : SessionCall) (h : History) → (expected needs c h).number ≡ 0 → judged needs c h ≡ accepted
unfolding expected
told-done c h = go (judged needs c h)
  where
    go : (v : Verdict) → (tell v (counts h) (done_close (id_told c h) (counts (accept c h)))).number ≡ 0 → v ≡ accepted
    go accepted e = refl
    go (refused why) e = absurd (omega (arith, refused-number why))

module _ (bytes words : ℕ) where
  -- an accepted close is the history's, and tells its id
  closed-told : (h : History) {m : Made} → Claim bytes words m.call h m.left → Closes m → (judged needs close_call h ≡ accepted) × (m.left.told.id ≡ id_of h)
  unfolding Claim as_call expected id_told
  closed-told h {m} k c =
      let t : m.left.told ≡ expected needs close_call h = rw c.close-is at k in
      let e = told-done close_call h (rw t at c.accepted) in
      (e, ap (λ (x : Told). x.id) t ∙ rw e)

  -- after it the object's reading is known by that id
  closed-known : (h : History) (c : LentCall) {l : LentLeft} → Claim bytes words c h l → Closes (record { call = c; left = l })
      → Known (innermost_reading h.opens) l.told.id (after_one bytes words c h).closed
  unfolding after_all after as_lent as_call accept
  closed-known h c k z = let t = closed-told h k z in rw (z.close-is, t.0, t.1) (known-closed h)

  keeps-id : {r : Reading} {i : ℕ} (cs : List LentCall) {s : Stores} {h : History} → Holding bytes words s h → Known r i h.closed → KeepsId bytes words r i (run cs s) h
  unfolding KeepsId run
  keeps-id [] k q = tt
  keeps-id {r} {i} (c ∷ cs) {h = h} k q =
      let l = claimed bytes words c k in
      (λ z. subst (λ j. Alike (innermost_reading h.opens) r j i) (sym (closed-told h l.claim z).1) (known_alike q (innermost_reading h.opens)), λ n. keeps-id cs l.stands (known-all needs _ h n q))

  -- ---- a list of calls

  pub all-claim : (cs : List LentCall) {s : Stores} {h : History} → Holding bytes words s h → AllClaim bytes words (run cs s) s h
  unfolding AllClaim run
  all-claim [] k = stands-agree bytes words k
  all-claim (c ∷ cs) {h = h} k =
      let l = claimed bytes words c k in
      (stands-agree bytes words k, l.trusted, l.claim, λ z. keeps-id cs l.stands (closed-known h c l.claim z), all-claim cs l.stands)

-- an accepted start leaves stores that hold the history that it begins
pub holding-start : (objects links : ℕ) (s : Stores) → (step_on (start objects links) s).told.number ≡ 0
    → Holding (length s.bytes) (length s.words) (step_on (start objects links) s).stores (begun (limits_of objects links s.bytes))
holding-start objects links s e =
    let f = start-drawn objects links s e in
    record { session = _; drawn = f.drawn; mirrors = mirrors-started (limits_of objects links s.bytes); same_bytes = f.same_bytes; same_words = f.same_words }

-- from what an accepted start left
pub demand-3 : (objects links : ℕ) (s : Stores) → (step_on (start objects links) s).told.number ≡ 0 → (cs : List LentCall)
    → let s₁ = (step_on (start objects links) s).stores in AllClaim (length s.bytes) (length s.words) (run cs s₁) s₁ (begun (limits_of objects links s.bytes))
demand-3 objects links s e cs = all-claim (length s.bytes) (length s.words) cs (holding-start objects links s e)
