-- A walk's moves are its ops.
use Rattle.std.specs.Prelude.{Ok, Err}
use mathlib.Core.Path.{◌≡◌, refl, sym, ap, subst, ◌∙◌}
use Prim.Native.Nat.{ℕ, suc, ◌+◌, ◌-◌, ◌≤◌, ◌<◌}
use mathlib.Core.List.{List, [], ◌∷◌, ◌++◌}
use mathlib.Core.Bool.{Bool, true, false}
use native.Mathlib.Omega.{arith}
use lib.ListN.{length}
use Rattle.answer.specs.declared.ObjectId.{ObjectId}
use Rattle.layout.specs.Sound.{sound}
use Rattle.steps.specs.Runs.{Stores}
use Rattle.steps.specs.Mirrored.{by_stores}
use Rattle.gsub.specs.Ops.{Op, begin, end, fields_ops, perform}
use Rattle.gsub.specs.Meaning.{deepest}
use Rattle.gsub.specs.Promote.{new_bytes}
use Rattle.gsub_walk.specs.declared.walk.Walk.{Walk}
use Rattle.gsub_walk.specs.declared.walk.Frame.{Frame}
use Rattle.gsub_walk.specs.declared.walk.Move.{Move}
use Rattle.gsub_walk.specs.Rest.{bytes_of, place_of, fields_left, child_ops, link_ops, rest, rest_of, Standing, MovesBy}
use Rattle.gsub_walk.proofs.Stacks.{standing-is}
use Rattle.gsub_walk.proofs.Moving.{done-rest}
use Rattle.gsub_read.specs.declared.answers.Unread.{Unread}
use Rattle.gsub_read.specs.declared.answers.Unread.TheVariants.{BadTable}
use Rattle.gsub_read.specs.Answers.{Performed}
use Rattle.gsub_read.specs.Perform.{PerformedBy, ops_of, MoveOk, RanBy}

-- ---- each move as it is made

module _ (b : List ℕ) {m : Move} where
  pub by_move : {n : Move} {i : ℕ} {s t : Stores} {r : Performed} → m ≡ n → PerformedBy (ops_of b n) i s r t → PerformedBy (ops_of b m) i s r t
  by_move {i = i} {s = s} {t = t} {r = r} e p = subst (λ x. PerformedBy (ops_of b x) i s r t) (sym e) p

  module _ (i : ObjectId) {s : Stores} (h : sound s.bytes s.words ≡ true) where
    pub stop-performed : (p : ℕ) → m ≡ Move.Stop p → PerformedBy (ops_of b m) i.0 s (Err (BadTable p)) s
    unfolding perform
    stop-performed p e = by_move e (record { made = λ ops. refl; stays = h })

    pub done-performed : m ≡ Move.Done → PerformedBy (ops_of b m) i.0 s (Ok i) s
    done-performed e = by_move e (record { made = λ ops. refl; stays = h })

  pub put-ok : (at width : ℕ) → m ≡ Move.Put at width → MoveOk b m → at + width ≤ length b
  unfolding MoveOk
  put-ok at width e h = rw e at h

  pub new_ok : (at width : ℕ) → m ≡ Move.New at width → MoveOk b m → at + width ≤ length new_bytes
  unfolding MoveOk
  new_ok at width e h = rw e at h

  pub link-ok : (width : ℕ) → m ≡ Move.Link width → MoveOk b m → width ≤ 4
  unfolding MoveOk
  link-ok width e h = rw e at h

-- ---- a walk's move

module _ (b : List ℕ) (w next : Walk) where
  pub move-ok : (m : Move) → MovesBy b w m next → MoveOk b m
  unfolding MovesBy MoveOk
  move-ok Move.Begin h = tt
  move-ok (Move.Put at width) h = h.1
  move-ok (Move.New at width) h = h.1
  move-ok (Move.Link width) h = h.1
  move-ok Move.End h = tt
  move-ok (Move.Stop p) h = tt
  move-ok Move.Done h = tt

  -- its op is the first of those left
  record Takes (m : Move) : Type 0 where
    later : List Op
    first : rest_of b w ≡ ops_of b m ++ later

  takes : (m : Move) → MovesBy b w m next → Takes m
  unfolding MovesBy
  takes Move.Begin h = record { later = _; first = h.made }
  takes (Move.Put at width) h = record { later = _; first = h.0.made }
  takes (Move.New at width) h = record { later = _; first = h.0.made }
  takes (Move.Link width) h = record { later = _; first = h.0.made }
  takes Move.End h = record { later = _; first = h.made }
  takes (Move.Stop p) h = record { later = h.0.later; first = h.0.made }
  takes Move.Done h = record { later = []; first = h.0 }

-- an open table has its end left
no_end : (a c : List Op) → a ++ (end ∷ c) ≡ [] → ⊥
no_end [] c e = let z : ◌≡◌ {A = ℕ} 0 1 = cc in omega arith
no_end (x ∷ a) c e = let z : ◌≡◌ {A = ℕ} 0 1 = cc in omega arith

some-ops : (back : Bool) (width : ℕ) (a c : List Op) → link_ops back width ++ (a ++ (end ∷ c)) ≡ [] → ⊥
some-ops true width a c e = let z : ◌≡◌ {A = ℕ} 0 1 = cc in omega arith
some-ops false width a c e = no_end a c e

rest_some : (b : List ℕ) (n : ℕ) (back : Bool) (f : Frame) (fs : List Frame) → rest b n back (f ∷ fs) ≡ [] → ⊥
unfolding rest
rest_some b n back f fs e = some-ops back f.width (fields_ops (child_ops n b f) (bytes_of b f) (place_of f) f.at (fields_left b f)) (rest b (suc n) true fs) e

some-rest : (b : List ℕ) (w : Walk) → Standing w → 0 < w.depth → rest_of b w ≡ [] → ⊥
unfolding rest_of
some-rest b w s o e = rest_some b (deepest - w.depth) w.back _ _ (rw (standing-is w s o) at e)

-- ---- the move came to r: the walk goes on, or has ended

not_stopped : (b : List ℕ) (p i : ℕ) (s t : Stores) (j : ObjectId) → PerformedBy (ops_of b (Move.Stop p)) i s (Ok j) t → ⊥
unfolding perform
not_stopped b p i s t j h = omega (arith, ap (λ z. z.number) (h.made []))

pub record GoesOn (b : List ℕ) (w next : Walk) (i : ℕ) (s : Stores) (j : ObjectId) (t : Stores) : Type 0 where
  pub same : perform by_stores (rest_of b w) i s ≡ perform by_stores (rest_of b next) j.0 t
  pub stands : Standing next
  pub less : length (rest_of b next) < length (rest_of b w)

module _ (b : List ℕ) (w next : Walk) (i : ℕ) (s : Stores) (j : ObjectId) (t : Stores) where
  one_less : (m : Move) (o : Op) → ops_of b m ≡ o ∷ [] → rest_of b w ≡ o ∷ rest_of b next → Standing next → PerformedBy (ops_of b m) i s (Ok j) t → GoesOn b w next i s j t
  one_less m o f e k h = record {
    same = ap (λ z. perform by_stores z i s) (e ∙ ap (λ z. z ++ rest_of b next) (sym f)) ∙ h.made (rest_of b next);
    stands = k;
    less = omega (arith, ap length e);
  }

  pub goes_on : Standing w → 0 < w.depth → (m : Move) → MovesBy b w m next → PerformedBy (ops_of b m) i s (Ok j) t → GoesOn b w next i s j t
  unfolding MovesBy
  goes_on k o Move.Begin v h = one_less Move.Begin begin refl v.made v.stands h
  goes_on k o (Move.Put at width) v h = one_less (Move.Put at width) _ refl v.0.made v.0.stands h
  goes_on k o (Move.New at width) v h = one_less (Move.New at width) _ refl v.0.made v.0.stands h
  goes_on k o (Move.Link width) v h = one_less (Move.Link width) _ refl v.0.made v.0.stands h
  goes_on k o Move.End v h = one_less Move.End end refl v.made v.stands h
  goes_on k o (Move.Stop p) v h = absurd (not_stopped b p i s t j h)
  goes_on k o Move.Done v h = absurd (some-rest b w k o v.0)

-- a refusal ends it
pub has_ended : (b : List ℕ) (w next : Walk) (m : Move) (i : ℕ) (s : Stores) (u : Unread) (t : Stores) → MovesBy b w m next → PerformedBy (ops_of b m) i s (Err u) t → RanBy (rest_of b w) i s (Err u) t
has_ended b w next m i s u t v h =
    let k = takes b w next m v in
    record { ran = ap (λ z. perform by_stores z i s) k.first ∙ h.made k.later; stays = h.stays }

-- nothing is left
pub all_made : (b : List ℕ) (w : Walk) (j : ObjectId) (s : Stores) → w.depth ≡ 0 → sound s.bytes s.words ≡ true → RanBy (rest_of b w) j.0 s (Ok j) s
unfolding perform
all_made b w j s e h = record { ran = ap (λ z. perform by_stores z j.0 s) (done-rest b w e); stays = h }
