-- Until the next accepted start a closing tells an id exactly when its object reads as the id's first one did.
use mathlib.Core.Path.{◌≡◌, refl, sym, ap, ◌∙◌}
use Prim.Native.Nat.{ℕ, ◌<◌}
use mathlib.Core.List.{List, [], ◌∷◌, ◌++◌}
use mathlib.Core.Bool.{Bool, true, false}
use native.Mathlib.Omega.{arith}
use borrow.Author.Tests.{ltb-true}
use lib.ListN.{length, length-append}
use lib.Dec.{ltb}
use Rattle.lists.specs.Lists.{pick, first_that}
use Rattle.lists.proofs.Elements.{first_passes, first_more}
use Rattle.lists.proofs.Frames.{first-most}
use Rattle.model_orders.specs.Reading.{Reading, bytes, same_reading, reading_at}
use Rattle.model.specs.Judge.{Verdict, accepted, refused}
use Rattle.model.specs.Session.{Needs, SessionCall, start_call, open_call, put_call, link_call, close_call, drop_call, tally_call, Call, session_call, pack_call}
use Rattle.model.specs.History.{History, innermost_reading, id_of, closes, judged, accept, next, after, after_all, Starts, NoStart, Alike}
use Rattle.model_orders.proofs.SameReading.{reading-equal, reading-self}

-- ---- ids stay

-- among closed readings the first equal to r has id i
pub record Known (r : Reading) (i : ℕ) (l : List Reading) : Type 0 where
  pub first : first_that (same_reading r) l ≡ i
  pub within : i < length l

module _ {r : Reading} {i : ℕ} {l : List Reading} (k : Known r i l) where
  pub known-equal : r ≡ reading_at l i
  known-equal =
      reading-equal r (reading_at l (first_that (same_reading r) l)) (first_passes (same_reading r) l (bytes []) (omega (arith, k.first, k.within)))
      ∙ ap (reading_at l) k.first

  known_more : (x : Reading) → Known r i (l ++ (x ∷ []))
  known_more x = record {
    first = first_more (same_reading r) l x (λ h. absurd (omega (arith, k.first, k.within))) ∙ k.first;
    within = omega (arith, length-append l (x ∷ []), k.within);
  }

-- another reading has that id exactly if it is the same
pub known_alike : {r : Reading} {i : ℕ} {l : List Reading} → Known r i l → (q : Reading) → Alike q r (first_that (same_reading q) l) i
known_alike {l = l} k q = record {
  read = λ e. known-equal (record { first = e; within = k.within }) ∙ sym (known-equal k);
  same = λ e. ap (λ (x : Reading). first_that (same_reading x) l) e ∙ k.first;
}

-- after an accepted close its object's reading is known by the id that it tells
pub known-closed : (h : History) → Known (innermost_reading h.opens) (id_of h) (closes h).closed
known-closed h = go (ltb (id_of h) (length h.closed)) refl
  where
    go : (b : Bool) → ltb (id_of h) (length h.closed) ≡ b → Known (innermost_reading h.opens) (id_of h) (pick b h.closed (h.closed ++ (innermost_reading h.opens ∷ [])))
    go true e = record { first = refl; within = ltb-true _ _ e }
    go false e =
        let r = innermost_reading h.opens in
        record {
          first = first_more (same_reading r) h.closed r (λ k. reading-self r);
          within = omega (arith, length-append h.closed (r ∷ []), first-most (same_reading r) h.closed);
        }

-- ---- until the next accepted start

module _ (n : Needs) {r : Reading} {i : ℕ} where
  -- only an accepted close adds a closed reading
  known-accept : (c : SessionCall) (h : History) → (Starts n (session_call c) h → ⊥) → judged n c h ≡ accepted → Known r i h.closed → Known r i (accept c h).closed
  unfolding Starts accept
  known-accept (start_call m records) h s e k = absurd (s e)
  known-accept open_call h s e k = k
  known-accept (put_call vs) h s e k = k
  known-accept (link_call w id i) h s e k = k
  known-accept close_call h s e k = go (ltb (id_of h) (length h.closed))
    where
      go : (b : Bool) → Known r i (pick b h.closed (h.closed ++ (innermost_reading h.opens ∷ [])))
      go true = k
      go false = known_more k (innermost_reading h.opens)
  known-accept drop_call h s e k = k
  known-accept tally_call h s e k = k

  known-after : (c : Call) (h : History) → (Starts n c h → ⊥) → Known r i h.closed → Known r i (after n c h).closed
  unfolding after
  known-after (session_call c) h s k = go (judged n c h) (λ e. known-accept c h s e k)
    where
      go : (v : Verdict) → (v ≡ accepted → Known r i (accept c h).closed) → Known r i (next v (accept c h) h).closed
      go accepted a = a refl
      go (refused why) a = k
  known-after (pack_call id copies out work) h s k = k

  pub known-all : (cs : List Call) (h : History) → NoStart n cs h → Known r i h.closed → Known r i (after_all n cs h).closed
  unfolding NoStart after_all
  known-all [] h s k = k
  known-all (c ∷ cs) h s k = known-all cs (after n c h) s.1 (known-after c h s.0 k)
