-- What the calls but start leave of a session begun with some limits: the limits, both lengths, and every word past the need.
use mathlib.Core.Path.{◌≡◌, refl, subst, ◌∙◌}
use Prim.Native.Nat.{ℕ}
use mathlib.Core.List.{List, [], ◌∷◌}
use mathlib.Core.Bool.{Bool, true, false}
use lib.ListN.{length, drop}
use lib.Dec.{eqb}
use Rattle.lists.specs.Lists.{pick}
use Rattle.model.specs.Judge.{Limits}
use Rattle.layout.specs.Words.{limits_in}
use Rattle.layout.specs.Sound.{sound}
use Rattle.layout.specs.Decode.{decode}
use Rattle.steps.specs.Runs.{StoreCall, open', put, link, close, Stores, step_on}
use Rattle.steps.specs.Mirrored.{Step, by_stores}
use Rattle.steps.proofs.Steps.{sound-drawn, step-drawn}
use Rattle.steps.proofs.Works.{asks}
use Rattle.steps.proofs.Surplus.{need_of, Past, past-stands, limits-stay}
use Rattle.gsub.specs.Ops.{Op, begin, put as put_op, link as link_op, end, stop, Outcome, outcome as ended, go_on, perform}

-- ---- what a session begun with limits m keeps, in stores of so many words, the surplus of them as it was

pub record Begun (m : Limits) (words : ℕ) (surplus : List ℕ) (s : Stores) : Type 0 where
  pub is_sound : sound s.bytes s.words ≡ true
  pub limits : limits_in s.words ≡ m
  pub same_bytes : length s.bytes ≡ m.bytes
  pub same_words : length s.words ≡ words
  pub past : drop (need_of m) s.words ≡ surplus

module _ {m : Limits} {words : ℕ} {surplus : List ℕ} where
  call_stays : (c : StoreCall) → asks c ≡ true → (s : Stores) → Begun m words surplus s → Begun m words surplus (step_on c s).stores
  call_stays c a s k =
      let f = step-drawn (λ m copies. 0) c s (decode s.bytes s.words) (sound-drawn s.bytes s.words k.is_sound) in
      record {
        is_sound = f.drawn.is_sound;
        limits = limits-stay s c a ∙ k.limits;
        same_bytes = f.same_bytes ∙ k.same_bytes;
        same_words = f.same_words ∙ k.same_words;
        past = subst (λ (x : Limits). Past s x c) k.limits (past-stands s c a) ∙ k.past;
      }

  -- ---- ops

  go-stays : (t : Step Stores) (o : Outcome Stores) → Begun m words surplus t.next → Begun m words surplus o.next → Begun m words surplus (go_on t o).next
  go-stays t o k l = go (eqb t.number 0)
    where
      go : (x : Bool) → Begun m words surplus (pick x o (ended t.number 0 0 t.next)).next
      go true = l
      go false = k

  pub ops-stay : (ops : List Op) (i : ℕ) (s : Stores) → Begun m words surplus s → Begun m words surplus (perform by_stores ops i s).next
  unfolding perform
  ops-stay [] i s k = k
  ops-stay (begin ∷ ops) i s k = let l = call_stays open' refl s k in go-stays (by_stores open' s) _ l (ops-stay ops i _ l)
  ops-stay (put_op vs ∷ ops) i s k = let l = call_stays (put vs) refl s k in go-stays (by_stores (put vs) s) _ l (ops-stay ops i _ l)
  ops-stay (link_op w ∷ ops) i s k = let l = call_stays (link w i 0) refl s k in go-stays (by_stores (link w i 0) s) _ l (ops-stay ops i _ l)
  ops-stay (end ∷ ops) i s k = let l = call_stays close refl s k in go-stays (by_stores close s) _ l (ops-stay ops (by_stores close s).id _ l)
  ops-stay (stop p ∷ ops) i s k = k
