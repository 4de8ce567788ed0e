-- Each way through the code of a line, by what its calls told.
use mathlib.Core.Path.{◌≡◌, refl, sym, ap, ◌∙◌}
use Prim.Native.Nat.{ℕ, zero, suc, ◌+◌, ◌≤◌, ◌<◌}
use mathlib.Core.List.{List, [], ◌∷◌, ◌++◌}
use mathlib.Core.Bool.{true}
use native.Mathlib.Omega.{arith}
use native.Mathlib.Numerals.{add-one}
use lib.ListN.{length, take, get_or, set}
use lib.Seq.{take-suc-set, get_or-take, length-take-le}
use borrow.Author.Tests.{eq-eqb, ne_eqb}
use Rattle.lists.proofs.Elements.{get_or-inside}
use Rattle.std.specs.Prelude.{Option, Some, None, Result, Ok, Err}
use Rattle.job_items.specs.Item.{item, pairs}
use Rattle.job_items.specs.declared.Item.{Item}
use Rattle.text_hex.specs.Hex.{bytes_of}
use Rattle.answer.specs.Number.{number}
use Rattle.answer.specs.declared.Refusal.{Refusal}
use Rattle.answer.specs.declared.ObjectId.{ObjectId}
use Rattle.model.specs.Told.{Told}
use Rattle.model.proofs.Verdicts.{refused-number}
use Rattle.model.specs.Session.{Session, open_call, put_call, link_call, close_call, Left, step}
use Rattle.layout.specs.Sound.{sound}
use Rattle.layout.specs.Decode.{decode}
use Rattle.job_rules.specs.Job.{Turn, on, stop, packs, writing, piece_due, no_needs, call, most_objects, breach, inner_start, writes, child_at, first_item, piece_turn, link_turn, end_turn, next_item, turn}
use Rattle.job_calls.specs.Leads.{Leads, Writes}
use Rattle.job_calls.specs.declared.stop.Stop.{Stop}
use Rattle.job_calls.specs.declared.stop.Stop.TheVariants.{Breach, Call}
use Rattle.job_calls.specs.declared.line.Lead.{Lead}
use Rattle.job_calls.proofs.Calls.{After, goes, stops}

-- what is refused is not done
pub not_done : (why : Refusal) {n : ℕ} → n ≡ number why → n ≡ 0 → ⊥
not_done why e z = omega (arith, refused-number why)

-- ---- a piece opened and put

abbrev wrote : List ℕ → Left → Turn
wrote ids l = on (writing l.after ids)

module _ (vs : List ℕ) {b w : List ℕ} {t : Told} {w₁ : List ℕ} (a : After open_call b w t b w₁) where
  abbrev put : List ℕ → Left → Turn
  put ids o = call (put_call vs) o.after (wrote ids)

  pub writes-not : (t.number ≡ 0 → ⊥) → Writes vs b w t.number b w₁
  writes-not n = record { is_sound = a.is_sound; limits = a.limits; done = λ ids e. absurd (n e); stopped = λ ids e. stops a (put ids) n }

  module _ (e : t.number ≡ 0) {u : Told} {b₂ w₂ : List ℕ} (p : After (put_call vs) b w₁ u b₂ w₂) where
    opened : (ids : List ℕ) → writes vs ids (decode b w) ≡ call (put_call vs) (decode b w₁) (wrote ids)
    opened ids = goes a (put ids) e ∙ ap (λ (s : Session). call (put_call vs) s (wrote ids)) (sym a.holds)

    pub writes-put : Writes vs b w u.number b₂ w₂
    writes-put = record {
      is_sound = p.is_sound;
      limits = p.limits ∙ a.limits;
      done = λ ids f. opened ids ∙ goes p (wrote ids) f ∙ ap (λ (s : Session). on (writing s ids)) (sym p.holds);
      stopped = λ ids f. opened ids ∙ stops p (wrote ids) f;
    }

-- ---- the first piece line

not_first : (it : Option Item) (l : List ℕ) (s : Session) → (it ≡ Some Item.Piece → ⊥) → stop breach ≡ first_item it l s
not_first (Some Item.Piece) l s e = absurd (e refl)
not_first (Some (Item.Link w i)) l s e = refl
not_first (Some (Item.End n)) l s e = refl
not_first None l s e = refl

module _ (l b w ids : List ℕ) where
  pub first-breach : sound b w ≡ true → (item l ≡ Some Item.Piece → ⊥) → Leads (turn l (piece_due (decode b w))) 0 w (Err Breach) b w ids
  unfolding turn
  first-breach h e = record { is_sound = h; limits = refl; few = omega arith; leads = not_first (item l) l (decode b w) e }

  module _ (e : item l ≡ Some Item.Piece) {n : ℕ} {b₁ w₁ : List ℕ} (p : Writes (bytes_of (pairs l)) b w n b₁ w₁) where
    pub first_stops : (why : Refusal) → n ≡ number why → Leads (turn l (piece_due (decode b w))) 0 w (Err (Call why)) b₁ w₁ ids
    unfolding turn
    first_stops why f = record { is_sound = p.is_sound; limits = p.limits; few = omega arith; leads = rw e (ap stop (sym f) ∙ sym (p.stopped [] (not_done why f))) }

    pub first_goes : n ≡ 0 → Leads (turn l (piece_due (decode b w))) 0 w (Ok (Lead.On 0)) b₁ w₁ ids
    unfolding turn
    first_goes f = record { is_sound = p.is_sound; limits = p.limits; few = omega arith; leads = rw e (sym (p.done [] f)) }

-- ---- the next piece line

module _ (vs : List ℕ) {b w : List ℕ} (ids : List ℕ) (count : ℕ) {t : Told} {b₁ w₁ : List ℕ} (a : After close_call b w t b₁ w₁) where
  abbrev next : Left → Turn
  next c = writes vs (take count ids ++ (c.told.id ∷ [])) c.after

  pub piece-not : (ids' : List ℕ) (why : Refusal) → t.number ≡ number why → Leads (piece_turn vs (decode b w) (take count ids)) (count + 1) w (Err (Call why)) b₁ w₁ ids'
  piece-not ids' why f = record { is_sound = a.is_sound; limits = a.limits; few = omega arith; leads = ap stop (sym f) ∙ sym (stops a next (not_done why f)) }

  module _ (e : t.number ≡ 0) {k : ℕ} {b₂ w₂ : List ℕ} (p : Writes vs b₁ w₁ k b₂ w₂) where
    closed : piece_turn vs (decode b w) (take count ids) ≡ writes vs (take count ids ++ (t.id ∷ [])) (decode b₁ w₁)
    closed =
        goes a next e ∙ ap (λ (s : Session). writes vs (take count ids ++ ((step no_needs close_call (decode b w)).told.id ∷ [])) s) (sym a.holds)
        ∙ ap (λ (x : Told). writes vs (take count ids ++ (x.id ∷ [])) (decode b₁ w₁)) (sym a.told)

    pub piece-stops : (ids' : List ℕ) (why : Refusal) → k ≡ number why → Leads (piece_turn vs (decode b w) (take count ids)) (count + 1) w (Err (Call why)) b₂ w₂ ids'
    piece-stops ids' why f = record { is_sound = p.is_sound; limits = p.limits ∙ a.limits; few = omega arith; leads = ap stop (sym f) ∙ sym (closed ∙ p.stopped _ (not_done why f)) }

    pub piece-goes : k ≡ 0 → count < length ids → (i : ℕ) → i ≡ t.id → Leads (piece_turn vs (decode b w) (take count ids)) (count + 1) w (Ok (Lead.On (count + 1))) b₂ w₂ (set ids count i)
    piece-goes f h i j = record {
      is_sound = p.is_sound;
      limits = p.limits ∙ a.limits;
      few = omega arith;
      leads = sym (closed ∙ p.done _ f ∙ ap (λ (l : List ℕ). on (writing (decode b₂ w₂) l)) (rw (add-one count, j) (sym (take-suc-set ids count t.id h))));
    }

-- ---- a link line

get_d_past : (l : List ℕ) (i d : ℕ) → length l ≤ i → get_or l i d ≡ d
get_d_past [] i d h = refl
get_d_past (x ∷ l) zero d h = absurd (omega arith)
get_d_past (x ∷ l) (suc i) d h = get_d_past l i d (omega arith)

pub child-past : (ids : List ℕ) (count i : ℕ) → count ≤ length ids → count ≤ i → most_objects ≡ child_at (take count ids) i
child-past ids count i h k = sym (get_d_past (take count ids) i most_objects (omega (arith, length-take-le count ids h)))

pub child-known : (ids : List ℕ) (count i : ℕ) → count ≤ length ids → i < count → get_or ids i 0 ≡ child_at (take count ids) i
child-known ids count i h k = sym (get_or-take count ids i most_objects k ∙ get_or-inside ids i most_objects 0 (omega arith))

module _ (width i : ℕ) {b w : List ℕ} (ids : List ℕ) (count : ℕ) {t : Told} {w₁ : List ℕ} (a : After (link_call width (child_at (take count ids) i) inner_start) b w t b w₁) where
  pub link-stops : (why : Refusal) → t.number ≡ number why → Leads (link_turn width i (decode b w) (take count ids)) count w (Err (Call why)) b w₁ ids
  link-stops why f = record { is_sound = a.is_sound; limits = a.limits; few = omega arith; leads = ap stop (sym f) ∙ sym (stops a (wrote (take count ids)) (not_done why f)) }

  pub link-goes : t.number ≡ 0 → Leads (link_turn width i (decode b w) (take count ids)) count w (Ok (Lead.On count)) b w₁ ids
  link-goes e = record { is_sound = a.is_sound; limits = a.limits; few = omega arith; leads = sym (goes a (wrote (take count ids)) e ∙ ap (λ (s : Session). on (writing s (take count ids))) (sym a.holds)) }

-- ---- the end line

abbrev last : Left → Turn
last c = packs c.after c.told.id

module _ (n : ℕ) (b w ids : List ℕ) (count : ℕ) (h : count ≤ length ids) where
  long : suc (length (take count ids)) ≡ count + 1
  long = omega (arith, length-take-le count ids h)

  pub end-breach : sound b w ≡ true → (n ≡ count + 1 → ⊥) → Leads (end_turn n (decode b w) (take count ids)) 0 w (Err Breach) b w ids
  end-breach s e = record { is_sound = s; limits = refl; few = omega arith; leads = rw (long, ne_eqb n (count + 1) e) }

  module _ (e : n ≡ count + 1) {t : Told} {b₁ w₁ : List ℕ} (a : After close_call b w t b₁ w₁) where
    pub end-stops : (why : Refusal) → t.number ≡ number why → Leads (end_turn n (decode b w) (take count ids)) 0 w (Err (Call why)) b₁ w₁ ids
    end-stops why f = record { is_sound = a.is_sound; limits = a.limits; few = omega arith; leads = rw (long, eq-eqb n (count + 1) e) (ap stop (sym f) ∙ sym (stops a last (not_done why f))) }

    pub end-packs : t.number ≡ 0 → (i : ObjectId) → i.0 ≡ t.id → Leads (end_turn n (decode b w) (take count ids)) 0 w (Ok (Lead.Packs i)) b₁ w₁ ids
    end-packs f i j = record {
      is_sound = a.is_sound;
      limits = a.limits;
      few = omega arith;
      leads = rw (long, eq-eqb n (count + 1) e)
          (sym (goes a last f
          ∙ ap (λ (s : Session). packs s (step no_needs close_call (decode b w)).told.id) (sym a.holds)
          ∙ ap (λ (x : Told). packs (decode b₁ w₁) x.id) (sym a.told) ∙ ap (packs (decode b₁ w₁)) (sym j)));
    }

-- ---- any line, by what it says

module _ (l b w : List ℕ) (known : List ℕ) {it : Option Item} (e : it ≡ item l) where
  pub turn_by : turn l (writing (decode b w) known) ≡ next_item it l (decode b w) known
  unfolding turn
  turn_by = rw (← e)

pub later-breach : (k : ℕ) (b w ids : List ℕ) → sound b w ≡ true → Leads (stop breach) k w (Err Breach) b w ids
later-breach k b w ids h = record { is_sound = h; limits = refl; few = omega arith; leads = refl }

pub leads-more : {t : Turn} {k : ℕ} {w₀ : List ℕ} {r : Result Lead Stop} {b w ids : List ℕ} (j : ℕ) → k ≤ j → Leads t k w₀ r b w ids → Leads t j w₀ r b w ids
leads-more j h l = record { is_sound = l.is_sound; limits = l.limits; few = omega (arith, l.few); leads = l.leads }
