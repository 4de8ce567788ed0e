-- A call on the two stores tells what it tells on the history that they hold, and leaves stores that hold what the history becomes.
use mathlib.Core.Path.{◌≡◌, ap, ◌∙◌}
use Prim.Native.Nat.{ℕ}
use lib.ListN.{length}
use Rattle.model.specs.Judge.{Limits}
use Rattle.model.specs.Told.{Told}
use Rattle.model.specs.Session.{Needs, Session, tally_of, session_call, step, after_call}
use Rattle.model.specs.History.{History, counts, expected, Agrees}
use Rattle.model.proofs.Mirrors.{Mirrors, mirrors-counts}
use Rattle.model.proofs.Agreement.{call-agrees, call-mirrors}
use Rattle.layout.specs.Words.{limits_in}
use Rattle.steps.specs.Steps.{tally_in}
use Rattle.steps.specs.Runs.{StoreCall, Stores, step_on, as_call, needs_with, Drawn}
use Rattle.steps.specs.Mirrored.{Step, by_stores, by_history}
use Rattle.steps.proofs.Tallies.{tally-decode, limits-decode}
use Rattle.steps.proofs.Steps.{step-drawn}

-- the stores hold a session that mirrors the history
pub record Stands (s : Stores) (h : History) : Type 0 where
  pub session : Session
  pub drawn : Drawn s session
  pub mirrors : Mirrors session h

module _ {s : Stores} {a : Session} {h : History} (d : Drawn s a) (m : Mirrors a h) where
  pub mirrored-counts : tally_in s.bytes s.words ≡ counts h
  mirrored-counts = tally-decode s.bytes s.words d.is_sound ∙ ap (λ (x : Session). tally_of x) d.holds ∙ mirrors-counts m

  pub mirrored-limits : limits_in s.words ≡ h.limits
  mirrored-limits = limits-decode s.bytes s.words ∙ ap (λ (x : Session). x.limits) d.holds ∙ ap (λ (x : History). x.limits) m.read

-- the same is told, and what is left is so related
pub record SameStep (R : Stores → History → Type 0) (t : Step Stores) (u : Step History) : Type 0 where
  pub number_same : t.number ≡ u.number
  pub id_same : t.id ≡ u.id
  pub stands : R t.next u.next

module _ (work : Limits → ℕ → ℕ) (store records : ℕ) where
  abbrev n : Needs
  n = needs_with work

  -- a call that does not ask how long the stores are
  pub one-agrees : (c : StoreCall) {s : Stores} {h : History} → Stands s h → as_call (length s.bytes) (length s.words) c ≡ as_call store records c → SameStep Stands (by_stores c s) (by_history n store records c h)
  unfolding Agrees after_call
  one-agrees c {s} {h} k e =
      let a = as_call (length s.bytes) (length s.words) c in
      let f = step-drawn work c s k.session k.drawn in
      let told : (step_on c s).told ≡ expected n a h = f.told ∙ call-agrees n k.mirrors (session_call a) in
      rw (← e) record {
        number_same = ap (λ (x : Told). x.number) told;
        id_same = ap (λ (x : Told). x.id) told;
        stands = record { session = (step n a k.session).after; drawn = f.drawn; mirrors = call-mirrors n k.mirrors (session_call a) };
      }

-- the same, of stores of that many bytes and words
pub record Holding (bytes words : ℕ) (s : Stores) (h : History) : Type 0 where
  pub session : Session
  pub drawn : Drawn s session
  pub mirrors : Mirrors session h
  pub same_bytes : length s.bytes ≡ bytes
  pub same_words : length s.words ≡ words

pub holding-agrees : (work : Limits → ℕ → ℕ) (c : StoreCall) {bytes words : ℕ} {s : Stores} {h : History} → Holding bytes words s h → SameStep (Holding bytes words) (by_stores c s) (by_history (needs_with work) bytes words c h)
holding-agrees work c {bytes} {words} {s} {h} k =
    let a = one-agrees work bytes words c (record { session = k.session; drawn = k.drawn; mirrors = k.mirrors }) (λ i. as_call (k.same_bytes i) (k.same_words i) c) in
    let f = step-drawn work c s k.session k.drawn in
    record {
      number_same = a.number_same;
      id_same = a.id_same;
      stands = record { session = a.stands.session; drawn = a.stands.drawn; mirrors = a.stands.mirrors; same_bytes = f.same_bytes ∙ k.same_bytes; same_words = f.same_words ∙ k.same_words };
    }
