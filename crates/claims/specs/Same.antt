-- docs/RULES.md, 8.11: same root, same bytes. Of two histories, each with a pack next to it, of roots that read the same.
use Rattle.std.specs.Prelude.{ℕ, ◌≤◌, ◌<◌, ◌≡◌, List, [], length, take}
use Rattle.answer.specs.Number.{number}
use Rattle.answer.specs.declared.Refusal.TheVariants as Refusal
use Rattle.model.specs.Judge.{most_copies}
use Rattle.model_orders.specs.Reading.{reading_at}
use Rattle.model.specs.History.{History}
use Rattle.steps.specs.Runs.{LentLeft}
use Rattle.claims.specs.Demand.{needs}

-- a pack of a closed object while nothing is open, with copies in range and work memory enough; its output is not told to be short
pub record Granted (h : History) (id copies : ℕ) (work : List ℕ) (l : LentLeft) : Type 0 where
  pub root : id < length h.closed
  pub none_open : h.opens ≡ []
  pub few : copies ≤ most_copies
  pub memory : needs.work h.limits copies ≤ length work
  pub room : l.told.number ≡ number Refusal.OutputShort → ⊥

-- ---- what two such packs are told and leave

-- both are accepted, with the same length, as many copies, as many objects and the same bytes
pub record SameTable (l l' : LentLeft) : Type 0 where
  pub accepted : l.told.number ≡ 0
  pub accepted' : l'.told.number ≡ 0
  pub lengths : l.told.length ≡ l'.told.length
  pub copies : l.told.copies ≡ l'.told.copies
  pub placed : l.told.placed ≡ l'.told.placed
  pub bytes : take l.told.length l.out ≡ take l'.told.length l'.out

-- both are told an overflow, with the same field and the same needed offset; the ids named read the same
pub record SameOverflow (h h' : History) (l l' : LentLeft) : Type 0 where
  pub told : l.told.number ≡ number (Refusal.Overflow l.told.overflow)
  pub told' : l'.told.number ≡ number (Refusal.Overflow l'.told.overflow)
  pub field : l.told.overflow.field ≡ l'.told.overflow.field
  pub needed : l.told.overflow.needed ≡ l'.told.overflow.needed
  pub parent : reading_at h.closed l.told.overflow.parent.0 ≡ reading_at h'.closed l'.told.overflow.parent.0

pub data SameAnswer (h h' : History) (l l' : LentLeft) : Type 0 where
  packed : SameTable l l' → SameAnswer h h' l l'
  overflowed : SameOverflow h h' l l' → SameAnswer h h' l l'

-- packs of roots that read the same, with as many copies allowed
abbrev pub SameBytes : History → History → ℕ → ℕ → ℕ → List ℕ → List ℕ → LentLeft → LentLeft → Type 0
SameBytes h h' id id' copies work work' l l' =
    Granted h id copies work l → Granted h' id' copies work' l' → reading_at h.closed id ≡ reading_at h'.closed id' → SameAnswer h h' l l'
