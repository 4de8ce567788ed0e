-- docs/RULES.md, section 8: a list of all eight calls on the two lent stores, what the history is fed of it, and what is claimed of the whole list.
use Rattle.std.specs.Prelude.{ℕ, ◌≤◌, ◌≡◌, List, [], ◌∷◌, true, length, take, drop}
use Rattle.lists.specs.Lists.{pick}
use Rattle.answer.specs.Number.{no_tally}
use Rattle.model.specs.Judge.{no_tally_beside}
use Rattle.model.specs.Told.{done}
use Rattle.model_orders.specs.Reading.{Reading, reading_at, Shows, Lengthened}
use Rattle.model.specs.Session.{Needs, Call, session_call, pack_call}
use Rattle.model.specs.History.{History, history_of, innermost_reading, counts, expected, after_all, NoStart, AllDifferent, Alike}
use Rattle.layout.specs.Sound.{sound}
use Rattle.layout.specs.Decode.{decode}
use Rattle.work.specs.Areas.{work_need}
use Rattle.steps.specs.Runs.{close, tally, Stores, step_on, LentCall, on_stores, pack, LentLeft, lent_step, as_call, needs_with}

abbrev pub needs : Needs
needs = needs_with (λ m copies. work_need m.objects m.links copies)

-- ---- a list of calls, with what each left

pub record Made : Type 0 where
  pub call : LentCall
  pub left : LentLeft

-- each call gets the stores as the one before left them
unfoldable pub run : List LentCall → Stores → List Made
run [] s = []
run (c ∷ cs) s = record { call = c; left = lent_step c s } ∷ run cs (lent_step c s).stores

unfoldable pub stores_after : List Made → Stores → Stores
stores_after [] s = s
stores_after (m ∷ ms) s = stores_after ms m.left.stores

-- the table that an accepted pack left in front of the output
pub record Table (h : History) (root : ℕ) (out : List ℕ) (l : LentLeft) : Type 0 where
  pub room : l.told.length ≤ length out
  pub shown : Shows (take l.told.length l.out) 0 (reading_at h.closed root)
  pub rest : drop l.told.length l.out ≡ drop l.told.length out
  pub sum : Lengthened (reading_at h.closed root) l.told.length l.told.copies l.told.placed

pub record PackClaim (h : History) (root : ℕ) (out : List ℕ) (l : LentLeft) : Type 0 where
  pub counted : l.told.tally ≡ pick (no_tally_beside l.told.number) no_tally (counts h)
  pub table : l.told.number ≡ 0 → Table h root out l
  pub untouched : (l.told.number ≡ 0 → ⊥) → l.out ≡ out

pub record Closes (m : Made) : Type 0 where
  pub close-is : m.call ≡ on_stores close
  pub accepted : m.left.told.number ≡ 0

-- ---- the history: of the calls it is fed the arguments, and of lent memory how long it is, the two stores as they were at the start

module _ (bytes words : ℕ) where
  -- the calls that a call stands for
  unfoldable pub as_lent : LentCall → List Call
  as_lent (on_stores c) = session_call (as_call bytes words c) ∷ []
  as_lent (pack id copies out work) = pack_call id copies (length out) (length work) ∷ []

  abbrev pub after_one : LentCall → History → History
  after_one c h = after_all needs (as_lent c) h

  unfoldable pub history_after : List Made → History → History
  history_after [] h = h
  history_after (m ∷ ms) h = history_after ms (after_one m.call h)

  -- no call made is an accepted start
  unfoldable pub NoStarts : List Made → History → Type 0
  NoStarts [] h = Unit {0}
  NoStarts (m ∷ ms) h = NoStart needs (as_lent m.call) h × NoStarts ms (after_one m.call h)

  -- ---- what is claimed of the stores before and after each call

  pub record Agree (s : Stores) (h : History) : Type 0 where
    pub same_bytes : length s.bytes ≡ bytes
    pub same_words : length s.words ≡ words
    pub is_sound : sound s.bytes s.words ≡ true
    -- a tally call would tell the history's counts next
    pub counted : (step_on tally s).told ≡ done (counts h)
    -- the stores hold just the history's objects, in its order
    pub objects : history_of (decode s.bytes s.words) ≡ h
    pub apart : AllDifferent h.closed

  -- ---- what is claimed of one call, by the history before it

  unfoldable pub Claim : LentCall → History → LentLeft → Type 0
  Claim (on_stores c) h l = l.told ≡ expected needs (as_call bytes words c) h
  Claim (pack id copies out work) h l = PackClaim h id out l

  -- up to the next accepted start an accepted close tells i exactly if its object reads r
  unfoldable pub KeepsId : Reading → ℕ → List Made → History → Type 0
  KeepsId r i [] h = Unit {0}
  KeepsId r i (m ∷ ms) h =
      (Closes m → Alike (innermost_reading h.opens) r m.left.told.id i) × (NoStart needs (as_lent m.call) h → KeepsId r i ms (after_one m.call h))

  -- ---- one claim about the whole list: before the first call and after each the stores agree with the history; no call tells 12; each is as
  -- the history says; and an id that a close told is kept for its reading

  unfoldable pub AllClaim : List Made → Stores → History → Type 0
  AllClaim [] s h = Agree s h
  AllClaim (m ∷ ms) s h =
      let l = m.left in
      let h' = after_one m.call h in
      Agree s h × (l.told.number ≡ 12 → ⊥) × Claim m.call h l × (Closes m → KeepsId (innermost_reading h.opens) l.told.id ms h') × AllClaim ms l.stores h'
