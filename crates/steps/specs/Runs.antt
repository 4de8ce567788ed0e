-- docs/RULES.md, section 5: the calls with their arguments, on lent memory: what each tells and leaves, and the abstract session that sound stores hold.
use Rattle.std.specs.Prelude.{ℕ, ◌≡◌, List, [], ◌∷◌, true}
use Rattle.model.specs.Judge.{Limits}
use Rattle.model.specs.Told.{Told, told_by, told_by_close, told_by_pack}
use Rattle.model.specs.Session.{Needs, Session, SessionCall, start_call, open_call, put_call, link_call, close_call, drop_call, tally_call}
use Rattle.layout.specs.Words.{need}
use Rattle.layout.specs.Sound.{sound}
use Rattle.layout.specs.Decode.{decode}
use Rattle.steps.specs.Steps.{Out, CloseOut, start_step, open_step, put_step, link_step, close_step, drop_step, tally_step}
use Rattle.steps.specs.Pack.{PackOut, pack_step}

-- ---- calls on the two stores

pub data StoreCall : Type 0 where
  start : ℕ → ℕ → StoreCall
  open' : StoreCall
  put : List ℕ → StoreCall
  link : ℕ → ℕ → ℕ → StoreCall
  close : StoreCall
  drop : StoreCall
  tally : StoreCall

pub record Stores : Type 0 where
  pub bytes : List ℕ
  pub words : List ℕ

abbrev pub stores : List ℕ → List ℕ → Stores
stores b w = record { bytes = b; words = w }

-- what a call tells, and what it leaves in the stores
pub record Left : Type 0 where
  pub told : Told
  pub stores : Stores

abbrev pub left : Told → List ℕ → List ℕ → Left
left t b w = record { told = t; stores = stores b w }

abbrev pub left_by : Out → Left
left_by o = left (told_by o.answer) o.bytes o.words

abbrev pub left_by_close : CloseOut → Left
left_by_close o = left (told_by_close o.answer) o.bytes o.words

unfoldable pub step_on : StoreCall → Stores → Left
step_on (start objects links) s = left_by (start_step objects links s.bytes s.words)
step_on open' s = left_by (open_step s.bytes s.words)
step_on (put vs) s = left_by (put_step vs s.bytes s.words)
step_on (link width id inner) s = left_by (link_step width id inner s.bytes s.words)
step_on close s = left_by_close (close_step s.bytes s.words)
step_on drop s = left_by (drop_step s.bytes s.words)
step_on tally s = left_by (tally_step s.bytes s.words)

-- each call gets the stores as the one before left them
unfoldable pub left_after : List StoreCall → Stores → Stores
left_after [] s = s
left_after (c ∷ cs) s = left_after cs (step_on c s).stores

-- ---- all eight: a pack with its root, the copies allowed, and what the output and the work memory hold

pub data LentCall : Type 0 where
  on_stores : StoreCall → LentCall
  pack : ℕ → ℕ → List ℕ → List ℕ → LentCall

-- what a call tells, and what it leaves in all lent memory
pub record LentLeft : Type 0 where
  pub told : Told
  pub stores : Stores
  pub out : List ℕ
  pub work : List ℕ

-- of a pack, which leaves the stores as they were
abbrev pub pack_left : Told → Stores → List ℕ → List ℕ → LentLeft
pack_left t s out work = record { told = t; stores = s; out = out; work = work }

abbrev pub left_by_pack : Stores → PackOut → LentLeft
left_by_pack s o = pack_left (told_by_pack o.answer) s o.out o.work

-- a call that is lent no more than the stores
abbrev pub stores_left : Left → LentLeft
stores_left l = record { told = l.told; stores = l.stores; out = []; work = [] }

unfoldable pub lent_step : LentCall → Stores → LentLeft
lent_step (on_stores c) s = stores_left (step_on c s)
lent_step (pack id copies out work) s = left_by_pack s (pack_step id copies s.bytes s.words out work)

-- ---- the same calls on the abstract session: of the two stores only how many bytes and words they have

unfoldable pub as_call : ℕ → ℕ → StoreCall → SessionCall
as_call bytes words (start objects links) = start_call (record { objects = objects; links = links; bytes = bytes }) words
as_call bytes words open' = open_call
as_call bytes words (put vs) = put_call vs
as_call bytes words (link width id inner) = link_call width id inner
as_call bytes words close = close_call
as_call bytes words drop = drop_call
as_call bytes words tally = tally_call

-- the record store's need is the layout's; the work memory's plays no part in these calls
abbrev pub needs_with : (Limits → ℕ → ℕ) → Needs
needs_with work = record { records = λ m. need m.objects m.links; work = work }

-- the stores are sound and hold this session
pub record Drawn (s : Stores) (a : Session) : Type 0 where
  pub is_sound : sound s.bytes s.words ≡ true
  pub holds : decode s.bytes s.words ≡ a
