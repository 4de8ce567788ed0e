-- docs/RULES.md, 15.4 to 15.8 and 16.1: the look for the least number of last lookups whose promotion packs: from none on, each trial a read from a start, and a pack of its
-- root without copies.
use Rattle.std.specs.Prelude.{ℕ, zero, suc, List, [], ◌∷◌, Bool, ◌&&◌, take, eqb}
use Rattle.lists.specs.Lists.{pick}
use Rattle.answer.specs.Number.{no_tally, no_overflow}
use Rattle.answer.specs.declared.tally.Tally.{Tally}
use Rattle.answer.specs.declared.Overflow.{Overflow}
use Rattle.model.specs.Session.{Needs}
use Rattle.steps.specs.Runs.{StoreCall, Stores, start, step_on, pack, LentLeft, lent_step}
use Rattle.gsub.specs.declared.Scope.{Scope}
use Rattle.gsub.specs.Tables.{word_at}
use Rattle.gsub.specs.Promote.{trial_ops}
use Rattle.gsub_read.specs.Read.{ReadLeft, ops_step, ops_calls}

-- all lent memory
pub record Lent : Type 0 where
  pub stores : Stores
  pub out : List ℕ
  pub work : List ℕ

abbrev pub lent : Stores → List ℕ → List ℕ → Lent
lent s out work = record { stores = s; out = out; work = work }

-- the table in front of a pack's output
abbrev pub table_in : LentLeft → List ℕ
table_in l = take l.told.length l.out

-- ---- one trial: the last n lookups promoted

-- the read, and the pack that is made where it is accepted
pub record Trial : Type 0 where
  pub read : ReadLeft
  pub pack : LentLeft

abbrev pub pack_of : ReadLeft → Lent → LentLeft
pack_of r x = lent_step (pack r.told.id 0 x.out x.work) r.stores

abbrev pub trial : Scope → List ℕ → ℕ → ℕ → ℕ → Lent → Trial
trial scope b objects links n x = let r = ops_step (trial_ops scope n b) objects links x.stores in record { read = r; pack = pack_of r x }

-- what it leaves to the next one
abbrev pub left_by : Trial → Lent
left_by t = lent t.read.stores t.pack.out t.pack.work

-- its pack is refused 11
abbrev pub overflows : Trial → Bool
overflows t = eqb t.read.told.number 0 && eqb t.pack.told.number 11

-- ---- what the last trial tells and leaves

-- the number, how many lookups are promoted, the root's id, the table's length, the link of 11, the place of 15, and the tally
pub record PromoteTold : Type 0 where
  pub number : ℕ
  pub lookups : ℕ
  pub id : ℕ
  pub length : ℕ
  pub overflow : Overflow
  pub place : ℕ
  pub tally : Tally

pub record PromoteLeft : Type 0 where
  pub told : PromoteTold
  pub left : Lent

abbrev pub promote_left : PromoteTold → Stores → List ℕ → List ℕ → PromoteLeft
promote_left t s out work = record { told = t; left = lent s out work }

-- the table in front of its output
abbrev pub table_of : PromoteLeft → List ℕ
table_of l = take l.told.length l.left.out

abbrev pub done_promote : ℕ → ℕ → ℕ → Tally → PromoteTold
done_promote n i l t = record { number = 0; lookups = n; id = i; length = l; overflow = no_overflow; place = 0; tally = t }

abbrev pub refused_promote : ℕ → Overflow → ℕ → PromoteTold
refused_promote k o p = record { number = k; lookups = 0; id = 0; length = 0; overflow = o; place = p; tally = no_tally }

-- an accepted pack
abbrev pub promoted_by : ℕ → Trial → PromoteLeft
promoted_by n t = record { told = done_promote n t.read.told.id t.pack.told.length t.read.told.tally; left = left_by t }

-- a refused read, which leaves the stores freshly started, or as they were where that is its start's own refusal
abbrev pub unread : Lent → Trial → PromoteLeft
unread x t = promote_left (refused_promote t.read.told.number no_overflow t.read.told.place) t.read.stores x.out x.work

-- a refused pack: the session is started anew, and the work memory stays as the pack left it
abbrev pub unpacked : ℕ → ℕ → Trial → PromoteLeft
unpacked objects links t =
    promote_left (refused_promote t.pack.told.number t.pack.told.overflow 0) (step_on (start objects links) t.read.stores).stores t.pack.out t.pack.work

abbrev pub ended : ℕ → ℕ → ℕ → Lent → Trial → PromoteLeft
ended objects links n x t = pick (eqb t.read.told.number 0) (pick (eqb t.pack.told.number 0) (promoted_by n t) (unpacked objects links t)) (unread x t)

-- ---- the trials from n on, at most `more` after it: each while the one before it is refused 11

unfoldable pub look_from : Scope → List ℕ → ℕ → ℕ → ℕ → ℕ → Lent → PromoteLeft
look_from scope b objects links zero n x = ended objects links n x (trial scope b objects links n x)
look_from scope b objects links (suc more) n x =
    let t = trial scope b objects links n x in
    pick (overflows t) (look_from scope b objects links more (suc n) (left_by t)) (ended objects links n x t)

-- lookupCount of the LookupList
abbrev pub lookup_count : List ℕ → ℕ
lookup_count b = word_at b (word_at b 8)

unfoldable pub promote_step : Scope → List ℕ → ℕ → ℕ → Lent → PromoteLeft
promote_step scope b objects links x = look_from scope b objects links (lookup_count b) 0 x

-- ---- what is promised of it

-- the memory before the trial of n, all before it having been made
unfoldable pub before : Scope → List ℕ → ℕ → ℕ → Lent → ℕ → Lent
before scope b objects links x zero = x
before scope b objects links x (suc n) = left_by (trial scope b objects links n (before scope b objects links x n))

abbrev pub trial_at : Scope → List ℕ → ℕ → ℕ → Lent → ℕ → Trial
trial_at scope b objects links x n = trial scope b objects links n (before scope b objects links x n)

-- the session calls that a promotion stands as in a list of calls: those of the read of the trial accepted, or its start alone
abbrev pub promote_calls : Needs → ℕ → ℕ → Scope → List ℕ → ℕ → ℕ → PromoteTold → List StoreCall
promote_calls n bytes words scope b objects links t = pick (eqb t.number 0) (ops_calls n bytes words (trial_ops scope t.lookups b) objects links) (start objects links ∷ [])
