-- docs/RULES.md, section 14: batches counted by hand, by one claim over a list of them.
use Rattle.std.specs.Prelude.{ℕ, List, [], ◌∷◌, ◌++◌, Bool, true, ◌&&◌, eqb, replicate}
use Rattle.lists.specs.Lists.{same_list}
use Rattle.answer.specs.declared.tally.Tally.{Tally}
use Rattle.layout.specs.Words.{need}
use Rattle.steps.specs.Runs.{start, Stores, stores, step_on}
use Rattle.session_batch.specs.Batch.{BatchLeft, batch_step}

-- a batch on these stores, with an area for ids and a work memory; and what it tells and leaves: its number, how many calls and ids, the tally, and both areas
pub record Case : Type 0 where
  pub on : Stores
  pub words : List ℕ
  pub bytes : List ℕ
  pub ids : List ℕ
  pub work : List ℕ
  pub number : ℕ
  pub calls : ℕ
  pub told : ℕ
  pub counts : List ℕ
  pub ids_left : List ℕ
  pub work_left : List ℕ

abbrev counts_of : Tally → List ℕ
counts_of t = t.bytes ∷ t.links ∷ t.objects ∷ t.depth ∷ []

abbrev same : List ℕ → List ℕ → Bool
same l m = same_list eqb l m

abbrev agrees : Case → BatchLeft → Bool
agrees c l =
    eqb l.told.number c.number
    && eqb l.told.calls c.calls
    && eqb l.told.told c.told
    && same (counts_of l.told.tally) c.counts
    && same l.ids c.ids_left
    && same l.work c.work_left

unfoldable pub all_agree : List Case → Bool
all_agree [] = true
all_agree (c ∷ cs) = agrees c (batch_step c.words c.bytes c.ids c.work c.on) && all_agree cs

-- ---- the cases

-- room for two objects, two links and eight bytes
abbrev empty : Stores
empty = stores (replicate 8 0) (replicate (need 2 2) 0)

abbrev fresh : Stores
fresh = (step_on (start 2 2) empty).stores

-- the work memory: eight words are needed, and one is surplus
abbrev before : List ℕ
before = replicate 9 7

abbrev after : List ℕ
after = replicate 8 0 ++ (7 ∷ [])

-- an accepted batch, or one that ends at a call; there is room for three ids
abbrev ends : List ℕ → List ℕ → ℕ → ℕ → ℕ → List ℕ → List ℕ → Case
ends words bytes number calls told counts ids =
    record { on = fresh; words = words; bytes = bytes; ids = 9 ∷ 9 ∷ 9 ∷ []; work = before; number = number; calls = calls; told = told; counts = counts; ids_left = ids; work_left = after }

-- one that changes nothing
abbrev refuses : Stores → List ℕ → ℕ → Case
refuses s work number =
    record { on = s; words = 1 ∷ []; bytes = []; ids = 9 ∷ []; work = work; number = number; calls = 0; told = 0; counts = 0 ∷ 0 ∷ 0 ∷ 0 ∷ []; ids_left = 9 ∷ []; work_left = work }

abbrev none : List ℕ
none = 9 ∷ 9 ∷ 9 ∷ []

abbrev pub cases : List Case
cases =
    -- no words
    ends [] [] 0 0 0 (0 ∷ 0 ∷ 0 ∷ 0 ∷ []) none
    -- two equal leaves, and a parent with a link to what the second close told
    ∷ ends (1 ∷ 2 ∷ 1 ∷ 5 ∷ 1 ∷ 2 ∷ 1 ∷ 5 ∷ 1 ∷ 4 ∷ 2 ∷ 1 ∷ 0 ∷ 5 ∷ []) (0x64 ∷ 0x64 ∷ []) 0 9 3 (3 ∷ 1 ∷ 2 ∷ 0 ∷ []) (0 ∷ 0 ∷ 1 ∷ [])
    -- a link by id, and a drop
    ∷ ends (1 ∷ 2 ∷ 1 ∷ 5 ∷ 1 ∷ 3 ∷ 2 ∷ 0 ∷ 0 ∷ 6 ∷ []) (0x64 ∷ []) 0 6 1 (1 ∷ 0 ∷ 1 ∷ 0 ∷ []) (0 ∷ 9 ∷ 9 ∷ [])
    -- each put takes the bytes behind the last
    ∷ ends (1 ∷ 2 ∷ 1 ∷ 2 ∷ 1 ∷ 5 ∷ 1 ∷ 2 ∷ 2 ∷ 5 ∷ []) (0x61 ∷ 0x62 ∷ 0x61 ∷ 0x62 ∷ []) 0 7 2 (2 ∷ 0 ∷ 1 ∷ 0 ∷ []) (0 ∷ 0 ∷ 9 ∷ [])
    -- a refused call ends it
    ∷ ends (1 ∷ 5 ∷ 1 ∷ []) [] 5 1 0 (0 ∷ 0 ∷ 0 ∷ 1 ∷ []) none
    -- another first word
    ∷ ends (1 ∷ 7 ∷ 1 ∷ []) [] 19 1 0 (0 ∷ 0 ∷ 0 ∷ 1 ∷ []) none
    ∷ ends (0 ∷ 1 ∷ []) [] 19 0 0 (0 ∷ 0 ∷ 0 ∷ 0 ∷ []) none
    -- words cut short
    ∷ ends (1 ∷ 2 ∷ []) [] 19 1 0 (0 ∷ 0 ∷ 0 ∷ 1 ∷ []) none
    ∷ ends (1 ∷ 3 ∷ 2 ∷ 0 ∷ []) [] 19 1 0 (0 ∷ 0 ∷ 0 ∷ 1 ∷ []) none
    -- fewer bytes left than a put names, judged before the put, with nothing open
    ∷ ends (2 ∷ 2 ∷ []) (0x64 ∷ []) 19 0 0 (0 ∷ 0 ∷ 0 ∷ 0 ∷ []) none
    -- a link to what no close told
    ∷ ends (1 ∷ 4 ∷ 2 ∷ 0 ∷ 0 ∷ []) [] 19 1 0 (0 ∷ 0 ∷ 0 ∷ 1 ∷ []) none
    -- no room for the id of a close that would be refused
    ∷ ends (1 ∷ 2 ∷ 1 ∷ 5 ∷ 1 ∷ 2 ∷ 1 ∷ 5 ∷ 1 ∷ 2 ∷ 1 ∷ 5 ∷ 5 ∷ []) (0x64 ∷ 0x64 ∷ 0x64 ∷ []) 19 9 3 (1 ∷ 0 ∷ 1 ∷ 0 ∷ []) (0 ∷ 0 ∷ 0 ∷ [])
    -- a work memory below its need, and stores that are not sound, which is told first
    ∷ refuses fresh (replicate 7 7) 13
    ∷ refuses empty (replicate 7 7) 12
    ∷ []
