-- docs/RULES.md, section 9: the hand-counted cases on lent memory, by the definitions that the public promises cite. Every store, output
-- and work memory is lent with something stale in it.
use Rattle.std.specs.Prelude.{ℕ, List, [], ◌∷◌, ◌++◌, map, Bool, true, ◌&&◌, replicate, eqb}
use Rattle.lists.specs.Lists.{pick, over, same_list}
use Rattle.answer.specs.declared.tally.Tally.{Tally}
use Rattle.model.specs.Judge.{Limits}
use Rattle.model.specs.Session.{SessionCall, start_call, open_call, put_call, link_call, close_call, drop_call, tally_call, Call, session_call, pack_call}
use Rattle.model.specs.Cases.{Case, ids_in}
use Rattle.layout.specs.Words.{need}
use Rattle.steps.specs.Runs.{StoreCall, start, open', put, link, close, drop, tally, LentCall, on_stores, pack}
use Rattle.work.specs.Areas.{work_need}
use Rattle.claims.specs.Demand.{Made, run}

abbrev stale : ℕ
stale = 0xa5

-- ---- a case's calls on lent memory, from its start on

abbrev on_store : SessionCall → StoreCall
on_store (start_call m records) = start m.objects m.links
on_store open_call = open'
on_store (put_call vs) = put vs
on_store (link_call w id inner) = link w id inner
on_store close_call = close
on_store drop_call = drop
on_store tally_call = tally

-- a pack is lent as much work memory as it needs
abbrev lent : Limits → Call → LentCall
lent m (session_call c) = on_stores (on_store c)
lent m (pack_call id copies out work) = pack id copies (replicate out stale) (replicate (work_need m.objects m.links copies) stale)

abbrev calls_of : Case → List Call
calls_of c = session_call (start_call c.limits 0) ∷ c.calls

abbrev made_in : Case → List Made
made_in c =
    let m = c.limits in
    run (map (lent m) (calls_of c)) (record { bytes = replicate m.bytes stale; words = replicate (need m.objects m.links) stale })

-- ---- what they tell and leave

unfoldable pub ids_told : List Call → List Made → List ℕ
ids_told [] ms = []
ids_told (c ∷ cs) [] = []
ids_told (session_call c ∷ cs) (m ∷ ms) = ids_in c m.left.told.id ++ ids_told cs ms
ids_told (pack_call id copies out work ∷ cs) (m ∷ ms) = ids_told cs ms

-- the counts beside the last answer
unfoldable pub counts_told : Tally → List Made → List ℕ
counts_told t [] = t.bytes ∷ t.links ∷ t.objects ∷ t.depth ∷ []
counts_told t (m ∷ ms) = counts_told m.left.told.tally ms

-- an accepted pack leaves the table in front of the output and zeros in the work memory; the one that is refused here touches neither
unfoldable pub memory_right : Case → List Call → List Made → Bool
memory_right c [] ms = true
memory_right c (k ∷ ks) [] = true
memory_right c (session_call k ∷ ks) (m ∷ ms) = memory_right c ks ms
memory_right c (pack_call id copies out work ∷ ks) (m ∷ ms) =
    let done = eqb m.left.told.number 0 in
    same_list eqb m.left.out (over 0 (pick done c.table []) (replicate out stale))
    && (same_list eqb m.left.work (replicate (work_need c.limits.objects c.limits.links copies) (pick done 0 stale)) && memory_right c ks ms)

unfoldable pub right : Case → Bool
right c =
    let ms = made_in c in
    same_list eqb (map (λ (m : Made). m.left.told.number) ms) (0 ∷ c.numbers)
    && (same_list eqb (ids_told (calls_of c) ms) c.ids
    && (same_list eqb (counts_told (record { bytes = 0; links = 0; objects = 0; depth = 0 }) ms) c.counts && memory_right c (calls_of c) ms))

unfoldable pub all_right : List Case → Bool
all_right [] = true
all_right (c ∷ cs) = right c && all_right cs
