-- A memory that no answer shows at first, and that the claim refuses at once: after an accepted put of 61 the store holds 62.
use mathlib.Core.Path.{◌≡◌, refl, ap}
use Prim.Native.Nat.{ℕ}
use mathlib.Core.List.{List, [], ◌∷◌}
use native.Mathlib.Omega.{arith}
use lib.ListN.{get_or, replicate}
use Rattle.lists.specs.Lists.{over, holds, zeros, total}
use Rattle.model_orders.specs.Reading.{bytes_of, field_count, read_links, readings_from, readings}
use Rattle.model.specs.Judge.{Limits, verdict}
use Rattle.model.specs.History.{History, history_of, innermost_reading, begun, put_on, judged, accept, after, after_all}
use Rattle.layout.specs.Tables.{chain, chained, for_all}
use Rattle.layout.specs.Words.{need, links_of}
use Rattle.layout.specs.Fields.{field_tests, fields_ok}
use Rattle.layout.specs.Sound.{head_tests, head_ok, table_tests, sound_tests, sound}
use Rattle.layout.specs.Decode.{opens_to, closed_to, decode}
use Rattle.steps.specs.Steps.{start_step, open_step, put_step}
use Rattle.steps.specs.Runs.{start, open', put, Stores, stores, step_on, on_stores, stores_left, as_call}
use Rattle.claims.specs.Demand.{Made, as_lent, after_one, AllClaim}

abbrev size : ℕ
size = 2

abbrev limits : Limits
limits = record { objects = 1; links = 0; bytes = size }

abbrev words : ℕ
words = need 1 0

-- one object open, of no bytes
abbrev opened : Stores
opened = (step_on open' (step_on (start 1 0) (stores (replicate size 0) (replicate words 0))).stores).stores

abbrev history : History
history = after_one size words (on_stores open') (begun limits)

-- the words that the put leaves, with another byte
abbrev put62 : Made
put62 =
    let l = step_on (put (0x61 ∷ [])) opened in
    record { call = on_stores (put (0x61 ∷ [])); left = stores_left (record { told = l.told; stores = stores (0x62 ∷ 0 ∷ []) l.stores.words }) }

-- the first byte of the innermost open object
abbrev first_byte : History → ℕ
first_byte h = get_or (bytes_of (innermost_reading h.opens)) 0 0

stored : first_byte (history_of (decode put62.left.stores.bytes put62.left.stores.words)) ≡ 0x62
unfolding bytes_of read_links readings readings_from links_of opens_to closed_to decode step_on start_step open_step put_step verdict over holds head_tests head_ok table_tests sound_tests sound field_tests fields_ok chain chained for_all zeros
stored = refl

written : first_byte (after_one size words put62.call history) ≡ 0x61
unfolding bytes_of put_on accept judged after after_all as_lent as_call verdict total field_count
written = refl

pub other-byte-refused : AllClaim size words (put62 ∷ []) opened history → ⊥
unfolding AllClaim
other-byte-refused k = omega (arith, stored, written, ap first_byte k.4.objects)
