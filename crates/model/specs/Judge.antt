-- docs/RULES.md, section 6: for each call the refusals in the order of 6.1, of which the first that applies is told. The ranges are those of 3.1 and 3.2.
use Rattle.std.specs.Prelude.{ℕ, ◌+◌, ◌*◌, ◌≡◌, List, [], ◌∷◌, ◌++◌, Bool, true, false, not, ◌&&◌, ◌||◌, eqb, leb, ltb}
use Rattle.lists.specs.Lists.{pick, holds}
use Rattle.answer.specs.Number.{number}
use Rattle.answer.specs.declared.tally.Tally.{Tally}
use Rattle.answer.specs.declared.Refusal.{Refusal}
use Rattle.answer.specs.declared.Refusal.TheVariants as Refusal
use Rattle.model_orders.specs.Object.{Slot, slot_ok}
use Rattle.model_orders.specs.Table.{Outcome, placed, overflow}

-- ---- ranges

abbrev pub most_objects : ℕ
most_objects = 16384

abbrev pub most_links : ℕ
most_links = 65536

abbrev pub most_bytes : ℕ
most_bytes = 16777216

abbrev pub most_open : ℕ
most_open = 64

-- the copies that a pack may be allowed
abbrev pub most_copies : ℕ
most_copies = 1024

-- how many words the record store may need at the most, and with so many copies the work memory
abbrev pub most_need : ℕ → ℕ → ℕ
most_need objects links = 4096 + 64 * (objects + links)

abbrev pub most_work_need : ℕ → ℕ → ℕ → ℕ
most_work_need objects links copies = most_need objects links + 64 * (copies * (links + 1))

-- what a start chooses: the object limit (the piece limit), the link limit, and the byte store by its length
pub record Limits : Type 0 where
  pub objects : ℕ
  pub links : ℕ
  pub bytes : ℕ

-- ---- verdicts

pub data Verdict : Type 0 where
  accepted : Verdict
  refused : Refusal → Verdict

abbrev pub number_of : Verdict → ℕ
number_of accepted = 0
number_of (refused why) = number why

-- 0 to 13, and 16: no other number is told
abbrev pub in_table : ℕ → Bool
in_table k = leb k 13 || eqb k 16

-- 12 and 13 come with zeros for the tally
abbrev pub no_tally_beside : ℕ → Bool
no_tally_beside k = eqb k 12 || eqb k 13

pub record Test : Type 0 where
  pub applies : Bool
  pub tells : Refusal

abbrev pub when : Bool → Refusal → Test
when b r = record { applies = b; tells = r }

unfoldable pub verdict : List Test → Verdict
verdict [] = accepted
verdict (t ∷ ts) = pick t.applies (refused t.tells) (verdict ts)

-- the number that tests tell: that of the first that applies, or 0 where none does
pub data Tells : List Test → ℕ → Type 0 where
  none : {k : ℕ} → k ≡ 0 → Tells [] k
  this : {t : Test} {ts : List Test} {k : ℕ} → t.applies ≡ true → k ≡ number t.tells → Tells (t ∷ ts) k
  next : {t : Test} {ts : List Test} {k : ℕ} → t.applies ≡ false → Tells ts k → Tells (t ∷ ts) k

-- ---- tests: whether the session is sound, what it holds, what a call brings

abbrev pub unsound : Bool → Test
unsound sound = when (not sound) Refusal.Unsound

abbrev pub nothing_open : Tally → Test
nothing_open t = when (eqb t.depth 0) Refusal.NothingOpen

abbrev pub not_closed : Tally → ℕ → Test
not_closed t id = when (leb t.objects id) Refusal.NotClosed

-- n bytes more
abbrev pub store_full : Limits → Tally → ℕ → Test
store_full m t n = when (ltb m.bytes (t.bytes + n)) Refusal.StoreFull

-- a width that no field has, or an inner start past the field
abbrev pub bad_field : Slot → Test
bad_field s = when (not (slot_ok s)) Refusal.BadField

abbrev pub links_full : Limits → Tally → Test
links_full m t = when (leb m.links t.links) Refusal.LinksFull

abbrev pub copies_beyond : ℕ → Test
copies_beyond copies = when (ltb most_copies copies) Refusal.OutOfRange

-- `work` words are lent, and `need` are needed
abbrev pub work_short : ℕ → ℕ → Test
work_short work need = when (ltb work need) Refusal.OutOfRange

abbrev pub object_open : Tally → Test
object_open t = when (not (eqb t.depth 0)) Refusal.ObjectOpen

-- `out` bytes are lent, and the table has `length`
abbrev pub output_short : ℕ → ℕ → Test
output_short out length = when (ltb out length) Refusal.OutputShort

abbrev pub overflows : Outcome → List Test
overflows (placed o) = []
overflows (overflow u) = when true (Refusal.Overflow u) ∷ []

-- ---- the tests of each of the eight calls

abbrev pub in_range : Limits → List Bool
in_range m = leb 1 m.objects ∷ leb m.objects most_objects ∷ leb m.links most_links ∷ leb 1 m.bytes ∷ leb m.bytes most_bytes ∷ []

-- `records` words are lent, and `need` are needed
abbrev pub start_tests : Limits → ℕ → ℕ → List Test
start_tests m need records = when (not (holds (in_range m) && leb need records)) Refusal.OutOfRange ∷ []

abbrev pub open_tests : Bool → Tally → List Test
open_tests sound t = unsound sound ∷ when (leb most_open t.depth) Refusal.DepthFull ∷ []

abbrev pub put_tests : Bool → Limits → Tally → ℕ → List Test
put_tests sound m t n = unsound sound ∷ nothing_open t ∷ store_full m t n ∷ []

-- `s` is the field that the link would append
abbrev pub link_tests : Bool → Limits → Tally → Slot → ℕ → List Test
link_tests sound m t s id =
    unsound sound ∷ nothing_open t ∷ bad_field s ∷ not_closed t id ∷ links_full m t ∷ store_full m t s.width ∷ []

-- `size` is the innermost open object's, and `hopeless` whether it has a field that no order can fill; `twin` the lowest id of an equal closed one, or the count of closed ones
abbrev pub close_tests : Bool → Limits → Tally → ℕ → Bool → ℕ → List Test
close_tests sound m t size hopeless twin =
    unsound sound
    ∷ nothing_open t
    ∷ when (eqb size 0) Refusal.EmptyObject
    ∷ when hopeless Refusal.Hopeless
    ∷ when (leb t.objects twin && leb m.objects t.objects) Refusal.ObjectsFull
    ∷ []

abbrev pub drop_tests : Bool → Tally → List Test
drop_tests sound t = unsound sound ∷ nothing_open t ∷ []

abbrev pub tally_tests : Bool → List Test
tally_tests sound = unsound sound ∷ []

-- `length` is that of the outcome's table
abbrev pub pack_tests : Bool → Tally → ℕ → ℕ → ℕ → ℕ → ℕ → ℕ → Outcome → List Test
pack_tests sound t id copies work need out length outcome =
    unsound sound
    ∷ copies_beyond copies
    ∷ work_short work need
    ∷ object_open t
    ∷ not_closed t id
    ∷ (overflows outcome ++ (output_short out length ∷ []))

-- ---- the verdict on each

abbrev pub judge_start : Limits → ℕ → ℕ → Verdict
judge_start m need records = verdict (start_tests m need records)

abbrev pub judge_open : Bool → Tally → Verdict
judge_open sound t = verdict (open_tests sound t)

abbrev pub judge_put : Bool → Limits → Tally → ℕ → Verdict
judge_put sound m t n = verdict (put_tests sound m t n)

abbrev pub judge_link : Bool → Limits → Tally → Slot → ℕ → Verdict
judge_link sound m t s id = verdict (link_tests sound m t s id)

abbrev pub judge_close : Bool → Limits → Tally → ℕ → Bool → ℕ → Verdict
judge_close sound m t size hopeless twin = verdict (close_tests sound m t size hopeless twin)

abbrev pub judge_drop : Bool → Tally → Verdict
judge_drop sound t = verdict (drop_tests sound t)

abbrev pub judge_tally : Bool → Verdict
judge_tally sound = verdict (tally_tests sound)

abbrev pub judge_pack : Bool → Tally → ℕ → ℕ → ℕ → ℕ → ℕ → ℕ → Outcome → Verdict
judge_pack sound t id copies work need out length outcome = verdict (pack_tests sound t id copies work need out length outcome)
